-- What is right of a sound table, and that the changes which a call may make keep it so: each is one part of the test.
-- Assumes nothing.
use Rattle.std.specs.Prelude.{None, Some}
use mathlib.Core.Path.{◌≡◌}
use mathlib.Core.List.{[], ◌∷◌, ◌++◌}
use mathlib.Core.Bool.{true}
use Prim.Native.Nat.{ℕ, ◌+◌, ◌≤◌, ◌<◌, ◌^◌}
use native.Mathlib.Omega.{arith}
use borrow.Author.Tests.{leb-true, le-leb, lt-ltb}
use lib.ListN.{length, set, length-set, length-append}
use Rattle.ground.specs.Lists.{all}
use Rattle.ground.proofs.Choices.{left, right, join}
use Rattle.calendar.specs.Dates.{real_date}
use Rattle.customer.specs.Customer.{sound_customer}
use Rattle.customer.specs.Settings.{sound_settings}
use Rattle.customer.specs.declared.Customer.{Customer}
use Rattle.table.specs.Table.{Table, customer_fits, settings_fit, rising, distinct, each_sound, sound_table, place_of, customer_in}
use Rattle.table.specs.Table.{with_customer, with_added, with_day, with_seed}
use Rattle.table.proofs.Places

pub record Sound (t : Table) : Type 0 where
  pub day : real_date t.day ≡ true
  pub fit : settings_fit t.settings ≡ true
  pub settings : sound_settings t.settings ≡ true
  pub holidays : length t.holidays ≤ 200
  pub dates : all real_date t.holidays ≡ true
  pub rises : rising t.holidays ≡ true
  pub customers : length t.customers ≤ 32
  pub each : each_sound t.customers ≡ true
  pub distinct : distinct t.customers ≡ true

pub parts : (t : Table) → sound_table t ≡ true → Sound t
unfolding sound_table
parts t e =
    let e₁ = right _ _ e in
    let e₂ = right _ _ e₁ in
    let e₃ = right _ _ e₂ in
    let e₄ = right _ _ e₃ in
    let e₅ = right _ _ e₄ in
    let e₆ = right _ _ e₅ in
    record {
      day = left _ _ e;
      fit = left _ _ (left _ _ e₁);
      settings = right _ _ (left _ _ e₁);
      holidays = leb-true _ _ (left _ _ e₂);
      dates = left _ _ e₃;
      rises = left _ _ e₄;
      customers = leb-true _ _ (left _ _ e₅);
      each = left _ _ e₆;
      distinct = right _ _ e₆;
    }

pub whole : (t : Table) → Sound t → sound_table t ≡ true
unfolding sound_table
whole t s =
    join _ _ s.day
    (join _ _ (join _ _ s.fit s.settings)
    (join _ _ (le-leb _ _ s.holidays)
    (join _ _ s.dates
    (join _ _ s.rises (join _ _ (le-leb _ _ s.customers) (join _ _ s.each s.distinct))))))

-- ---- the changes that a call may make

-- another record that fits and is sound, with the same name
pub sound_with : (t : Table) (i : ℕ) (c : Customer) → sound_table t ≡ true → customer_fits c ≡ true → sound_customer c ≡ true
    → c.who ≡ (customer_in t i).who → sound_table (with_customer t i c) ≡ true
unfolding with_customer
sound_with t i c e f o w =
    let s = parts t e in
    let n : length (set t.customers i c) ≡ length t.customers = length-set t.customers i c in
    whole _
    (record {
      day = s.day;
      fit = s.fit;
      settings = s.settings;
      holidays = s.holidays;
      dates = s.dates;
      rises = s.rises;
      customers = omega (arith, s.customers);
      each = Places.each_set t.customers i c (join _ _ f o) s.each;
      distinct = Places.distinct_with t i c w s.distinct;
    })

-- one customer more, whose name is not there, where there is room
pub sound_added : (t : Table) (c : Customer) → sound_table t ≡ true → customer_fits c ≡ true → sound_customer c ≡ true
    → place_of t c.who ≡ None → length t.customers < 32 → sound_table (with_added t c) ≡ true
unfolding with_added
sound_added t c e f o u n =
    let s = parts t e in
    let m : length (t.customers ++ (c ∷ [])) ≡ length t.customers + 1 = length-append t.customers (c ∷ []) in
    whole _
    (record {
      day = s.day;
      fit = s.fit;
      settings = s.settings;
      holidays = s.holidays;
      dates = s.dates;
      rises = s.rises;
      customers = omega arith;
      each = Places.each_more t.customers c (join _ _ f o) s.each;
      distinct = Places.distinct_more t.customers c (Places.unknown_of t c.who u) s.distinct;
    })

-- another real day
pub sound_day : (t : Table) (d : ℕ) → sound_table t ≡ true → real_date d ≡ true → sound_table (with_day t d) ≡ true
unfolding with_day
sound_day t d e r =
    let s = parts t e in
    whole _
    (record {
      day = r;
      fit = s.fit;
      settings = s.settings;
      holidays = s.holidays;
      dates = s.dates;
      rises = s.rises;
      customers = s.customers;
      each = s.each;
      distinct = s.distinct;
    })

-- another seed of eight bytes
pub sound_seed : (t : Table) (v : ℕ) → sound_table t ≡ true → v < 2 ^ 64 → sound_table (with_seed t v) ≡ true
unfolding with_seed settings_fit sound_settings
sound_seed t v e h =
    let s = parts t e in
    let f = s.fit in
    let f₁ = right _ _ f in
    let f₂ = right _ _ f₁ in
    whole _
    (record {
      day = s.day;
      fit = join _ _ (left _ _ f) (join _ _ (left _ _ f₁) (join _ _ (left _ _ f₂) (lt-ltb _ _ h)));
      settings = s.settings;
      holidays = s.holidays;
      dates = s.dates;
      rises = s.rises;
      customers = s.customers;
      each = s.each;
      distinct = s.distinct;
    })

-- each customer's name is found at its own place
pub unique : (t : Table) (i : ℕ) → sound_table t ≡ true → i < length t.customers → place_of t (customer_in t i).who ≡ Some i
unique t i e h = Places.unique_from t i (parts t e).distinct h
