-- The records that the calls write fit their places and are sound: a new one, and one with a changed key.
-- Assumes nothing.
use Rattle.std.specs.Prelude.{None}
use mathlib.Core.Path.{◌≡◌, refl, ap, ap₂, ◌∙◌}
use mathlib.Core.Bool.{true}
use Prim.Native.Nat.{ℕ, ◌^◌, ◌≤◌, ◌<◌}
use borrow.Author.Tests.{eq-eqb, lt-ltb, le-leb}
use lib.ListN.{length, replicate}
use Rattle.ground.specs.Choice.{both, between}
use Rattle.ground.specs.Lists.{all}
use Rattle.ground.proofs.Choices.{left, right, join}
use Rattle.keys.specs.Keys.{combined, working_key0}
use Rattle.keys.proofs.Laws.{combined_odd, combined-lt, working_key_0_odd, working_key_0_lt}
use Rattle.customer.specs.Customer.{sound_previous, sound_keys, sound_stamps, sound_customer}
use Rattle.customer.specs.Settings.{sound_who}
use Rattle.customer.specs.declared.KeyPair.{KeyPair}
use Rattle.customer.specs.declared.Customer.{Customer}
use Rattle.calendar.specs.declared.CalendarDays.{CalendarDays}
use Rattle.calendar.specs.declared.Date.{Date}
use Rattle.changeover.specs.Changes.{changed, with_keys, with_transport, with_working}
use Rattle.table.specs.Table.{word, previous_fits, pair_fits, customer_fits}
use Rattle.refusals.specs.Length.{length_of}
use Rattle.table_calls.specs.Calls.{new_customer}
use Rattle.table_calls.specs.declared.Adding.{Adding}

-- ---- a new one

no_keys : all word (replicate 64 0) ≡ true
unfolding all both
no_keys = refl

no_stamps : sound_stamps 0 (replicate 64 0) (replicate 64 0) ≡ true
unfolding sound_stamps both
no_stamps = refl

pub new_fits : (a : Adding) → length a.who ≡ 25 → customer_fits (new_customer a) ≡ true
unfolding customer_fits new_customer previous_fits
new_fits a n =
    join _ _ (eq-eqb _ 25 n)
    (join _ _ refl
    (join _ _ refl
    (join _ _ no_keys
    (join _ _ (join _ _ (lt-ltb _ _ (combined-lt a.part1 a.part2)) refl) (join _ _ (lt-ltb _ _ (working_key_0_lt _)) refl)))))

pub new_sound : (a : Adding) → sound_who a.who ≡ true → a.generation ≤ 9 → a.types < 2 ^ 16
    → between 1 60 (length_of a.length).0 ≡ true → sound_customer (new_customer a) ≡ true
unfolding sound_customer new_customer sound_keys sound_previous
new_sound a w g y d =
    join _ _ w
    (join _ _ (lt-ltb _ _ y)
    (join _ _ d
    (join _ _ (join _ _ (le-leb _ 9 g) (join _ _ (combined_odd a.part1 a.part2) refl))
    (join _ _ (join _ _ refl (join _ _ (working_key_0_odd _) refl)) (join _ _ refl no_stamps)))))

-- from its numbers as code computes them
abbrev pub new_by : Adding → CalendarDays → ℕ → ℕ → Customer
new_by a days key first =
    record {
      who = a.who;
      types = a.types;
      agreed = a.agreed;
      leave = a.leave;
      length = days;
      transport = record { generation = a.generation; key = key; previous = None };
      working = record { generation = 0; key = first; previous = None };
      count = 0;
      stamps = replicate 64 0;
      once = replicate 64 0;
    }

pub new_by_lem : (a : Adding) (days : CalendarDays) (key first : ℕ) → days ≡ length_of a.length
    → key ≡ combined a.part1 a.part2 → first ≡ working_key0 key → new_by a days key first ≡ new_customer a
unfolding new_customer
new_by_lem a days key first e f g =
    ap (new_by a days key) g
    ∙ ap₂ (λ (d : CalendarDays) (k : ℕ). new_by a d k (working_key0 k)) e f

-- ---- one with a changed key

changed_fits : (old : KeyPair) (generation key : ℕ) (today : Date) (days : CalendarDays) → pair_fits old ≡ true → key < 2 ^ 64
    → pair_fits (changed old generation key today days) ≡ true
unfolding changed previous_fits
changed_fits old generation key today days f k = join _ _ (lt-ltb _ _ k) (left _ _ f)

module _ (c : Customer) (f : customer_fits c ≡ true) where
  transport_fits : pair_fits c.transport ≡ true
  unfolding customer_fits
  transport_fits = left _ _ (right _ _ (right _ _ (right _ _ (right _ _ f))))

  working_fits : pair_fits c.working ≡ true
  unfolding customer_fits
  working_fits = right _ _ (right _ _ (right _ _ (right _ _ (right _ _ f))))

  keys_fit : (transport working : KeyPair) → pair_fits transport ≡ true → pair_fits working ≡ true
      → customer_fits (with_keys c transport working) ≡ true
  unfolding customer_fits with_keys
  keys_fit transport working p q =
      let f₁ = right _ _ f in
      let f₂ = right _ _ f₁ in
      let f₃ = right _ _ f₂ in
      join _ _ (left _ _ f) (join _ _ (left _ _ f₁) (join _ _ (left _ _ f₂) (join _ _ (left _ _ f₃) (join _ _ p q))))

  pub with_transport_fits : (generation key : ℕ) (today : Date) → key < 2 ^ 64 → customer_fits (with_transport c generation key today) ≡ true
  unfolding with_transport
  with_transport_fits generation key today k =
      keys_fit _ _ (changed_fits c.transport generation key today c.length transport_fits k) working_fits

  pub with_working_fits : (key : ℕ) (today : Date) → key < 2 ^ 64 → customer_fits (with_working c key today) ≡ true
  unfolding with_working
  with_working_fits key today k =
      keys_fit _ _ transport_fits (changed_fits c.working _ key today c.length working_fits k)

pub transport_who : (c : Customer) (generation key : ℕ) (today : Date) → (with_transport c generation key today).who ≡ c.who
unfolding with_transport with_keys
transport_who c generation key today = refl

pub working_who : (c : Customer) (key : ℕ) (today : Date) → (with_working c key today).who ≡ c.who
unfolding with_working with_keys
working_who c key today = refl
