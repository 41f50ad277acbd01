-- A stamp that was accepted stays used: in the table after a call each record stands in its place and holds all its stamps
-- but those that are too old, the day does not go back, and the holidays are the same, so that what is too old stays so.
-- Assumes nothing.
use Rattle.std.specs.Prelude.{Some}
use Prim.Native.Nat.{ℕ, ◌≤◌, ◌<◌}
use mathlib.Core.Path.{◌≡◌, refl, sym, ap, ◌∙◌}
use mathlib.Core.List.{List, [], ◌∷◌}
use mathlib.Core.Bool.{Bool, true, false, false≢true}
use native.Mathlib.Omega.{arith}
use borrow.Author.Tests.{le-ltb}
use lib.ListN.{length, length-set, length-append}
use Rattle.ground.proofs.Numbers.{each_place}
use Rattle.calendar.specs.Dates.{dated, earlier, place_in_order}
use Rattle.calendar.specs.Banking.{too_old}
use Rattle.calendar.specs.declared.Date.{Date}
use Rattle.calendar.proofs.Old.{too_old_stays}
use Rattle.keys.specs.Keys.{combined}
use Rattle.keys.specs.Maker.{key_of}
use Rattle.customer.specs.declared.Customer.{Customer}
use Rattle.changeover.specs.Changes.{with_keys, with_transport, with_working}
use Rattle.acceptance.specs.Stamps.{holds_stamp, stamp_old, stamp_date}
use Rattle.table.specs.Table.{Table, sound_table, place_of, customer_in, with_customer, with_added, with_day, with_seed}
use Rattle.table.specs.Named.{named, with_named}
use Rattle.table.proofs.Places.{stored_is, found_is, named_at, with_named_at, day_in, seed_in}
use Rattle.table.proofs.Sound.{parts, unique}
use Rattle.table_calls.specs.Calls.{new_customer, added_to, entered_in, ordered_in}
use Rattle.table_calls.specs.declared.Adding.{Adding}
use Rattle.table_calls.specs.declared.Entering.{Entering}
use Rattle.table_calls.specs.declared.Ordering.{Ordering}
use Rattle.table_calls.proofs.Laws.{added_others, entered_others, ordered_others, added_keeps, entered_keeps, ordered_keeps}
use Rattle.message.specs.Fields.{sender_of, stamp_of}
use Rattle.law_history.proofs.Accepts.{Took}

-- u may come after t
pub record Onward (t u : Table) : Type 0 where
  pub sound : sound_table u ≡ true
  pub holidays : u.holidays ≡ t.holidays
  pub day : earlier u.day t.day ≡ false
  pub there : length t.customers ≤ length u.customers
  pub who : (i : ℕ) → i < length t.customers → (customer_in u i).who ≡ (customer_in t i).who
  pub kept : (i : ℕ) → i < length t.customers → (s : ℕ) → holds_stamp (customer_in t i) s ≡ true
      → stamp_old t.holidays (dated t.day) s ≡ false
      → holds_stamp (customer_in u i) s ≡ true

-- the customer's record holds the stamp, or the stamp is too old
pub data Used (t : Table) (who : List ℕ) (s : ℕ) : Type 0 where
  held : (i : ℕ) → place_of t who ≡ Some i → holds_stamp (customer_in t i) s ≡ true → Used t who s
  old : stamp_old t.holidays (dated t.day) s ≡ true → Used t who s

module _ (t u : Table) (e : sound_table t ≡ true) (o : Onward t u) (who : List ℕ) (s : ℕ) where
  old_onward : stamp_old t.holidays (dated t.day) s ≡ true → Used u who s
  old_onward q =
      old
      (ap (λ (hs : List ℕ). too_old hs (stamp_date s) (dated u.day)) o.holidays
      ∙ too_old_stays t.holidays (stamp_date s) (dated t.day) (dated u.day) (parts t e).day (parts u o.sound).day o.day q)

  place_onward : (i : ℕ) → place_of t who ≡ Some i → place_of u who ≡ Some i
  place_onward i p =
      let f = found_is t who i p in
      let k : i < length u.customers = omega (arith, f.0, o.there) in
      ap (place_of u) (sym (o.who i f.0 ∙ f.1)) ∙ unique u i o.sound k

  by_age : (b : Bool) → stamp_old t.holidays (dated t.day) s ≡ b → (i : ℕ) → place_of t who ≡ Some i
      → holds_stamp (customer_in t i) s ≡ true → Used u who s
  by_age true q i p h = old_onward q
  by_age false q i p h = held i (place_onward i p) (o.kept i (found_is t who i p).0 s h q)

  -- a stamp that is used stays used
  pub used_onward : Used t who s → Used u who s
  used_onward (held i p h) = by_age (stamp_old t.holidays (dated t.day) s) refl i p h
  used_onward (old q) = old_onward q

-- ---- one record changes

not_before : (d : ℕ) → earlier d d ≡ false
unfolding earlier
not_before d = le-ltb (place_in_order d) (place_in_order d) (omega arith)

pub day_stays : (t u : Table) → u.day ≡ t.day → earlier u.day t.day ≡ false
day_stays t u e = ap (λ (d : ℕ). earlier d t.day) e ∙ not_before t.day

-- what holds of a place, and of every other, holds of each
module _ (t u : Table) (i : ℕ) (others : (j : ℕ) → (i ≡ j → ⊥) → customer_in u j ≡ customer_in t j) where
  one_changed : sound_table u ≡ true → u.holidays ≡ t.holidays → earlier u.day t.day ≡ false → length u.customers
      ≡ length t.customers
      → (customer_in u i).who ≡ (customer_in t i).who
      → ((s : ℕ) → holds_stamp (customer_in t i) s ≡ true → stamp_old t.holidays (dated t.day) s ≡ false
      → holds_stamp (customer_in u i) s ≡ true)
      → Onward t u
  one_changed e h d n w k =
      record {
        sound = e;
        holidays = h;
        day = d;
        there = omega arith;
        who = λ j l. each_place (λ (x : ℕ). (customer_in u x).who ≡ (customer_in t x).who) i w
            (λ x y. ap (λ (c : Customer). c.who) (others x y)) j;
        kept = λ j l.
            each_place
            (λ (x : ℕ). (s : ℕ) → holds_stamp (customer_in t x) s ≡ true → stamp_old t.holidays (dated t.day) s ≡ false
            → holds_stamp (customer_in u x) s ≡ true)
            i k (λ x y s g q. ap (λ (c : Customer). holds_stamp c s) (others x y) ∙ g) j;
      }

-- ---- an accepted message

module _ (t u : Table) (m : List ℕ) (k : Took t u m) where
  abbrev place : ℕ
  place = k.passed.place

  before_is : named t (sender_of m) ≡ customer_in t place
  before_is = named_at t (sender_of m) place k.passed.known

  after_at : place_of u (sender_of m) ≡ Some place
  after_at = k.places (sender_of m) ∙ k.passed.known

  after_is : named u (sender_of m) ≡ customer_in u place
  after_is = named_at u (sender_of m) place after_at

  pub took_onward : sound_table u ≡ true → Onward t u
  took_onward e =
      one_changed t u place (λ j n. k.others j (λ q. n (apart (sym k.passed.known ∙ q)))) e k.kept.holidays
      (day_stays t u k.day) k.count
      (ap (λ (c : Customer). c.who) (sym after_is) ∙ k.marked.keeps.who ∙ ap (λ (c : Customer). c.who) before_is)
      (λ s h q. ap (λ (c : Customer). holds_stamp c s) (sym after_is)
      ∙ k.marked.kept s (ap (λ (c : Customer). holds_stamp c s) before_is ∙ h) q)
    where
      apart : {x y : ℕ} → Some x ≡ Some y → x ≡ y
      apart q = cc

  -- its stamp was not used before
  pub took_fresh : Used t (sender_of m) (stamp_of m) → ⊥
  took_fresh (held i p h) =
      false≢true (sym k.unused ∙ ap (λ (c : Customer). holds_stamp c (stamp_of m)) (named_at t (sender_of m) i p) ∙ h)
  took_fresh (old q) = false≢true (sym k.recent ∙ q)

  -- and is used after
  pub took_used : Used u (sender_of m) (stamp_of m)
  took_used = held place after_at (ap (λ (c : Customer). holds_stamp c (stamp_of m)) (sym after_is) ∙ k.marked.new)

-- ---- the calls that keep a table

named_own : (t : Table) (who : List ℕ) (i : ℕ) (c : Customer) → place_of t who ≡ Some i
    → (customer_in (with_named t who c) i ≡ c) × (length (with_named t who c).customers ≡ length t.customers)
unfolding with_customer
named_own t who i c p =
    let e = with_named_at t who i c p in (
      ap (λ (u : Table). customer_in u i) e ∙ stored_is t i c (found_is t who i p).0,
      ap (λ (u : Table). length u.customers) e ∙ length-set t.customers i c,
    )

pub opened_onward : (t : Table) (d : ℕ) → sound_table (with_day t d) ≡ true → earlier d t.day ≡ false → Onward t (with_day t d)
unfolding with_day
opened_onward t d e h =
    record {
      sound = e;
      holidays = refl;
      day = h;
      there = omega arith;
      who = λ i l. ap (λ (c : Customer). c.who) (day_in t d i);
      kept = λ i l s g q. ap (λ (c : Customer). holds_stamp c s) (day_in t d i) ∙ g;
    }

added_count : (t : Table) (a : Adding) → length t.customers ≤ length (added_to t a).customers
unfolding added_to with_day with_added
added_count t a = omega (arith, length-append t.customers (new_customer a ∷ []))

pub added_onward : (t : Table) (a : Adding) → sound_table (added_to t a) ≡ true → earlier (added_to t a).day t.day ≡ false
    → Onward t (added_to t a)
added_onward t a e h =
    record {
      sound = e;
      holidays = (added_keeps t a).0.holidays;
      day = h;
      there = added_count t a;
      who = λ i l. ap (λ (c : Customer). c.who) (added_others t a i l);
      kept = λ i l s g q. ap (λ (c : Customer). holds_stamp c s) (added_others t a i l) ∙ g;
    }

-- new keys leave name and stamps
transport_same : (c : Customer) (generation key : ℕ) (today : Date)
    → ((with_transport c generation key today).who ≡ c.who)
    × ((s : ℕ) → holds_stamp (with_transport c generation key today) s ≡ holds_stamp c s)
unfolding with_transport with_keys holds_stamp
transport_same c generation key today = (refl, λ s. refl)

working_same : (c : Customer) (key : ℕ) (today : Date)
    → ((with_working c key today).who ≡ c.who) × ((s : ℕ) → holds_stamp (with_working c key today) s ≡ holds_stamp c s)
unfolding with_working with_keys holds_stamp
working_same c key today = (refl, λ s. refl)

-- another record in the place of the one named, with its name and its stamps
renewed_onward : (t u : Table) (who : List ℕ) (i : ℕ) (c : Customer) → place_of t who ≡ Some i
    → ((j : ℕ) → (i ≡ j → ⊥) → customer_in u j ≡ customer_in t j) → customer_in u i ≡ c → length u.customers ≡ length t.customers
    → (c.who ≡ (named t who).who) × ((s : ℕ) → holds_stamp c s ≡ holds_stamp (named t who) s)
    → sound_table u ≡ true → u.holidays ≡ t.holidays → earlier u.day t.day ≡ false → Onward t u
renewed_onward t u who i c p x own n w e h d =
    let is = named_at t who i p in
    one_changed t u i x e h d n
    (ap (λ (y : Customer). y.who) own ∙ w.0 ∙ ap (λ (y : Customer). y.who) is)
    (λ s g q. ap (λ (y : Customer). holds_stamp y s) own ∙ w.1 s ∙ ap (λ (y : Customer). holds_stamp y s) is ∙ g)

module _ (t : Table) (e : Entering) (i : ℕ) (p : place_of t e.who ≡ Some i) where
  abbrev entered : Customer
  entered = with_transport (named t e.who) e.generation (combined e.part1 e.part2) e.today

  entered_own : (customer_in (entered_in t e) i ≡ entered)
      × (length (entered_in t e).customers ≡ length t.customers)
  unfolding entered_in with_day
  entered_own =
      let k = named_own t e.who i entered p in (day_in _ _ i ∙ k.0, k.1)

  pub entered_onward : sound_table (entered_in t e) ≡ true → earlier (entered_in t e).day t.day ≡ false → Onward t (entered_in t e)
  entered_onward s d =
      renewed_onward t (entered_in t e) e.who i entered p (λ j n. entered_others t e i j p n) entered_own.0 entered_own.1
      (transport_same (named t e.who) e.generation (combined e.part1 e.part2) e.today) s
      (entered_keeps t e).0.holidays d

module _ (t : Table) (o : Ordering) (i : ℕ) (p : place_of t o.who ≡ Some i) where
  abbrev key : ℕ
  key = key_of t.settings.maker.key t.settings.maker.seed o.clock

  ordered_own : (customer_in (ordered_in t o) i ≡ with_working (named t o.who) key o.today)
      × (length (ordered_in t o).customers ≡ length t.customers)
  unfolding ordered_in with_day with_seed
  ordered_own =
      let k = named_own t o.who i (with_working (named t o.who) key o.today) p in
      (day_in _ _ i ∙ seed_in _ _ i ∙ k.0, k.1)

  pub ordered_onward : sound_table (ordered_in t o) ≡ true → earlier (ordered_in t o).day t.day ≡ false → Onward t (ordered_in t o)
  ordered_onward s d =
      renewed_onward t (ordered_in t o) o.who i (with_working (named t o.who) key o.today) p
      (λ j n. ordered_others t o i j p n) ordered_own.0 ordered_own.1
      (working_same (named t o.who) key o.today) s (ordered_keeps t o).0.holidays d
