-- Keys stay sound when one is changed: what is asked of the new ones follows from what is known of the old ones and of today.
-- Assumes nothing.
use Rattle.std.specs.Prelude.{None, Option, Some}
use mathlib.Core.Path.{◌≡◌, refl, sym, ◌∙◌}
use mathlib.Core.Bool.{Bool, true, false}
use Prim.Native.Nat.{ℕ, ◌+◌, ◌≤◌}
use native.Mathlib.Omega.{arith}
use borrow.Author.Tests.{le-leb, eq-eqb, ne_eqb, ltb-false}
use lib.Dec.{eqb, ltb, leb}
use Rattle.ground.specs.Choice.{both, either, fails, pick}
use Rattle.ground.proofs.Choices.{left, right, join, decides, either_decides, picks, skips}
use Rattle.ground.proofs.Bools.{fails_of, under, either-false}
use Rattle.calendar.specs.Dates.{real_date, is_before, later}
use Rattle.calendar.specs.declared.Date.{Date}
use Rattle.calendar.specs.declared.CalendarDays.{CalendarDays}
use Rattle.calendar.proofs.Days.{date_real, later_after}
use Rattle.keys.specs.Parity.{odd_parity}
use Rattle.keys.specs.Keys.{next_generation}
use Rattle.keys.proofs.Laws.{next_generation-le}
use Rattle.customer.specs.Customer.{sound_previous, sound_keys, sound_customer}
use Rattle.customer.specs.declared.KeyPair.{KeyPair}
use Rattle.customer.specs.declared.Customer.{Customer}
use Rattle.changeover.specs.Held.{previous_named, held_key, previous_good, good_for}
use Rattle.changeover.specs.Changes.{changed, with_keys, with_transport, with_working, without_previous}
use Rattle.customer.specs.declared.Changeover.{Changeover}

-- ---- the parts of sound keys

module _ (k : KeyPair) (s : sound_keys k ≡ true) where
  keys_low : leb k.generation 9 ≡ true
  unfolding sound_keys
  keys_low = left _ _ s

  keys_odd : odd_parity k.key ≡ true
  unfolding sound_keys
  keys_odd = left _ _ (right _ _ s)

  keys_previous : sound_previous k.generation k.previous ≡ true
  unfolding sound_keys
  keys_previous = right _ _ (right _ _ s)

-- ---- a new key

later_real : (d : Date) (n : CalendarDays) → real_date (later d n).yymmdd ≡ true
unfolding later
later_real d n = date_real _

pub changed_sound : (old : KeyPair) (generation key : ℕ) (today : Date) (days : CalendarDays) → sound_keys old ≡ true
    → generation ≡ next_generation old.generation → odd_parity key ≡ true → real_date today.yymmdd ≡ true
    → sound_keys (changed old generation key today days) ≡ true
unfolding changed sound_keys sound_previous
changed_sound old generation key today days s g o t =
    let h : generation ≤ 9 = omega (arith, g, next_generation-le old.generation) in
    join _ _ (le-leb generation 9 h)
    (join _ _ o
    (join _ _ (keys_low old s)
    (join _ _ (eq-eqb _ _ (sym g))
    (join _ _ (keys_odd old s)
    (join _ _ t (join _ _ (later_real today days) (fails_of _ (later_after today days t))))))))

-- ---- the customer with other keys

module _ (c : Customer) (s : sound_customer c ≡ true) where
  transport_sound : sound_keys c.transport ≡ true
  unfolding sound_customer
  transport_sound = left _ _ (right _ _ (right _ _ (right _ _ s)))

  working_sound : sound_keys c.working ≡ true
  unfolding sound_customer
  working_sound = left _ _ (right _ _ (right _ _ (right _ _ (right _ _ s))))

  with_keys_sound : (transport working : KeyPair) → sound_keys transport ≡ true → sound_keys working ≡ true
      → sound_customer (with_keys c transport working) ≡ true
  unfolding sound_customer with_keys
  with_keys_sound transport working p q =
      under _ _ _ (under _ _ _ (under _ _ _ (λ e. join _ _ p (join _ _ q (right _ _ (right _ _ e)))))) s

  pub with_transport_sound : (generation key : ℕ) (today : Date) → generation ≡ next_generation c.transport.generation
      → odd_parity key ≡ true → real_date today.yymmdd ≡ true → sound_customer (with_transport c generation key today) ≡ true
  unfolding with_transport
  with_transport_sound generation key today g o t =
      with_keys_sound _ _ (changed_sound c.transport generation key today c.length transport_sound g o t) working_sound

  pub with_working_sound : (key : ℕ) (today : Date) → odd_parity key ≡ true → real_date today.yymmdd ≡ true
      → sound_customer (with_working c key today) ≡ true
  unfolding with_working
  with_working_sound key today o t =
      with_keys_sound _ _ transport_sound (changed_sound c.working _ key today c.length working_sound refl o t)

  pub without_previous_sound : sound_customer (without_previous c) ≡ true
  unfolding without_previous sound_keys sound_previous
  without_previous_sound =
      with_keys_sound _ _ transport_sound
      (join _ _ (keys_low c.working working_sound) (join _ _ (keys_odd c.working working_sound) refl))

-- ---- what is held

-- one key and then others: what is named is odd where each is
pick_odd : (t : Bool) (y x : ℕ) (other : Option ℕ) → odd_parity y ≡ true → (other ≡ Some x → odd_parity x ≡ true)
    → pick t (Some y) other ≡ Some x → odd_parity x ≡ true
unfolding pick
pick_odd true y x other o f e = let h : x ≡ y = cc in rw h o
pick_odd false y x other o f e = f e

previous_odd : (n : ℕ) (p : Option Changeover) (g x : ℕ) → sound_previous n p ≡ true → previous_named p g ≡ Some x → odd_parity x ≡ true
unfolding sound_previous previous_named
previous_odd n None g x s e = cc
previous_odd n (Some p) g x s e =
    pick_odd (eqb p.generation g) p.key x None (left _ _ (right _ _ (right _ _ s))) (λ m. cc) e

pub held_odd : (k : KeyPair) (g x : ℕ) → sound_keys k ≡ true → held_key k g ≡ Some x → odd_parity x ≡ true
unfolding held_key
held_odd k g x s e =
    pick_odd (eqb k.generation g) k.key x _ (keys_odd k s) (previous_odd _ k.previous g x (keys_previous k s)) e

-- one key, or what else is good: each is held
pick_held : (t b : Bool) (y : ℕ) (other : Option ℕ) → (b ≡ true → (x : ℕ) × (other ≡ Some x)) → either t b ≡ true
    → (x : ℕ) × (pick t (Some y) other ≡ Some x)
unfolding either pick
pick_held true b y other f e = (y, refl)
pick_held false b y other f e = f e

previous_held : (p : Option Changeover) (g : ℕ) (d : Date) → previous_good p g d ≡ true → (x : ℕ) × (previous_named p g ≡ Some x)
unfolding previous_good previous_named
previous_held None g d e = absurd (let z : ◌≡◌ {A = ℕ} 0 1 = cc in omega arith)
previous_held (Some p) g d e = (p.key, picks _ _ _ (left _ _ e))

pub good_held : (k : KeyPair) (g : ℕ) (d : Date) → good_for k g d ≡ true → (x : ℕ) × (held_key k g ≡ Some x)
unfolding good_for held_key
good_held k g d e = pick_held _ _ _ _ (previous_held k.previous g d) e

-- ---- after a change the old generation is still held

pub next_differs : (g : ℕ) → next_generation g ≡ g → ⊥
unfolding next_generation
next_differs g e = by (ltb g 9) refl
  where
    by : (t : Bool) → ltb g 9 ≡ t → ⊥
    by true h = omega (arith, sym (picks (ltb g 9) (g + 1) 1 h) ∙ e)
    by false h = omega (arith, sym (skips (ltb g 9) (g + 1) 1 h) ∙ e, ltb-false g 9 h)

pub after_change : (old : KeyPair) (key : ℕ) (today : Date) (days : CalendarDays)
    → held_key (changed old (next_generation old.generation) key today days) old.generation ≡ Some old.key
unfolding changed held_key previous_named
after_change old key today days =
    let g = old.generation in
    skips _ _ _ (ne_eqb _ _ (next_differs g)) ∙ picks (eqb g g) (Some old.key) None (eq-eqb g g refl)

-- ---- what is good after a change, and after the previous key was dropped (document 02, R-3)

-- the new generation for any date, the one before it up to the last day, and none besides: a previous key that was held before is gone
pub good_changed : (old : KeyPair) (generation key : ℕ) (today : Date) (days : CalendarDays) (g : ℕ) (date : Date)
    → good_for (changed old generation key today days) g date
    ≡ either (eqb generation g) (both (eqb old.generation g) (fails (is_before (later today days) date)))
unfolding changed good_for previous_good
good_changed old generation key today days g date = refl

-- so the generation before the change is good for any date up to the last day, whatever day the changeover began
pub good_after_change : (old : KeyPair) (key : ℕ) (today : Date) (days : CalendarDays) (date : Date)
    → good_for (changed old (next_generation old.generation) key today days) old.generation date
    ≡ fails (is_before (later today days) date)
good_after_change old key today days date =
    let g = old.generation in
    good_changed old _ key today days g date ∙ either_decides _ _ (ne_eqb _ _ (next_differs g))
    ∙ decides _ _ (eq-eqb g g refl)

-- once the previous working key is dropped, the current generation is good for any date and no other for any
pub good_dropped : (c : Customer) (g : ℕ) (date : Date)
    → good_for (without_previous c).working g date ≡ eqb c.working.generation g
unfolding without_previous with_keys good_for previous_good
good_dropped c g date = either-false _
