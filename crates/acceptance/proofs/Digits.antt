-- A day's number depends on the six last digits of a date only, so that a stamp of any size has a date that is as old.
-- Assumes nothing.
use mathlib.Core.Path.{◌≡◌, sym, ap, ◌∙◌}
use mathlib.Core.Bool.{Bool, true}
use mathlib.Core.List.{List}
use Prim.Native.Nat.{ℕ, ◌+◌, ◌/◌, ◌%◌}
use native.Mathlib.Omega.{arith}
use Rattle.calendar.specs.Dates.{dated, real_date, is_before, day_number}
use Rattle.calendar.specs.Banking.{banking_days_after, too_old, earliest_good}
use Rattle.calendar.specs.declared.Date.{Date}
use Rattle.calendar.proofs.Old.{too_old_earliest}

pub six_digits : (d : ℕ) → day_number (d % 1000000) ≡ day_number d
unfolding day_number
six_digits d =
    let y : (d % 1000000 / 10000 + 20) % 100 ≡ (d / 10000 + 20) % 100 = omega arith in
    let m : d % 1000000 / 100 % 100 ≡ d / 100 % 100 = omega arith in
    let e : d % 1000000 % 100 ≡ d % 100 = omega arith in
    rw (y, m, e)

pub as_old : (hs : List ℕ) (d : ℕ) (today : Date) → too_old hs (dated (d % 1000000)) today ≡ too_old hs (dated d) today
unfolding too_old banking_days_after
as_old hs d today = rw (six_digits d)

-- where both dates are real, the earliest date that is not too old decides
pub old_before : (hs : List ℕ) (d : ℕ) (today e : Date) (r : Bool) → real_date (d % 1000000) ≡ true → real_date today.yymmdd ≡ true
    → e ≡ earliest_good hs today → r ≡ is_before (dated (d % 1000000)) e → r ≡ too_old hs (dated d) today
old_before hs d today e r p q h k =
    k ∙ ap (is_before (dated (d % 1000000))) h ∙ sym (too_old_earliest hs (dated (d % 1000000)) today p q) ∙ as_old hs d today
