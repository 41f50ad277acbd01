-- The lengths of months and years, the two sums over them, and the two walks.
-- Assumes nothing.
use mathlib.Core.Path.{◌≡◌, refl, sym, ap, ◌∙◌}
use mathlib.Core.Bool.{Bool}
use mathlib.Core.Logic.{⊎_elim}
use Prim.Native.Nat.{ℕ, zero, suc, ◌+◌, ◌-◌, ◌*◌, ◌%◌, ◌≤◌, ◌<◌}
use native.Mathlib.Nat.{zero-add}
use native.Mathlib.Numerals.{add-one}
use native.Mathlib.Omega.{arith}
use borrow.Author.Tests.{leb-true, lt-ltb, le-ltb}
use lib.Dec.{leb, eqb, ltb}
use lib.ListN.{get_or, get_or-eq_default}
use Rattle.ground.specs.Choice.{both, pick, one}
use Rattle.ground.proofs.Choices.{picks, skips}
use Rattle.ground.proofs.Table.{at}
use Rattle.ground.proofs.Bools.{one-le, tested}
use Rattle.ground.proofs.Numbers.{below}
use Rattle.calendar.specs.Dates.{leap, lengths, days_in, days_in_year, years_before, months_before, in_year, from_year}
use Rattle.calendar.proofs.Walk.{walk, most, here, on, over}

-- ---- lengths

short : ℕ → ℕ → Bool
short m n = leb n 31

length-le : (m : ℕ) → get_or lengths m 0 ≤ 31
unfolding both short
length-le m =
    ⊎_elim (λ h. leb-true _ 31 (tested _ (at short lengths tt m h)))
    (λ h. rw (get_or-eq_default lengths 0 h) (omega arith))
    (below m 13)

pub days_in-le : (y m : ℕ) → days_in y m ≤ 32
unfolding days_in
days_in-le y m = omega (arith, length-le m, one-le (both (eqb m 2) (leap y)))

pub year_le : (y : ℕ) → days_in_year y ≤ 366
year_le y = omega (arith, one-le (leap y))

-- ---- sums

pub month_step : (y m : ℕ) → 0 ≤ m → months_before y (m + 1) ≡ months_before y m + days_in y m
unfolding months_before
month_step y m h = rw (add-one m)

pub years_step : (n : ℕ) → years_before (n + 1) ≡ years_before n + days_in_year (1980 + n)
unfolding years_before
years_step n = rw (add-one n)

-- the days before the year y
abbrev pub before_year : ℕ → ℕ
before_year y = years_before (y - 1980)

pub year_step : (y : ℕ) → 1980 ≤ y → before_year (y + 1) ≡ before_year y + days_in_year y
year_step y h =
    let e : y + 1 - 1980 ≡ y - 1980 + 1 = omega arith in
    let s : 1980 + (y - 1980) ≡ y = omega arith in
    rw e (years_step (y - 1980) ∙ ap (λ (x : ℕ). before_year y + days_in_year x) s)

pub no_years : before_year 1980 ≡ 0
unfolding years_before
no_years = refl

pub no_months : (y : ℕ) → months_before y 0 ≡ 0
unfolding months_before
no_months y = refl

pub no_month : (y : ℕ) → days_in y 0 ≡ 0
unfolding days_in both one
no_month y = refl

-- a month that has a day is no month 0
pub from_one : (y m e : ℕ) → e < days_in y m → 1 ≤ m
from_one y zero e h = absurd (omega (arith, no_month y))
from_one y (suc m) e h = omega arith

pub twelve : (y : ℕ) → months_before y 13 ≡ days_in_year y
unfolding months_before days_in both one
twelve y = omega arith

pub months_le : (y m : ℕ) → months_before y m ≤ 32 * m
months_le y m = rw (zero-add m) at (most (days_in y) (months_before y) 0 (month_step y) 32 (no_months y) (days_in-le y) m)

pub years_le : (n : ℕ) → years_before n ≤ 366 * n
years_le n =
    let e : 1980 + n - 1980 ≡ n = omega arith in
    rw e at (most days_in_year before_year 1980 year_step 366 no_years year_le n)

-- ---- walks

abbrev pub month_day : ℕ → ℕ → ℕ
month_day m k = 100 * m + k + 1

pub in_walk : (y n m k : ℕ) → in_year y m k n ≡ walk (days_in y) month_day 1231 m k n
unfolding in_year walk
in_walk y zero m k = refl
in_walk y (suc n) m k = ap (pick (ltb k (days_in y m)) (month_day m k)) (in_walk y n (m + 1) (k - days_in y m))

-- no day lies in month 0
pub from_zero : (y k : ℕ) → in_year y 1 k 12 ≡ walk (days_in y) month_day 1231 0 k 13
unfolding in_year
from_zero y k = sym (skips _ _ _ (rw (no_month y) (le-ltb k 0 (omega arith)))
    ∙ ap (λ (x : ℕ). in_year y 1 x 12) (rw (no_month y) (omega arith))) ∙ in_walk y 13 0 k

abbrev pub year_date : ℕ → ℕ → ℕ
year_date y k = 10000 * (y % 100) + in_year y 1 k 12

pub from_walk : (n y k : ℕ) → from_year y k n ≡ walk days_in_year year_date 791231 y k n
unfolding from_year walk
from_walk zero y k = refl
from_walk (suc n) y k = ap (pick (ltb k (days_in_year y)) (year_date y k)) (from_walk n (y + 1) (k - days_in_year y))

pub in_year-le : (y n m k : ℕ) → m + n ≤ 13 → in_year y m k n ≤ 1232
unfolding in_year
in_year-le y zero m k h = omega arith
in_year-le y (suc n) m k h =
    ⊎_elim (λ l. rw (picks _ _ _ (lt-ltb k (days_in y m) l)) (omega (arith, days_in-le y m)))
    (λ l. rw (skips _ _ _ (le-ltb k (days_in y m) l)) (in_year-le y n (m + 1) (k - days_in y m) (omega arith)))
    (below k (days_in y m))

-- ---- what the loops over years and months stand on: the sums, and one more turn of each walk

pub ruleset year_sums = (no_years, years_step, years_le, year_le)

pub ruleset month_sums = (no_months, month_step, months_le, days_in-le)

pub in_here : (y m k : ℕ) → m < 13 → k < days_in y m → in_year y m k (13 - m) ≡ month_day m k
in_here y m k h p = in_walk y (13 - m) m k ∙ here (days_in y) month_day 1231 m k 13 h p

pub in_on : (y m k : ℕ) → m < 13 → days_in y m ≤ k → in_year y m k (13 - m) ≡ in_year y (m + 1) (k - days_in y m) (13 - (m + 1))
in_on y m k h p =
    in_walk y (13 - m) m k ∙ on (days_in y) month_day 1231 m k 13 h p ∙ sym (in_walk y (13 - (m + 1)) (m + 1) (k - days_in y m))

pub in_over : (y m k : ℕ) → 13 ≤ m → in_year y m k (13 - m) ≡ 1231
in_over y m k h = in_walk y (13 - m) m k ∙ over (days_in y) month_day 1231 m k 13 h

pub ruleset month_walk = (in_here, in_on, in_over, days_in-le)

pub from_here : (y k : ℕ) → y < 2080 → k < days_in_year y → from_year y k (2080 - y) ≡ year_date y k
from_here y k h p = from_walk (2080 - y) y k ∙ here days_in_year year_date 791231 y k 2080 h p

pub from_on : (y k : ℕ) → y < 2080 → days_in_year y ≤ k → from_year y k (2080 - y) ≡ from_year (y + 1) (k - days_in_year y) (2080 - (y + 1))
from_on y k h p =
    from_walk (2080 - y) y k ∙ on days_in_year year_date 791231 y k 2080 h p ∙ sym (from_walk (2080 - (y + 1)) (y + 1) (k - days_in_year y))

pub from_over : (y k : ℕ) → 2080 ≤ y → from_year y k (2080 - y) ≡ 791231
from_over y k h = from_walk (2080 - y) y k ∙ over days_in_year year_date 791231 y k 2080 h

pub ruleset year_walk = (from_here, from_on, from_over, in_year-le)
