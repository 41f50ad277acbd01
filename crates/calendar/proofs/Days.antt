-- A real date and its day's number are two names of one day: a year, a month and a day of it.
-- Assumes nothing.
use mathlib.Core.Path.{◌≡◌, refl, sym, ap, ◌∙◌, subst}
use mathlib.Core.Bool.{true, false}
use mathlib.Core.Logic.{⊎_elim}
use Prim.Native.Nat.{ℕ, min, ◌+◌, ◌-◌, ◌*◌, ◌%◌, ◌≤◌, ◌<◌}
use native.Mathlib.Nat.{le_of_lt}
use native.Mathlib.Omega.{arith}
use borrow.Author.Tests.{ltb-true, ltb-false, lt-ltb, le-ltb}
use lib.Dec.{ltb}
use Rattle.ground.specs.Choice.{both, either, fails, one, pick, between}
use Rattle.ground.proofs.Choices.{left, right, join, between-true, between_in}
use Rattle.ground.proofs.Numbers.{below}
use Rattle.calendar.specs.Dates.{year_of, month_of, day_of, place_in_order, leap, days_in, days_in_year, real_date, earlier, years_before}
use Rattle.calendar.specs.Dates.{months_before, day_number, in_year, from_year, date_of, is_before, later}
use Rattle.calendar.specs.declared.CalendarDays.{CalendarDays}
use Rattle.calendar.specs.declared.Date.{Date}
use Rattle.calendar.proofs.Walk.{found, lands, past, mono}
use Rattle.calendar.proofs.Months.{days_in-le, before_year, month_step, year_step, twelve, from_zero, from_walk, month_day, year_date}
use Rattle.calendar.proofs.Months.{years_le, months_le, no_years, no_months, from_one}

-- the date d and the number k are those of day e, from 0 on, of month m of the year y
pub record Day (d k : ℕ) : Type 0 where
  pub y : ℕ
  pub m : ℕ
  pub e : ℕ
  pub from : 1980 ≤ y
  pub to : y < 2080
  pub first : 1 ≤ m
  pub last : m ≤ 12
  pub within : e < days_in y m
  pub date : d ≡ 10000 * (y % 100) + month_day m e
  pub number : k ≡ before_year y + months_before y m + e

-- the date, taken apart, and its place in order
parts : (d k : ℕ) (a : Day d k) → (year_of d ≡ a.y) × (month_of d ≡ a.m) × (day_of d ≡ a.e + 1) × (d < 1000000)
    × (place_in_order d ≡ 10000 * (a.y - 1980) + month_day a.m a.e)
parts d k a = let l : days_in a.y a.m ≤ 32 = days_in-le a.y a.m in
    omega (arith, a.date, a.from, a.to, a.first, a.last, a.within)

-- a day of a year lies before the year's end
inside : (y m e : ℕ) → m ≤ 12 → e < days_in y m → months_before y m + e < days_in_year y
inside y m e h l =
    omega (
      arith,
      month_step y m (omega arith),
      mono (days_in y) (months_before y) 0 (month_step y) (m + 1) 13 (omega arith)
          (omega arith),
      twelve y,
    )

century : before_year 2080 ≡ 36525
unfolding years_before leap both either fails one
century = refl

pub number_lt : (d k : ℕ) → Day d k → k < 36525
number_lt d k a =
    omega (
      arith,
      a.number,
      inside a.y a.m a.e a.last a.within,
      year_step a.y a.from,
      mono days_in_year before_year
          1980 year_step (a.y + 1) 2080 (omega (arith, a.from)) (omega (arith, a.to)),
      century,
    )

pub number_of : (d k : ℕ) → Day d k → day_number d ≡ k
unfolding day_number
number_of d k a = let p = parts d k a in rw (p.0, p.1, p.2) (omega (arith, a.number))

pub real_of : (d k : ℕ) → Day d k → real_date d ≡ true
unfolding real_date
real_of d k a =
    let p = parts d k a in
    rw (p.0, p.1, p.2)
    (join _ _ (lt-ltb d 1000000 p.3)
    (join _ _ (between_in 1 12 a.m a.first a.last) (between_in 1 _ (a.e + 1) (omega arith) (omega (arith, a.within)))))

pub date_of_lem : (d k : ℕ) → Day d k → date_of k ≡ d
unfolding date_of
date_of_lem d k a =
    let i : months_before a.y a.m + a.e < days_in_year a.y = inside a.y a.m a.e a.last a.within in
    let s : before_year (a.y + 1) ≡ before_year a.y + days_in_year a.y = year_step a.y a.from in
    let t : months_before a.y (a.m + 1) ≡ months_before a.y a.m + days_in a.y a.m = month_step a.y a.m (omega arith) in
    let l : k - before_year a.y - months_before a.y a.m ≡ a.e = omega (arith, a.number) in
    from_walk 100 1980 k
    ∙ lands days_in_year before_year 1980 year_step year_date 791231 a.y k 2080 no_years a.from a.to (omega (arith, a.number))
    (omega (arith, a.number))
    ∙ ap (λ (x : ℕ). 10000 * (a.y % 100) + x)
    (from_zero a.y (k - before_year a.y)
    ∙ lands (days_in a.y) (months_before a.y) 0 (month_step a.y) month_day 1231 a.m (k - before_year a.y) 13
    (no_months a.y) (omega arith) (omega (arith, a.last)) (omega (arith, a.number)) (omega (arith, a.number, a.within))
    ∙ ap (month_day a.m) l)
    ∙ sym a.date

-- ---- each real date, and each number, is a day's

pub real_day : (d : ℕ) → real_date d ≡ true → Day d (day_number d)
unfolding real_date day_number
real_day d r =
    let b : both (between 1 12 (month_of d)) (between 1 (days_in (year_of d) (month_of d)) (day_of d)) ≡ true = right (ltb d 1000000) _ r in
    let s : d < 1000000 = ltb-true d 1000000 (left (ltb d 1000000) _ r) in
    let p = between-true 1 12 (month_of d) (left _ _ b) in
    let q = between-true 1 (days_in (year_of d) (month_of d)) (day_of d) (right _ _ b) in
    record {
      y = year_of d;
      m = month_of d;
      e = day_of d - 1;
      from = omega arith;
      to = omega arith;
      first = p.0;
      last = p.1;
      within = omega (arith, q);
      date = omega (arith, q);
      number = omega (arith, q);
    }

-- the day of a year, a month and a day's place in it
day_of_lem : (y m e k : ℕ) → 1980 ≤ y → y < 2080 → m ≤ 12 → e < days_in y m → k ≡ before_year y + months_before y m + e → Day (date_of k) k
day_of_lem y m e k f t l w n =
    let a : Day (10000 * (y % 100) + month_day m e) k =
    record {
      y = y;
      m = m;
      e = e;
      from = f;
      to = t;
      first = from_one y m e w;
      last = l;
      within = w;
      date = refl;
      number = n;
    } in
    subst (λ (d : ℕ). Day d k) (sym (date_of_lem (10000 * (y % 100) + month_day m e) k a)) a

day_in : (y k : ℕ) → 1980 ≤ y → y < 2080 → before_year y ≤ k → k < before_year (y + 1) → Day (date_of k) k
day_in y k f t p q =
    let i : k - before_year y < months_before y 13 = omega (arith, twelve y, year_step y f) in
    let g = found (days_in y) (months_before y) 0 (month_step y) 13 (k - before_year y) (omega (arith, no_months y)) i in
    day_of_lem y g.0 (k - before_year y - months_before y g.0) k f t (omega (arith, g))
    (omega (arith, month_step y g.0 (omega arith), g)) (omega (arith, g))

pub day_date : (k : ℕ) → k < 36525 → Day (date_of k) k
day_date k h =
    let f = found days_in_year before_year 1980 year_step 100 k (omega (arith, no_years)) (rw century h) in
    day_in f.0 k f.1 f.2 f.3 f.4

-- ---- what follows of dates and numbers

pub day_number-lt : (d : ℕ) → real_date d ≡ true → day_number d < 36525
day_number-lt d r = number_lt d (day_number d) (real_day d r)

pub date_of_day : (d : ℕ) → real_date d ≡ true → date_of (day_number d) ≡ d
date_of_day d r = date_of_lem d (day_number d) (real_day d r)

pub day_of_date : (k : ℕ) → k < 36525 → day_number (date_of k) ≡ k
day_of_date k h = number_of (date_of k) k (day_date k h)

-- the last date, by its number and beyond it
last_date : date_of 36524 ≡ 791231
unfolding date_of from_year in_year days_in leap both either fails one pick
last_date = refl

pub date_past : (k : ℕ) → 36524 ≤ k → date_of k ≡ 791231
unfolding date_of
date_past k h =
    ⊎_elim (λ l. let e : k ≡ 36524 = omega arith in ap date_of e ∙ last_date)
    (λ l. from_walk 100 1980 k ∙ past days_in_year before_year 1980 year_step year_date 791231 k 2080 no_years (omega arith) (rw century l))
    (below k 36525)

-- any number is, by its date, the number of a day
pub day_at : (k : ℕ) → Day (date_of k) (min k 36524)
day_at k =
    ⊎_elim (λ l. let e : min k 36524 ≡ k = omega arith in rw e (day_date k l))
    (λ l.
    let e : min k 36524 ≡ 36524 = omega arith in
    rw (e, date_past k (omega arith)) (rw last_date at (day_date 36524 (omega arith))))
    (below k 36525)

pub date_real : (k : ℕ) → real_date (date_of k) ≡ true
date_real k = real_of (date_of k) (min k 36524) (day_at k)

-- ---- order

-- of two days in one year the one that comes first has the lower number
in_year_order : (y m e m' e' : ℕ) → e < days_in y m → m ≤ 12 → e' < days_in y m' → month_day m e < month_day m' e'
    → months_before y m + e < months_before y m' + e'
in_year_order y m e m' e' w l w' h =
    let b : days_in y m ≤ 32 = days_in-le y m in
    let b' : days_in y m' ≤ 32 = days_in-le y m' in
    ⊎_elim (λ p.
    omega (arith, month_step y m (omega arith), mono (days_in y) (months_before y) 0 (month_step y) (m + 1) m' (omega arith) (omega arith)))
    (λ p. let s : m' ≡ m = omega arith in omega (arith, ap (months_before y) s))
    (below m m')

-- and so of any two days
years_order : (y m e y' m' e' : ℕ) → 1980 ≤ y → 1980 ≤ y' → e < days_in y m → m ≤ 12 → e' < days_in y' m' → m' ≤ 12
    → 10000 * (y - 1980) + month_day m e < 10000 * (y' - 1980) + month_day m' e'
    → before_year y + months_before y m + e < before_year y' + months_before y' m' + e'
years_order y m e y' m' e' f f' w l w' l' h =
    let b : days_in y m ≤ 32 = days_in-le y m in
    let b' : days_in y' m' ≤ 32 = days_in-le y' m' in
    ⊎_elim (λ p.
    omega (arith, inside y m e l w, year_step y f, mono days_in_year before_year 1980 year_step (y + 1) y' (omega arith) (omega arith)))
    (λ p.
    let s : y' ≡ y = omega arith in
    let t : months_before y' m' ≡ months_before y m' = ap (λ (x : ℕ). months_before x m') s in
    let u : before_year y' ≡ before_year y = ap before_year s in
    let v : month_day m e < month_day m' e' = omega arith in
    omega (arith, in_year_order y m e m' e' w l (rw s at w') v))
    (below y y')

in_order : (d k d' k' : ℕ) → Day d k → Day d' k' → place_in_order d < place_in_order d' → k < k'
in_order d k d' k' a b h =
    rw (a.number, b.number)
    (years_order a.y a.m a.e b.y b.m b.e a.from b.from a.within a.last b.within b.last
    (rw ((parts d k a).4, (parts d' k' b).4) at h))

days_earlier : (a j b k : ℕ) → Day a j → Day b k → earlier a b ≡ ltb j k
unfolding earlier
days_earlier a j b k x y =
    let p = parts a j x in
    let q = parts b k y in
    ⊎_elim (λ h. lt-ltb _ _ h ∙ sym (lt-ltb j k (in_order a j b k x y h)))
    (λ h.
    le-ltb (place_in_order a) (place_in_order b) h
    ∙ sym
    (le-ltb j k
    (⊎_elim (λ l. le_of_lt (in_order b k a j y x l))
    (λ l.
    let e : b ≡ a = omega (arith, p.3, q.3) in
    let i : day_number b ≡ day_number a = ap day_number e in omega (arith, number_of a j x, number_of b k y))
    (below (place_in_order b) (place_in_order a)))))
    (below (place_in_order a) (place_in_order b))

pub earlier_days : (a b : ℕ) → real_date a ≡ true → real_date b ≡ true → earlier a b ≡ ltb (day_number a) (day_number b)
earlier_days a b r s = days_earlier a (day_number a) b (day_number b) (real_day a r) (real_day b s)

-- dates of numbers go up with the numbers
pub dates_rise : (j k : ℕ) → j ≤ k → earlier (date_of k) (date_of j) ≡ false
dates_rise j k h =
    days_earlier (date_of k) (min k 36524) (date_of j) (min j 36524) (day_at k) (day_at j)
    ∙ le-ltb (min k 36524) (min j 36524) (omega arith)

-- not earlier is at or after
pub not_earlier : (a b : ℕ) → real_date a ≡ true → real_date b ≡ true → earlier a b ≡ false → day_number b ≤ day_number a
not_earlier a b r s h = ltb-false (day_number a) (day_number b) (sym (earlier_days a b r s) ∙ h)

-- ---- calendar days later

pub later_mono : (d : Date) (n m : CalendarDays) → n.0 ≤ m.0 → is_before (later d m) (later d n) ≡ false
unfolding later
later_mono d n m h = dates_rise (day_number d.yymmdd + n.0) (day_number d.yymmdd + m.0) (omega arith)

pub later_after : (d : Date) (n : CalendarDays) → real_date d.yymmdd ≡ true → is_before (later d n) d ≡ false
unfolding later
later_after d n r =
    rw (date_of_day d.yymmdd r) at (dates_rise (day_number d.yymmdd) (day_number d.yymmdd + n.0) (omega arith))

pub later_keeps : (d e : Date) (n : CalendarDays) → real_date d.yymmdd ≡ true → real_date e.yymmdd ≡ true
    → is_before e d ≡ false → is_before (later e n) (later d n) ≡ false
unfolding later
later_keeps d e n r s h =
    dates_rise (day_number d.yymmdd + n.0) (day_number e.yymmdd + n.0) (omega (arith, not_earlier e.yymmdd d.yymmdd s r h))

-- ---- the number of any date, real or not

pub number_below : (d : ℕ) → day_number d < 40000
unfolding day_number
number_below d = omega (arith, years_le (year_of d - 1980), months_le (year_of d) (month_of d))

pub ruleset few_days = (years_le, months_le, number_below)
