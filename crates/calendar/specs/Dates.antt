-- Dates yymmdd of the years 1980 to 2079, and times hhmmss (document 01, 'Covered').
-- Their arithmetic is over the numbers; `is_real`, `is_before` and `later` are what is said of dates.
-- Assumes nothing.
use Rattle.std.specs.Prelude.{ℕ, zero, suc, ◌+◌, ◌-◌, ◌*◌, ◌/◌, ◌%◌, Bool, List, [], ◌∷◌, eqb, ltb, get_or}
use Rattle.ground.specs.Choice.{both, either, fails, pick, one, between}
use Rattle.calendar.specs.declared.CalendarDays.{CalendarDays}
use Rattle.calendar.specs.declared.Date.{Date}

-- a number read as a date, as it stands in a table or a stamp
abbrev pub dated : ℕ → Date
dated n = record { yymmdd = n }

-- yy 80 to 99 are 1980 to 1999, 00 to 79 are 2000 to 2079
abbrev pub year_of : ℕ → ℕ
year_of d = 1980 + (d / 10000 + 20) % 100

abbrev pub month_of : ℕ → ℕ
month_of d = d / 100 % 100

abbrev pub day_of : ℕ → ℕ
day_of d = d % 100

unfoldable pub leap : ℕ → Bool
leap y = either (both (eqb (y % 4) 0) (fails (eqb (y % 100) 0))) (eqb (y % 400) 0)

-- the months' lengths in a year that is no leap year, from month 1 on; before them stands a month 0 without days
abbrev pub lengths : List ℕ
lengths = 0 ∷ 31 ∷ 28 ∷ 31 ∷ 30 ∷ 31 ∷ 30 ∷ 31 ∷ 31 ∷ 30 ∷ 31 ∷ 30 ∷ 31 ∷ []

unfoldable pub days_in : (year month : ℕ) → ℕ
days_in y m = get_or lengths m 0 + one (both (eqb m 2) (leap y))

abbrev pub days_in_year : ℕ → ℕ
days_in_year y = 365 + one (leap y)

-- 000229 is real, 010229 is not
unfoldable pub real_date : ℕ → Bool
real_date d =
    both (ltb d 1000000)
    (both (between 1 12 (month_of d)) (between 1 (days_in (year_of d) (month_of d)) (day_of d)))

-- hhmmss from 000000 to 235959
unfoldable pub real_time : ℕ → Bool
real_time t = both (ltb t 240000) (both (ltb (t / 100 % 100) 60) (ltb (t % 100) 60))

-- the order of dates: by the year from 1980 on, then month and day, so that 991231 comes before 000101
abbrev pub place_in_order : ℕ → ℕ
place_in_order d = (d + 200000) % 1000000

unfoldable pub earlier : ℕ → ℕ → Bool
earlier a b = ltb (place_in_order a) (place_in_order b)

-- a date that is real
abbrev pub is_real : Date → Bool
is_real d = real_date d.yymmdd

abbrev pub is_before : Date → Date → Bool
is_before a b = earlier a.yymmdd b.yymmdd

-- ---- days numbered from 800101, which is day 0; 791231 is day 36524

-- the days of the first n years
unfoldable pub years_before : ℕ → ℕ
years_before zero = 0
years_before (suc n) = years_before n + days_in_year (1980 + n)

-- the days of the months of a year that come before month m
unfoldable pub months_before : (year month : ℕ) → ℕ
months_before y zero = 0
months_before y (suc m) = months_before y m + days_in y m

unfoldable pub day_number : ℕ → ℕ
day_number d = years_before (year_of d - 1980) + months_before (year_of d) (month_of d) + day_of d - 1

-- month and day of day k of the year y, counted from 0, where the n months from m on are left
unfoldable pub in_year : (year month day left : ℕ) → ℕ
in_year y m k zero = 1231
in_year y m k (suc n) = pick (ltb k (days_in y m)) (100 * m + k + 1) (in_year y (m + 1) (k - days_in y m) n)

-- the date of day k counted from the start of the year y, where n years are left; past them the last date
unfoldable pub from_year : (year day left : ℕ) → ℕ
from_year y k zero = 791231
from_year y k (suc n) =
    pick (ltb k (days_in_year y)) (10000 * (y % 100) + in_year y 1 k 12) (from_year (y + 1) (k - days_in_year y) n)

-- the date of a day's number: 791231 for any day beyond that
unfoldable pub date_of : ℕ → ℕ
date_of k = from_year 1980 k 100

-- the date n calendar days later; a day beyond 791231 is 791231
unfoldable pub later : Date → CalendarDays → Date
later d n = dated (date_of (day_number d.yymmdd + n.0))
