-- Banking days, and stamps that are too old (document 01, 'Order of checks', 1015).
-- Assumes nothing.
use Rattle.std.specs.Prelude.{ℕ, zero, suc, ◌+◌, ◌-◌, ◌%◌, Bool, List, ltb}
use Rattle.ground.specs.Choice.{both, fails, pick, one}
use Rattle.ground.specs.Lists.{member}
use Rattle.calendar.specs.Dates.{dated, day_number, date_of}
use Rattle.calendar.specs.declared.BankingDays.{BankingDays}
use Rattle.calendar.specs.declared.Date.{Date}

-- 0 is Monday and 6 Sunday; day 0, 800101, was a Tuesday
abbrev pub weekday : ℕ → ℕ
weekday k = (k + 1) % 7

-- day k is Monday to Friday and not among the holidays
unfoldable pub banking_day : (holidays : List ℕ) (day : ℕ) → Bool
banking_day holidays k = both (ltb (weekday k) 5) (fails (member (date_of k) holidays))

-- how many of the n days after day k are banking days
unfoldable pub banking_among : (holidays : List ℕ) (day count : ℕ) → ℕ
banking_among holidays k zero = 0
banking_among holidays k (suc n) = one (banking_day holidays (k + 1)) + banking_among holidays (k + 1) n

-- the banking days that lie after day k and up to day t
abbrev pub banking_up_to : (holidays : List ℕ) (until day : ℕ) → BankingDays
banking_up_to holidays t k = record { 0 = banking_among holidays k (t - k) }

-- the banking days that lie after the date s and up to the date t
unfoldable pub banking_days_after : (holidays : List ℕ) (after until : Date) → BankingDays
banking_days_after holidays s t = banking_up_to holidays (day_number t.yymmdd) (day_number s.yymmdd)

abbrev pub more_than : BankingDays → BankingDays → Bool
more_than n m = ltb m.0 n.0

-- a stamp's age that is still good
abbrev pub too_old_after : BankingDays
too_old_after = record { 0 = 5 }

-- more than five banking days lie after the stamp's date and up to today
unfoldable pub too_old : (holidays : List ℕ) (stamped today : Date) → Bool
too_old holidays s today = more_than (banking_days_after holidays s today) too_old_after

-- the first day from k on, of n further ones, that is not too old on the day t
unfoldable pub first_good : (holidays : List ℕ) (until day further : ℕ) → ℕ
first_good holidays t k zero = k
first_good holidays t k (suc n) =
    pick (more_than (banking_up_to holidays t k) too_old_after) (first_good holidays t (k + 1) n) k

-- the earliest date that is not too old today: one search answers for every stamp
unfoldable pub earliest_good : (holidays : List ℕ) (today : Date) → Date
earliest_good holidays today =
    let day : ℕ = day_number today.yymmdd in
    dated (date_of (first_good holidays day 0 day))
