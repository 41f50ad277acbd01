-- When a call can't be served: each condition in document 01's words ('Call refusals'), apart from the walk that picks the lowest.
-- Assumes nothing.
use Rattle.std.specs.Prelude.{ℕ, Bool, false, List, eqb, leb, length, None, Option, Some}
use Rattle.ground.specs.Choice.{either, fails, between}
use Rattle.ground.specs.First.{first_that}
use Rattle.calendar.specs.Dates.{dated, is_real, is_before}
use Rattle.calendar.specs.declared.Date.{Date}
use Rattle.keys.specs.Parity.{odd_parity}
use Rattle.keys.specs.Keys.{combined, check_value, next_generation}
use Rattle.table.specs.Table.{Table, place_of, is_unknown}
use Rattle.table.specs.Decode.{is_table}
use Rattle.calendar.specs.declared.CalendarDays.{CalendarDays}

-- a refusal's number, and whether its condition holds
pub record Refusal : Type 0 where
  pub number : ℕ
  pub holds : Bool

abbrev pub refusal : ℕ → Bool → Refusal
refusal n h = record { number = n; holds = h }

-- the first of the list whose condition holds; 0 where none does, and the call is served
unfoldable pub lowest : List Refusal → ℕ
lowest rs = first_that (λ (r : Refusal). r.holds) (λ (r : Refusal). r.number) 0 rs

-- ---- the conditions

-- 2: no table is written as these bytes
unfoldable pub no_table : List ℕ → Bool
no_table b = fails (is_table b)

-- 4: date not real, or day before the table's
unfoldable pub bad_day : Table → (today : Date) → Bool
bad_day t today = either (fails (is_real today)) (is_before today (dated t.day))

-- 5: 33rd customer
unfoldable pub table_full : Table → Bool
table_full t = leb 32 (length t.customers)

-- 6: identity and qualifier already there; 7: no such customer
unfoldable pub already_there : Table → (who : List ℕ) → Bool
already_there t who = fails (is_unknown (place_of t who))

unfoldable pub no_such_customer : Table → (who : List ℕ) → Bool
no_such_customer t who = is_unknown (place_of t who)

-- 8: a key part's parity is even
unfoldable pub even_part : (part1 part2 : ℕ) → Bool
even_part part1 part2 = either (fails (odd_parity part1)) (fails (odd_parity part2))

-- 9: check value differs
unfoldable pub check_differs : (part1 part2 check : ℕ) → Bool
check_differs part1 part2 check = fails (eqb (check_value (combined part1 part2)) check)

-- 10: new transport generation isn't the next
unfoldable pub not_next : (current new : ℕ) → Bool
not_next current new = fails (eqb (next_generation current) new)

-- a changeover length of 1 to 60; where none is given there is nothing to be out of its limits
unfoldable pub bad_length : Option CalendarDays → Bool
bad_length (Some n) = fails (between 1 60 n.0)
bad_length None = false
