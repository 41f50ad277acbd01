-- Which day must be meant: one far past the table's, since the table can't go back.
-- Assumes nothing.
use Rattle.std.specs.Prelude.{ℕ, ◌-◌, Bool, eqb, ltb}
use Rattle.ground.specs.Choice.{both, fails}
use Rattle.calendar.specs.Dates.{real_date, day_number}

-- a real date more than 31 days after the table's day; on a table that was just set up, whose day is 800101, none is far
unfoldable pub is_far : ℕ → ℕ → Bool
is_far day today =
    both (fails (eqb day 800101)) (both (real_date today) (ltb 31 (day_number today - day_number day)))
