-- Which key of a kind a generation names (document 01, 'Keys', 'Order of checks' 1013 and 1014, 'Replies').
-- Assumes nothing.
use Rattle.std.specs.Prelude.{ℕ, Bool, false, eqb, None, Option, Some}
use Rattle.ground.specs.Choice.{both, either, fails, pick}
use Rattle.calendar.specs.Dates.{is_before}
use Rattle.calendar.specs.declared.Date.{Date}
use Rattle.customer.specs.declared.KeyPair.{KeyPair}
use Rattle.customer.specs.declared.Changeover.{Changeover}

unfoldable pub previous_named : Option Changeover → (generation : ℕ) → Option ℕ
previous_named None generation = None
previous_named (Some p) generation = pick (eqb p.generation generation) (Some p.key) None

-- the key of that generation, if it is held, whatever the date
unfoldable pub held_key : KeyPair → (generation : ℕ) → Option ℕ
held_key k generation = pick (eqb k.generation generation) (Some k.key) (previous_named k.previous generation)

-- the previous key has that generation, and the date is not past its last day
unfoldable pub previous_good : Option Changeover → (generation : ℕ) (date : Date) → Bool
previous_good None generation date = false
previous_good (Some p) generation date =
    both (eqb p.generation generation) (fails (is_before p.last date))

-- the generation is current, or previous with the stamp's date up to its last day (document 02, R-3: whatever day its changeover began)
unfoldable pub good_for : KeyPair → (generation : ℕ) (date : Date) → Bool
good_for k generation date = either (eqb k.generation generation) (previous_good k.previous generation date)

-- that kind's previous key is held and its last day isn't past
unfoldable pub changing : Option Changeover → (today : Date) → Bool
changing None today = false
changing (Some p) today = fails (is_before p.last today)
