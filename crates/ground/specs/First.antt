-- The first of a list that passes a test: the order of the list decides (checks, refusals, rows of a table).
-- Assumes nothing.
use Rattle.std.specs.Prelude.{Bool, List, [], ◌∷◌}
use Rattle.ground.specs.Choice.{pick}

-- what the first of the list gives that passes the test; `none` where none does
unfoldable pub first_that : {A B : Type 0} → (A → Bool) → (A → B) → B → List A → B
first_that passes gives none [] = none
first_that passes gives none (x ∷ l) = pick (passes x) (gives x) (first_that passes gives none l)
