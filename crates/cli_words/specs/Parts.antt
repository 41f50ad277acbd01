-- A text in parts: the lines of a file, the types of a list.
-- Assumes nothing.
use Rattle.std.specs.Prelude.{ℕ, List, [], ◌∷◌, ◌++◌, eqb}
use Rattle.ground.specs.Choice.{pick}

-- l up to its first byte `by`
unfoldable pub up_to : ℕ → List ℕ → List ℕ
up_to by [] = []
up_to by (x ∷ l) = pick (eqb x by) [] (x ∷ up_to by l)

-- x as the first byte of the first part
unfoldable pub on_first : ℕ → List (List ℕ) → List (List ℕ)
on_first x [] = (x ∷ []) ∷ []
on_first x (p ∷ ps) = (x ∷ p) ∷ ps

-- the parts that `by` ends, each without it; the last may lack it
unfoldable pub ended_by : ℕ → List ℕ → List (List ℕ)
ended_by by [] = []
ended_by by (x ∷ l) = pick (eqb x by) ([] ∷ ended_by by l) (on_first x (ended_by by l))

-- the parts between the bytes `by`, one more than there are of them
unfoldable pub split_at : ℕ → List ℕ → List (List ℕ)
split_at by l = ended_by by (l ++ (by ∷ []))
