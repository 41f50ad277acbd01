-- What of a batch's records goes into its digest (document 01, 'Digest and checksum'; document 001, 5.1).
-- Assumes nothing.
use Rattle.std.specs.Prelude.{ℕ, Bool, true, false, List, [], ◌∷◌, ◌++◌, map, ◌==◌, None, Option, Some}
use Rattle.ground.specs.Choice.{both, pick}
use Rattle.text.specs.Characters.{blank, internal}
use Rattle.digest.specs.Mac.{mac}
use Rattle.digest.specs.declared.Method.{Method}
use Rattle.digest.specs.declared.Method.TheVariants.{Skh, Ske}

unfoldable pub is_empty : List ℕ → Bool
is_empty [] = true
is_empty (x ∷ l) = false

-- a record without the blanks at its end: byte 20 only, before the internal code
unfoldable pub stripped : List ℕ → List ℕ
stripped [] = []
stripped (x ∷ l) = pick (both (x == blank) (is_empty (stripped l))) [] (x ∷ stripped l)

-- SKH leaves out the blanks at the end of each record, SKE keeps them; then comes the internal code
unfoldable pub kept_of : Method → List ℕ → List ℕ
kept_of Skh r = map internal (stripped r)
kept_of Ske r = map internal r

-- the records join without line ends
unfoldable pub kept : Method → List (List ℕ) → List ℕ
kept m [] = []
kept m (r ∷ rs) = kept_of m r ++ kept m rs

-- the MAC of the kept characters; a batch with no characters left has none
unfoldable pub answer_of : (ℕ → ℕ) → List ℕ → Option ℕ
answer_of e [] = None
answer_of e (x ∷ l) = Some (mac e (x ∷ l))

unfoldable pub digest_of : (ℕ → ℕ) → Method → List (List ℕ) → Option ℕ
digest_of e m records = answer_of e (kept m records)
