-- The records of a file (document 01, 'Reading the file').
-- Assumes nothing.
use Rattle.std.specs.Prelude.{ℕ, ◌+◌, List, [], ◌∷◌, ◌++◌, eqb, leb}
use Rattle.ground.specs.Choice.{pick}

abbrev pub lf : ℕ
lf = 0x0A

abbrev pub cr : ℕ
cr = 0x0D

-- a file of at most 4,294,967,295 bytes
abbrev pub size_limit : ℕ
size_limit = 4294967295

-- a record: its characters, and how many bytes of the file go up to its end, the LF with it
pub record Record : Type 0 where
  pub chars : List ℕ
  pub end : ℕ

-- one CR directly before the LF is no part of the record
unfoldable pub without_cr : List ℕ → List ℕ
without_cr [] = []
without_cr (x ∷ []) = pick (eqb x cr) [] (x ∷ [])
without_cr (x ∷ y ∷ l) = x ∷ without_cr (y ∷ l)

-- what a file is made of: records, and a byte past the size limit, which ends the reading
pub data Item : Type 0 where
  line : Record → Item
  past_size : ℕ → Item

-- the end of the file ends a non-empty last record; no LF follows it, so a CR at its end is a character
unfoldable pub last_item : ℕ → List ℕ → List Item
last_item at [] = []
last_item at (x ∷ raw) = line (record { chars = x ∷ raw; end = at }) ∷ []

-- what the record on its way holds after one byte more: a record ends at LF
unfoldable pub grown : List ℕ → ℕ → List ℕ
grown raw b = pick (eqb b lf) [] (raw ++ (b ∷ []))

-- the record that a byte ends, if it ends one
unfoldable pub ended_by : ℕ → List ℕ → ℕ → List Item
ended_by at raw b = pick (eqb b lf) (line (record { chars = without_cr raw; end = at + 1 }) ∷ []) []

-- the items of the bytes from place `at` on, where `raw` is what the record on its way holds so far
unfoldable pub items_from : ℕ → List ℕ → List ℕ → List Item
items_from at raw [] = last_item at raw
items_from at raw (b ∷ bs) =
    let rest : List Item = items_from (at + 1) (grown raw b) bs in
    pick (leb size_limit at) (past_size (at + 1) ∷ []) (ended_by at raw b ++ rest)

abbrev pub items_of : List ℕ → List Item
items_of file = items_from 0 [] file
