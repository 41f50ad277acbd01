-- A layout with no array as a row: a width and a number for each field, written one after the other.
-- Assumes nothing.
use Rattle.std.specs.Prelude.{List, [], ◌∷◌, ◌++◌, ℕ, suc, ◌+◌, length, replicate}
use Rattle.std.proofs.Math.Option.{none, some}
use Rattle.splices.specs.Bytes.{bytes_of}
use Rattle.codec.specs.Layout.{Shape, number, named, text, numbers, many, perhaps, within, ◌⊗◌, Value}

unfoldable pub total : List ℕ → ℕ
total [] = 0
total (w ∷ ws) = w + total ws

-- the numbers, each in as many bytes as its width says
unfoldable pub fields : List ℕ → List ℕ → List ℕ
fields [] xs = []
fields (w ∷ ws) [] = []
fields (w ∷ ws) (x ∷ xs) = bytes_of w x ++ fields ws xs

unfoldable pub widths : Shape → List ℕ
widths (number w) = w ∷ []
widths (named n) = 1 ∷ []
widths (text n) = []
widths (numbers n w) = []
widths (many n s) = []
widths (perhaps s) = 1 ∷ widths s
widths (within s) = widths s
widths (s ⊗ t) = widths s ++ widths t

unfoldable pub cells : (s : Shape) → Value s → List ℕ
cells (number w) x = x ∷ []
cells (named n) x = n.number x ∷ []
cells (text n) x = []
cells (numbers n w) x = []
cells (many n s) x = []
cells (perhaps s) none = replicate (suc (length (widths s))) 0
cells (perhaps s) (some x) = 1 ∷ cells s x
cells (within s) x = cells s x
cells (s ⊗ t) (x, y) = cells s x ++ cells t y
