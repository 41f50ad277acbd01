-- Texts as bytes, so that a definition shows a name as the documents print it.
-- Assumes nothing.
use Rattle.std.specs.Prelude.{ℕ, List, [], ◌∷◌}
use Prim.Native.Char.{code}
use Prim.Native.String.{String, [] as empty, ◌∷◌ as ◌then◌}

-- each character's number: Ä is C4 and Ö D6
unfoldable pub letters : String → List ℕ
letters empty = []
letters (c then s) = code c ∷ letters s
