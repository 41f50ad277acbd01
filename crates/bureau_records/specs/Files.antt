-- A file of records: each line is a record, without LF in it and without a CR at its end, and then LF or CR LF.
-- Assumes nothing.
use Rattle.std.specs.Prelude.{◌≡◌, ℕ, Bool, false, List, [], ◌∷◌, ◌++◌}
use Rattle.ground.specs.Choice.{pick}
use Rattle.ground.specs.Lists.{member}
use Rattle.digest.specs.Running.{alike, took_bytes, ended}
use Rattle.digest.specs.declared.Method.{Method}
use Rattle.digest.specs.declared.State.{State}
use Rattle.cli_words.specs.Forms.{without_cr}

unfoldable pub line_end : (crlf : Bool) → List ℕ
line_end crlf = pick crlf (13 ∷ 10 ∷ []) (10 ∷ [])

-- the bytes are those of the records' lines; each line has an end of its own
pub data LinesOf : (records : List (List ℕ)) → (bytes : List ℕ) → Type 0 where
  none : LinesOf [] []
  line : {p : List ℕ} {ps : List (List ℕ)} {l : List ℕ} → member 10 p ≡ false → without_cr p ≡ p → (crlf : Bool) → LinesOf ps l
      → LinesOf (p ∷ ps) (p ++ (line_end crlf ++ l))

-- the state that is kept, with records added one by one
unfoldable pub added : (ℕ → ℕ) → Method → State → (records : List (List ℕ)) → State
added e m s [] = s
added e m s (p ∷ ps) = added e m (ended m (took_bytes e (alike s) p)).last ps
