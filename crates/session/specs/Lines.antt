-- Bytes to events: LF, the waiting CR and the size limit.
-- Assumes nothing.
use Rattle.std.specs.Prelude.{ℕ, ◌+◌, Bool, true, false, List, [], ◌∷◌, ◌++◌, eqb, leb}
use Rattle.ground.specs.Choice.{pick}
use Rattle.whole_file.specs.Records.{lf, cr, size_limit}
use Rattle.session.specs.declared.Line.{Line}

-- what a byte tells: characters of the record on its way, the record's end, or that the file is past the size limit
pub data Event : Type 0 where
  characters : List ℕ → Event
  record_ends : Event
  size_passed : Event

-- a CR that waited turns out to be a character
unfoldable pub waited : Bool → List ℕ
waited true = cr ∷ []
waited false = []

-- a CR waits for the byte after it
unfoldable pub event_of : Line → ℕ → Event
event_of l b =
    pick (leb size_limit l.size) size_passed
    (pick (eqb b lf) record_ends
    (pick (eqb b cr) (characters (waited l.cr)) (characters (waited l.cr ++ (b ∷ [])))))

-- a byte past the size limit is not counted: the file is closed with it
unfoldable pub line_after : Line → ℕ → Line
line_after l b = pick (leb size_limit l.size) l (record { size = l.size + 1; cr = eqb b cr })

-- the end of the file: no LF follows
unfoldable pub line_ended : Line → Line
line_ended l = record { size = l.size; cr = false }
