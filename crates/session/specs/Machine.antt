-- The machine: what one byte, some bytes up to the first reply, and the file's end do to a session and a table.
-- Assumes nothing.
use Rattle.std.specs.Prelude.{ℕ, ◌+◌, Bool, true, false, List, [], ◌∷◌, ltb, replicate, None}
use Rattle.ground.specs.Choice.{either, pick}
use Rattle.digest.specs.Running.{begun, alike}
use Rattle.message.specs.declared.Extent.TheVariants.{Whole}
use Rattle.opening.specs.declared.Opening.{Opening}
use Rattle.whole_file.specs.Messages.{text_room}
use Rattle.session.specs.Lines.{Event, characters, record_ends, size_passed, waited, event_of, line_after, line_ended}
use Rattle.session.specs.Events.{onward, Turn, silent, nothing, heard, record_ended, passed}
use Rattle.session.specs.declared.Line.{Line}
use Rattle.session.specs.declared.Place.TheVariants.{BeforeEsi, Closed}
use Rattle.session.specs.declared.Session.{Session}

-- ---- one byte

unfoldable pub with_line : Session → Line → Session
with_line s l = onward s s.ended s.told s.made s.sender l s.place s.gathered s.batch

unfoldable pub on_event : Event → Session → List ℕ → Turn
on_event (characters l) s b = silent (heard s l) b
on_event record_ends s b = record_ended s b
on_event size_passed s b = passed s b

unfoldable pub stepped : Session → List ℕ → ℕ → Turn
stepped s b byte = on_event (event_of s.line byte) (with_line s (line_after s.line byte)) b

-- ---- bytes up to the first reply: how many were taken, and the session, reply and table then

pub record Scan : Type 0 where
  pub turn : Turn
  pub taken : ℕ

unfoldable pub scan_on : Turn → Scan → Scan
scan_on x rest =
    pick x.out.reply.given (record { turn = x; taken = 1 }) (record { turn = rest.turn; taken = rest.taken + 1 })

unfoldable pub scanned : Session → List ℕ → List ℕ → Scan
scanned s b [] = record { turn = silent s b; taken = 0 }
scanned s b (byte ∷ xs) =
    let x : Turn = stepped s b byte in scan_on x (scanned x.out.session x.table xs)

-- ---- the file's end

-- a record that no LF ended is on its way
unfoldable pub is_begun : Session → Bool
is_begun s = either s.line.cr (ltb 0 s.gathered.count)

-- that last record ends
unfoldable pub last_ended : Session → List ℕ → Turn
last_ended s b =
    pick (is_begun s) (record_ended (with_line (heard s (waited s.line.cr)) (line_ended s.line)) b) (silent s b)

-- ---- a file that was just opened

unfoldable pub opened : Opening → Session
opened o =
    record {
      opened = true;
      ended = false;
      told = false;
      opening = o;
      made = 0;
      sender = replicate 25 0;
      line = record { size = 0; cr = false };
      place = BeforeEsi;
      gathered = nothing;
      batch =
          record {
            suo = record { extent = Whole; blank = false; text = replicate text_room 0 };
            once = None;
            running = alike begun;
          };
    }

-- no file: what a refused opening hands back, with every number in its range
unfoldable pub unopened : Session
unopened =
    record {
      opened = false;
      ended = false;
      told = false;
      opening = record { today = record { yymmdd = 800101 }; time = 0; kind = 1; clock = 0 };
      made = 0;
      sender = replicate 25 0;
      line = record { size = 0; cr = false };
      place = Closed;
      gathered = nothing;
      batch =
          record {
            suo = record { extent = Whole; blank = false; text = replicate text_room 0 };
            once = None;
            running = alike begun;
          };
    }
