-- The three calls that read a file: what refuses each, what each answers, and what it leaves of the table's and the reply's bytes.
-- Assumes nothing.
use Rattle.std.specs.Prelude.{ℕ, Bool, true, false, List, [], ◌∷◌, eqb, ltb, length}
use Rattle.ground.specs.Choice.{either, fails, pick, between}
use Rattle.calendar.specs.Dates.{real_time}
use Rattle.table.specs.Table.{with_day}
use Rattle.table.specs.Decode.{table_of}
use Rattle.refusals.specs.Refusals.{Refusal, refusal, lowest, no_table, bad_day}
use Rattle.table_calls.specs.Calls.{leaves}
use Rattle.reply.specs.Reply.{replied, written_length}
use Rattle.opening.specs.declared.Opening.{Opening}
use Rattle.session.specs.Events.{onward, Turn, placed, nothing, file_ended, is_due}
use Rattle.session.specs.Machine.{Scan, scanned, last_ended, opened, unopened}
use Rattle.session.specs.Ranges.{is_closed, read_refused, end_refused}
use Rattle.session.specs.declared.Place.TheVariants.{Closed}
use Rattle.session.specs.declared.Session.{Session}
use Rattle.session.specs.declared.Reply.{Reply}
use Rattle.calls.specs.declared.OpenAnswer.{OpenAnswer}
use Rattle.calls.specs.declared.Answer.{Answer}

-- ---- open a file: it brings today's date and stores it

-- 2; 4: date or time not real, or day before the table's; 11: the data type is 1 to 16
unfoldable pub opening_refusals : List ℕ → Opening → List Refusal
opening_refusals b o =
    refusal 2 (no_table b) ∷
    refusal 4 (either (bad_day (table_of b) o.today) (fails (real_time o.time))) ∷
    refusal 11 (fails (between 1 16 o.kind)) ∷ []

unfoldable pub opening_answer : List ℕ → Opening → ℕ
opening_answer b o = lowest (opening_refusals b o)

unfoldable pub opening_gives : List ℕ → Opening → OpenAnswer
opening_gives b o =
    record { refusal = opening_answer b o; session = pick (eqb (opening_answer b o) 0) (opened o) unopened }

unfoldable pub opening_leaves : List ℕ → Opening → List ℕ
opening_leaves b o = leaves (opening_answer b o) b (with_day (table_of b) o.today.yymmdd)

-- ---- a read and an end: the answer, and the later contents of the table's bytes and of the room lent for a reply

pub record Done : Type 0 where
  pub answer : Answer
  pub table : List ℕ
  pub room : List ℕ

-- refused: table, session and reply bytes stay, and nothing is taken
unfoldable pub refused_by : ℕ → Session → List ℕ → List ℕ → Done
refused_by n s b room =
    record {
      answer = record { refusal = n; taken = 0; length = 0; finished = false; session = s };
      table = b;
      room = room;
    }

-- reply bytes past a reply stay
unfoldable pub room_after : Reply → List ℕ → List ℕ
room_after r room = pick r.given (replied r.answer room) room

-- 0 where there is no reply
unfoldable pub length_of : Reply → List ℕ → ℕ
length_of r room = pick r.given (written_length r.answer room) 0

unfoldable pub served_by : Turn → Session → ℕ → Bool → List ℕ → Done
served_by x s taken finished room =
    record {
      answer =
          record { refusal = 0; taken = taken; length = length_of x.out.reply room; finished = finished; session = s };
      table = x.table;
      room = room_after x.out.reply room;
    }

-- 1: reply room under 317 bytes
unfoldable pub reading_refusals : Session → List ℕ → List ℕ → List Refusal
reading_refusals s b room =
    refusal 1 (ltb (length room) 317) ∷
    refusal 2 (no_table b) ∷
    refusal 3 (read_refused s (table_of b).day) ∷ []

unfoldable pub ending_refusals : Session → List ℕ → List ℕ → List Refusal
ending_refusals s b room =
    refusal 1 (ltb (length room) 317) ∷
    refusal 2 (no_table b) ∷
    refusal 3 (end_refused s (table_of b).day) ∷ []

-- a read takes bytes through the LF that settles a reply, or all; a call that closes the file says finished
unfoldable pub read_served : Scan → List ℕ → Done
read_served x room =
    served_by x.turn x.turn.out.session x.taken (is_closed x.turn.out.session.place) room

unfoldable pub read_done : (s : Session) (b input room : List ℕ) → Done
read_done s b input room =
    pick (eqb (lowest (reading_refusals s b room)) 0) (read_served (scanned s b input) room)
    (refused_by (lowest (reading_refusals s b room)) s b room)

-- an end was signalled, and another reply is due
unfoldable pub awaits : Session → Session
awaits s = onward s true s.told s.made s.sender s.line s.place s.gathered s.batch

unfoldable pub finishes : Session → Session
finishes s = placed (awaits s) Closed s.told nothing

-- at most one reply each time, and finished with the last or, if none is due, at once
unfoldable pub end_served : Turn → Turn → List ℕ → Done
end_served x y room =
    pick x.out.reply.given
    (pick (is_due x.out.session.place) (served_by x (awaits x.out.session) 0 false room)
    (served_by x (finishes x.out.session) 0 true room))
    (served_by y (finishes y.out.session) 0 true room)

unfoldable pub end_done : Session → List ℕ → List ℕ → Done
end_done s b room =
    let x : Turn = last_ended s b in
    let y : Turn = file_ended x.out.session x.table in
    pick (eqb (lowest (ending_refusals s b room)) 0) (end_served x y room)
    (refused_by (lowest (ending_refusals s b room)) s b room)
