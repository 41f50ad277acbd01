-- The calls for a box in C or Rust: numbers and lent bytes in place of structs (docs/FORMAT.md, include/lentilpot.h).
-- Assumes nothing.
use Rattle.std.specs.Prelude.{ℕ, ◌+◌, ◌*◌, ◌/◌, ◌%◌, ◌^◌, Bool, List, eqb, ltb, length, replicate, None, Option, Some}
use Rattle.ground.specs.Choice.{both, pick, one}
use Rattle.calendar.specs.declared.CalendarDays.{CalendarDays}
use Rattle.table_calls.specs.declared.Setting.{Setting}
use Rattle.table_calls.specs.declared.Adding.{Adding}
use Rattle.table_calls.specs.declared.Entering.{Entering}
use Rattle.table_calls.specs.declared.Ordering.{Ordering}
use Rattle.opening.specs.declared.Opening.{Opening}
use Rattle.session_bytes.specs.Session.{session_size, session_in, session_stored}
use Rattle.calls.specs.Reading.{Done, read_done, end_done}
use Rattle.calls.specs.declared.OpenAnswer.{OpenAnswer}
use Rattle.calls.specs.declared.Answer.{Answer}

-- bytes of another length than asked stand for n zeros, which are no name and no customer's: 11 for a name, 7 for a customer
unfoldable pub fixed : ℕ → List ℕ → List ℕ
fixed n l = pick (eqb (length l) n) l (replicate n 0)

-- a yes-or-no number is 0 or 1
unfoldable pub is_flag : ℕ → Bool
is_flag n = ltb n 2

unfoldable pub setting_by : (bank software : List ℕ) (floor key seed : ℕ) → Setting
setting_by bank software floor k v =
    record { bank = fixed 25 bank; software = fixed 16 software; floor = floor; key = k; seed = v }

unfoldable pub length_by : ℕ → CalendarDays → Option CalendarDays
length_by given n = pick (eqb given 0) None (Some n)

-- yes-or-no numbers other than 0 and 1 are refusal 11, as types past the sixteenth are
unfoldable pub types_by : (types agreed leave given : ℕ) → ℕ
types_by types agreed leave given = pick (both (is_flag agreed) (both (is_flag leave) (is_flag given))) types (2 ^ 16)

unfoldable pub adding_by : (today : ℕ) (who : List ℕ) (part1 part2 check generation types agreed leave given days : ℕ) → Adding
adding_by today who part1 part2 check generation types agreed leave given n =
    record {
      today = record { yymmdd = today };
      who = fixed 25 who;
      part1 = part1;
      part2 = part2;
      check = check;
      generation = generation;
      types = types_by types agreed leave given;
      agreed = eqb agreed 1;
      leave = eqb leave 1;
      length = length_by given (record { 0 = n });
    }

unfoldable pub entering_by : (today : ℕ) (who : List ℕ) (part1 part2 check generation : ℕ) → Entering
entering_by today who part1 part2 check generation =
    record {
      today = record { yymmdd = today };
      who = fixed 25 who;
      part1 = part1;
      part2 = part2;
      check = check;
      generation = generation;
    }

unfoldable pub ordering_by : ℕ → List ℕ → ℕ → Ordering
ordering_by today who clock = record { today = record { yymmdd = today }; who = fixed 25 who; clock = clock }

-- a session's buffer of another length is refusal 11, as a data type that is none
unfoldable pub opening_by : (session : List ℕ) (today time kind clock : ℕ) → Opening
opening_by session today time kind clock =
    record {
      today = record { yymmdd = today };
      time = time;
      kind = pick (eqb (length session) session_size) kind 0;
      clock = clock;
    }

-- a refused call leaves the session's bytes
unfoldable pub session_after_opening : List ℕ → OpenAnswer → List ℕ
session_after_opening session a = pick (eqb a.refusal 0) (session_stored session a.session) session

unfoldable pub session_after : List ℕ → Answer → List ℕ
session_after session a = pick (eqb a.refusal 0) (session_stored session a.session) session

-- bytes taken in bits 0 to 39, reply length in bits 40 to 55, finished in bit 56, the refusal in bits 57 to 63
unfoldable pub packed : Answer → ℕ
packed a = a.taken % 2 ^ 40 + 2 ^ 40 * (a.length % 2 ^ 16) + 2 ^ 56 * one a.finished + 2 ^ 57 * (a.refusal % 2 ^ 7)

-- and as include/lentilpot.h has a box take it apart: lp_taken, lp_reply_length, lp_finished, lp_refusal
unfoldable pub taken_in : ℕ → ℕ
taken_in p = p % 2 ^ 40

unfoldable pub length_in : ℕ → ℕ
length_in p = p / 2 ^ 40 % 2 ^ 16

unfoldable pub finished_in : ℕ → Bool
finished_in p = eqb (p / 2 ^ 56 % 2) 1

unfoldable pub refusal_in : ℕ → ℕ
refusal_in p = p / 2 ^ 57

unfoldable pub read_by : (b session input reply : List ℕ) → Done
read_by table session input reply = read_done (session_in session) table input reply

unfoldable pub end_by : (b session reply : List ℕ) → Done
end_by table session reply = end_done (session_in session) table reply
