-- A call of include/lentilpot.h as data: what a box hands in but the table,
-- the number it gets, and the later contents of each buffer that it lends.
-- Assumes nothing.
use Rattle.std.specs.Prelude.{ℕ, ◌<◌, ◌^◌, ◌≡◌, List, [], ◌∷◌, ◌++◌, eqb, take}
use Rattle.ground.specs.Choice.{either, fails, pick}
use Rattle.calls.specs.Reading.{opening_gives}
use Rattle.calls.specs.Calls.{Call, setting_up, adding, entering, ordering, opening, reading, ending, refusal_of, left_by}
use Rattle.session_bytes.specs.Session.{session_in}
use Rattle.edge.specs.Edge.{setting_by, adding_by, entering_by, ordering_by, opening_by, read_by, end_by}
use Rattle.edge.specs.Edge.{session_after_opening, session_after, packed, length_in, refusal_in}

pub data BoxCall : Type 0 where
  lp_set_up : (bank software : List ℕ) (floor k v : ℕ) (holidays : List ℕ) → BoxCall
  lp_add : (today : ℕ) (who : List ℕ) (part1 part2 check generation types agreed leave given length : ℕ) → BoxCall
  lp_enter : (today : ℕ) (who : List ℕ) (part1 part2 check generation : ℕ) → BoxCall
  lp_order : (today : ℕ) (who : List ℕ) (clock : ℕ) → BoxCall
  lp_open : (session : List ℕ) (today time kind clock : ℕ) → BoxCall
  lp_read : (session input room : List ℕ) → BoxCall
  lp_end : (session room : List ℕ) → BoxCall

-- the call behind it
unfoldable pub call_of : BoxCall → Call
call_of (lp_set_up bank software floor k v holidays) = setting_up (setting_by bank software floor k v) holidays
call_of (lp_add today who part1 part2 check generation types agreed leave given n) =
    adding (adding_by today who part1 part2 check generation types agreed leave given n)
call_of (lp_enter today who part1 part2 check generation) = entering (entering_by today who part1 part2 check generation)
call_of (lp_order today who clock) = ordering (ordering_by today who clock)
call_of (lp_open session today time kind clock) = opening (opening_by session today time kind clock)
call_of (lp_read session input room) = reading (session_in session) input room
call_of (lp_end session room) = ending (session_in session) room

-- the number that it returns, on table bytes b: the refusal or 0; of a read and an end the packed answer
unfoldable pub box_answer : List ℕ → BoxCall → ℕ
box_answer b (lp_set_up bank software floor k v holidays) = refusal_of b (call_of (lp_set_up bank software floor k v holidays))
box_answer b (lp_add today who part1 part2 check generation types agreed leave given n) =
    refusal_of b (call_of (lp_add today who part1 part2 check generation types agreed leave given n))
box_answer b (lp_enter today who part1 part2 check generation) = refusal_of b (call_of (lp_enter today who part1 part2 check generation))
box_answer b (lp_order today who clock) = refusal_of b (call_of (lp_order today who clock))
box_answer b (lp_open session today time kind clock) = refusal_of b (call_of (lp_open session today time kind clock))
box_answer b (lp_read session input room) = packed (read_by b session input room).answer
box_answer b (lp_end session room) = packed (end_by b session room).answer

-- the table's bytes after it
unfoldable pub box_table : List ℕ → BoxCall → List ℕ
box_table b c = left_by b (call_of c)

-- the session's bytes after it; none where none are lent
unfoldable pub box_session : List ℕ → BoxCall → List ℕ
box_session b (lp_set_up bank software floor k v holidays) = []
box_session b (lp_add today who part1 part2 check generation types agreed leave given n) = []
box_session b (lp_enter today who part1 part2 check generation) = []
box_session b (lp_order today who clock) = []
box_session b (lp_open session today time kind clock) =
    session_after_opening session (opening_gives b (opening_by session today time kind clock))
box_session b (lp_read session input room) = session_after session (read_by b session input room).answer
box_session b (lp_end session room) = session_after session (end_by b session room).answer

-- and the reply's
unfoldable pub box_room : List ℕ → BoxCall → List ℕ
box_room b (lp_set_up bank software floor k v holidays) = []
box_room b (lp_add today who part1 part2 check generation types agreed leave given n) = []
box_room b (lp_enter today who part1 part2 check generation) = []
box_room b (lp_order today who clock) = []
box_room b (lp_open session today time kind clock) = []
box_room b (lp_read session input room) = (read_by b session input room).room
box_room b (lp_end session room) = (end_by b session room).room

-- what the contract of each call asks of the number that it returns and of the later contents of each lent buffer
pub record MeetsBox (b : List ℕ) (c : BoxCall) (answer : ℕ) (table session room : List ℕ) : Type 0 where
  pub answers : answer ≡ box_answer b c
  pub leaves : table ≡ box_table b c
  pub keeps : session ≡ box_session b c
  pub shows : room ≡ box_room b c

-- ---- what a box sees of replies

-- in the room, by the number: none where the call was refused or the length is 0
unfoldable pub seen_in : ℕ → List ℕ → List (List ℕ)
seen_in p room = pick (either (fails (eqb (refusal_in p) 0)) (eqb (length_in p) 0)) [] (take (length_in p) room ∷ [])

unfoldable pub box_reply : List ℕ → BoxCall → List (List ℕ)
box_reply b (lp_set_up bank software floor k v holidays) = []
box_reply b (lp_add today who part1 part2 check generation types agreed leave given n) = []
box_reply b (lp_enter today who part1 part2 check generation) = []
box_reply b (lp_order today who clock) = []
box_reply b (lp_open session today time kind clock) = []
box_reply b (lp_read session input room) = seen_in (box_answer b (lp_read session input room)) (box_room b (lp_read session input room))
box_reply b (lp_end session room) = seen_in (box_answer b (lp_end session room)) (box_room b (lp_end session room))

-- all replies of a sequence of calls, in order
unfoldable pub box_replies : List ℕ → List BoxCall → List (List ℕ)
box_replies b [] = []
box_replies b (c ∷ cs) = box_reply b c ++ box_replies (box_table b c) cs

-- ---- numbers of 64 bits fit them

unfoldable pub Words : BoxCall → Type 0
Words (lp_set_up bank software floor k v holidays) = (k < 2 ^ 64) × (v < 2 ^ 64)
Words (lp_add today who part1 part2 check generation types agreed leave given n) = (part1 < 2 ^ 64) × (part2 < 2 ^ 64)
Words (lp_enter today who part1 part2 check generation) = (part1 < 2 ^ 64) × (part2 < 2 ^ 64)
Words (lp_order today who clock) = clock < 2 ^ 64
Words (lp_open session today time kind clock) = clock < 2 ^ 64
Words (lp_read session input room) = Unit
Words (lp_end session room) = Unit

pub data AllWords : List BoxCall → Type 0 where
  none : AllWords []
  more : {c : BoxCall} {cs : List BoxCall} → Words c → AllWords cs → AllWords (c ∷ cs)
