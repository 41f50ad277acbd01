-- A call as data: its arguments, the number that refuses it, what it leaves of the table's bytes, and the reply that it shows.
-- Assumes nothing.
use Rattle.std.specs.Prelude.{ℕ, ◌<◌, ◌^◌, ◌≡◌, List, [], ◌∷◌, ◌++◌, eqb, length, take}
use Rattle.ground.specs.Choice.{pick}
use Rattle.table_calls.specs.Calls.{setting_up_answer, setting_up_leaves, adding_answer, adding_leaves, entering_answer, entering_leaves}
use Rattle.table_calls.specs.Calls.{ordering_answer, ordering_leaves}
use Rattle.table_calls.specs.declared.Setting.{Setting}
use Rattle.table_calls.specs.declared.Adding.{Adding}
use Rattle.table_calls.specs.declared.Entering.{Entering}
use Rattle.table_calls.specs.declared.Ordering.{Ordering}
use Rattle.opening.specs.declared.Opening.{Opening}
use Rattle.session.specs.Ranges.{Fits}
use Rattle.session.specs.declared.Session.{Session}
use Rattle.calls.specs.Reading.{Done, opening_answer, opening_leaves, read_done, end_done}

-- the seven calls: a read brings its session, input and reply room, an end its session and reply room
pub data Call : Type 0 where
  setting_up : Setting → List ℕ → Call
  adding : Adding → Call
  entering : Entering → Call
  ordering : Ordering → Call
  opening : Opening → Call
  reading : Session → List ℕ → List ℕ → Call
  ending : Session → List ℕ → Call

-- the refusal's number, or 0 where the call is served, on table bytes b
unfoldable pub refusal_of : List ℕ → Call → ℕ
refusal_of b (setting_up s holidays) = setting_up_answer b s holidays
refusal_of b (adding a) = adding_answer b a
refusal_of b (entering e) = entering_answer b e
refusal_of b (ordering o) = ordering_answer b o
refusal_of b (opening o) = opening_answer b o
refusal_of b (reading s input room) = (read_done s b input room).answer.refusal
refusal_of b (ending s room) = (end_done s b room).answer.refusal

-- the table's bytes after it
unfoldable pub left_by : List ℕ → Call → List ℕ
left_by b (setting_up s holidays) = setting_up_leaves b s holidays
left_by b (adding a) = adding_leaves b a
left_by b (entering e) = entering_leaves b e
left_by b (ordering o) = ordering_leaves b o
left_by b (opening o) = opening_leaves b o
left_by b (reading s input room) = (read_done s b input room).table
left_by b (ending s room) = (end_done s b room).table

-- the reply that stands in the room after a call, if there is one
unfoldable pub shown_by : Done → List (List ℕ)
shown_by d = pick (eqb d.answer.length 0) [] (take d.answer.length d.room ∷ [])

unfoldable pub reply_by : List ℕ → Call → List (List ℕ)
reply_by b (setting_up s holidays) = []
reply_by b (adding a) = []
reply_by b (entering e) = []
reply_by b (ordering o) = []
reply_by b (opening o) = []
reply_by b (reading s input room) = shown_by (read_done s b input room)
reply_by b (ending s room) = shown_by (end_done s b room)

-- all replies of a sequence of calls, in order, and the bytes that it leaves
unfoldable pub replies_over : List ℕ → List Call → List (List ℕ)
replies_over b [] = []
replies_over b (c ∷ cs) = reply_by b c ++ replies_over (left_by b c) cs

unfoldable pub left_over : List ℕ → List Call → List ℕ
left_over b [] = b
left_over b (c ∷ cs) = left_over (left_by b c) cs

-- ---- the arguments are values of their types: arrays have their lengths, words fit

unfoldable pub Typed : Call → Type 0
Typed (setting_up s holidays) =
    (length s.bank ≡ 25) × (length s.software ≡ 16) × (s.key < 2 ^ 64) × (s.seed < 2 ^ 64)
Typed (adding a) = length a.who ≡ 25
Typed (entering e) = length e.who ≡ 25
Typed (ordering o) = length o.who ≡ 25
Typed (opening o) = o.clock < 2 ^ 64
Typed (reading s input room) = Fits s
Typed (ending s room) = Fits s
