-- What a bank can hold us to: the user's three demands as statements, each in plain words above it.
-- What must be believed is what these statements speak of, read beside document 01: messages and their fields (message/specs),
-- the lists of checks (checks/specs), the verdict on one message (verdict/specs), notices and replies (notice, reply, answers),
-- the table and its bytes (table, customer, customer_bytes), the four calls that keep it (table_calls/specs), what refuses the others
-- and what a call is (calls/specs: `refusal_of`, `left_by`, `reply_by`), the whole-file answer (whole_file/specs), what a caller does
-- (law_protocol/specs), and this file. What only names what the code computes is the session with its machine (session/specs) and
-- what a read and an end do by it (`read_done`, `end_done`): of these the statements say all that a caller sees. The calls promise
-- the records of table_calls/specs/Promises.antt and of calls/specs/Promises.antt, of which the statements of the last part speak.
-- The last part says the same of the calls of include/lentilpot.h,
-- in the numbers and bytes that a box in C or Rust has (edge/specs/Box.antt).
-- Assumes nothing.
use Rattle.std.specs.Prelude.{ℕ, ◌+◌, ◌<◌, ◌≤◌, ◌≡◌, Bool, true, false, List, [], ◌∷◌, ◌++◌, map, eqb, length, drop, get_or}
use Rattle.ground.specs.Choice.{both, either, fails}
use Rattle.ground.specs.Lists.{same, member}
use Rattle.text.specs.Characters.{padded}
use Rattle.text.specs.Letters.{letters}
use Rattle.message.specs.Layout.{field, field_text}
use Rattle.message.specs.Contents.{at_fault}
use Rattle.message.specs.Fields.{receiver_of}
use Rattle.table.specs.Table.{Table, place_of, is_unknown, customer_in, with_day}
use Rattle.table.specs.Written.{WrittenAs, written}
use Rattle.table.specs.Decode.{table_of, is_table}
use Rattle.refusals.specs.Refusals.{Refusal, refusal, no_table}
use Rattle.table_calls.specs.Calls.{setting_up_refusals, adding_refusals, entering_refusals, ordering_refusals}
use Rattle.table_calls.specs.declared.Setting.{Setting}
use Rattle.message.specs.declared.Check.{Check}
use Rattle.message.specs.Order.{first_failing, fault_at}
use Rattle.message.specs.declared.About.{About}
use Rattle.checks.specs.Checks.{esi_checks, frame_checks}
use Rattle.message.specs.declared.Collected.{Collected}
use Rattle.checks.specs.declared.Frame.{Frame}
use Rattle.verdict.specs.Outcomes.{esi_outcome, esi_leaves, frame_outcome, frame_leaves}
use Rattle.notice.specs.Codes.{code_in, codes, field_name, shown_byte}
use Rattle.reply.specs.Reply.{clock_text, notice_of, reply_of}
use Rattle.reply.specs.declared.Answering.{Answering}
use Rattle.answers.specs.Answers.{bare_answer, verdict_answer}
use Rattle.opening.specs.declared.Opening.{Opening}
use Rattle.whole_file.specs.Records.{Item, items_of}
use Rattle.whole_file.specs.Messages.{begins}
use Rattle.whole_file.specs.WholeFile.{Opened, Standing, Step, occasion, esi_ends, frame_of, var_ends, first_record, outside_record, told_of, at_start}
use Rattle.whole_file.specs.WholeFile.{whole_file}
use Rattle.session.specs.Ranges.{Fits, in_range}
use Rattle.session.specs.declared.Session.{Session}
use Rattle.calls.specs.Reading.{Done, opening_refusals, opening_answer, opening_gives, opening_leaves, reading_refusals, ending_refusals}
use Rattle.calls.specs.Reading.{read_done, end_done}
use Rattle.calls.specs.Calls.{Call, setting_up, adding, entering, ordering, opening, reading, ending, Typed, refusal_of, left_by, shown_by}
use Rattle.calls.specs.Calls.{reply_by, replies_over}
use Rattle.table_calls.specs.Promises.{MeetsKeeping}
use Rattle.calls.specs.Promises.{MeetsOpen, MeetsReading}
use Rattle.calls.specs.declared.Answer.{Answer}
use Rattle.calls.specs.declared.OpenAnswer.{OpenAnswer}
use Rattle.law_history.specs.History.{is_k, is_setting_up, is_hearing, reading_codes, all_different, no_set_up, AllTyped}
use Rattle.law_protocol.specs.Protocol.{Saw, Lent, Runs, RunServed, rooms_from, reads_from}
use Rattle.session_bytes.specs.Session.{session_size, is_session, session_in}
use Rattle.edge.specs.Edge.{taken_in, length_in, finished_in, refusal_in}
use Rattle.edge.specs.Box.{BoxCall, lp_set_up, lp_open, lp_read, lp_end, call_of, box_answer, box_table, box_session, box_reply, box_replies}
use Rattle.edge.specs.Box.{MeetsBox}
use Rattle.edge.specs.Box.{box_room, Words, AllWords}
use Rattle.law_edge.specs.TakenApart.{Apart}
use Rattle.law_edge.specs.BoxRuns.{BoxRuns}
use Rattle.law_demands.specs.Rest.{items_blanked}

-- ---- DEMAND 1: a call that can't be served gives one of document 01's numbered refusals and changes nothing lent to it

-- the conditions of document 01's table that each call asks, lowest number first
unfoldable pub conditions_of : List ℕ → Call → List Refusal
conditions_of b (setting_up s holidays) = setting_up_refusals b s holidays
conditions_of b (adding a) = adding_refusals b a
conditions_of b (entering e) = entering_refusals b e
conditions_of b (ordering o) = ordering_refusals b o
conditions_of b (opening o) = opening_refusals b o
conditions_of b (reading s input room) = reading_refusals s b room
conditions_of b (ending s room) = ending_refusals s b room

-- condition n holds, and none with a lower number does
pub record HoldsFirst (rs : List Refusal) (n : ℕ) : Type 0 where
  pub place : ℕ
  pub there : place < length rs
  pub number : (get_or rs place (refusal 0 false)).number ≡ n
  pub holds : (get_or rs place (refusal 0 false)).holds ≡ true
  pub lower : (j : ℕ) → j < length rs → (get_or rs j (refusal 0 false)).number < n → (get_or rs j (refusal 0 false)).holds ≡ false

-- A call is refused with n exactly if condition n holds and no lower one does.
abbrev pub RefusedExactly : Type 0
RefusedExactly = (b : List ℕ) (c : Call) (n : ℕ) → (n ≡ 0 → ⊥)
    → (refusal_of b c ≡ n → HoldsFirst (conditions_of b c) n) × (HoldsFirst (conditions_of b c) n → refusal_of b c ≡ n)

-- Condition 2 is just that no sound table is written as these bytes.
abbrev pub NoTableExactly : Type 0
NoTableExactly = (b : List ℕ)
    → (no_table b ≡ true → (t : Table) → WrittenAs t b → ⊥) × (((t : Table) → WrittenAs t b → ⊥) → no_table b ≡ true)

-- nothing was taken, and session and room are as they were
pub record Untouched (s : Session) (b room : List ℕ) (d : Done) : Type 0 where
  pub nothing_taken : d.answer.taken ≡ 0
  pub no_reply : d.answer.length ≡ 0
  pub not_finished : d.answer.finished ≡ false
  pub same_session : d.answer.session ≡ s
  pub same_table : d.table ≡ b
  pub same_room : d.room ≡ room

-- A refused call leaves every byte of the table; a refused read or end leaves session and reply room too, and takes nothing.
abbrev pub RefusedStays : Type 0
RefusedStays = (b : List ℕ) (c : Call) → (refusal_of b c ≡ 0 → ⊥) → left_by b c ≡ b

abbrev pub RefusedReadStays : Type 0
RefusedReadStays = (s : Session) (b input room : List ℕ) → ((read_done s b input room).answer.refusal ≡ 0 → ⊥)
    → Untouched s b room (read_done s b input room)

abbrev pub RefusedEndStays : Type 0
RefusedEndStays = (s : Session) (b room : List ℕ) → ((end_done s b room).answer.refusal ≡ 0 → ⊥)
    → Untouched s b room (end_done s b room)

-- no reply with K is among these
unfoldable pub no_k : List (List ℕ) → Bool
no_k [] = true
no_k (r ∷ l) = both (fails (is_k r)) (no_k l)

-- A read or an end, served or refused, that shows no reply with K leaves every byte of the table: a message answered with E changes no
-- customer's record, and nor does a call that shows nothing.
abbrev pub NoKNoChange : Type 0
NoKNoChange = (b : List ℕ) (c : Call) → Typed c → is_hearing c ≡ true → no_k (reply_by b c) ≡ true → left_by b c ≡ b

-- An opening, served or refused, changes no customer's record.
abbrev pub OpeningKeepsRecords : Type 0
OpeningKeepsRecords = (b : List ℕ) (o : Opening) → (table_of (left_by b (opening o))).customers ≡ (table_of b).customers

-- the reply room keeps its length, and the bytes past the reply's length are as they were
pub record RestOf (room : List ℕ) (d : Done) : Type 0 where
  pub same_length : length d.room ≡ length room
  pub past : drop d.answer.length d.room ≡ drop d.answer.length room

-- After any read or end, served or refused, the rest of the reply room is as it was.
abbrev pub RestStays : Type 0
RestStays =
    ((s : Session) (b input room : List ℕ) → Fits s → RestOf room (read_done s b input room)) ×
    ((s : Session) (b room : List ℕ) → Fits s → RestOf room (end_done s b room))

-- two calls answer the same, leave the same table, and show the same reply
pub record Alike (d e : Done) : Type 0 where
  pub answers : d.answer ≡ e.answer
  pub leaves : d.table ≡ e.table
  pub shows : shown_by d ≡ shown_by e

-- What a reply room of at least 317 bytes held, and how long it is, is nowhere seen: not in the answer, nor in the table, nor in the reply.
abbrev pub RoomUnseen : Type 0
RoomUnseen =
    ((s : Session) (b input room other : List ℕ) → Fits s → 317 ≤ length room → 317 ≤ length other
    → Alike (read_done s b input room) (read_done s b input other)) ×
    ((s : Session) (b room other : List ℕ) → Fits s → 317 ≤ length room → 317 ≤ length other → Alike (end_done s b room) (end_done s b other))

-- ---- DEMAND 2: accepted exactly if every check passes; otherwise the code is that of the first failing check

unfoldable pub none_fails : List Check → Bool
none_fails [] = true
none_fails (c ∷ cs) = both (fails c.failed) (none_fails cs)

-- a reply is the verdict of a list of checks: accepted exactly if none fails, else with code and field of the first that does
pub record VerdictOf (checks : List Check) (reply : Answering) : Type 0 where
  pub accepted : (code_in reply.code codes).accepted ≡ true → none_fails checks ≡ true
  pub passes : none_fails checks ≡ true → (code_in reply.code codes).accepted ≡ true
  pub first : (before : List Check) (here : Check) (after : List Check) → checks ≡ before ++ (here ∷ after) → none_fails before ≡ true
      → here.failed ≡ true
      → (reply.code ≡ here.code) × (reply.field ≡ here.field)

-- a step of the whole-file answer that judges a message by a list of checks, on a table
pub record Judges (checks : List Check) (x : Step) (t : Table) : Type 0 where
  pub reply : Answering
  pub one_reply : x.says ≡ reply ∷ []
  pub verdict : VerdictOf checks reply
  pub refused_keeps : (code_in reply.code codes).accepted ≡ false → x.after.table ≡ t

-- An ESI is accepted exactly if every check of its list passes; otherwise its code is the first failing one's, and the table stays.
abbrev pub EsiJudged : Type 0
EsiJudged = (o : Opening) (s : Standing) (m : Collected) → Judges (esi_checks s.table o.today m) (esi_ends o s m) s.table

-- And so is a frame, at the end of its VAR.
abbrev pub FrameJudged : Type 0
FrameJudged = (o : Opening) (s : Standing) (f : Opened) (m : Collected)
    → Judges (frame_checks s.table o.today o.kind (frame_of f m)) (var_ends o s f m) s.table

-- the notice of a reply shows, after the name of the field, one blank and that field of m as received, in which bytes outside 20 to 7E are
-- `?`, cut where the 60 characters end
pub record ShowsField (reply : Answering) (m : List ℕ) : Type 0 where
  pub notice : notice_of reply ≡ padded 60
      (clock_text reply.time ++ letters " " ++ (code_in reply.code codes).before ++ field_name reply.field ++ letters " "
      ++ map shown_byte (field_text reply.field m))

-- the codes that show a field's contents, and no others do
abbrev pub is_fault : ℕ → Bool
is_fault code = either (eqb code 1010) (eqb code 1011)

-- Every reply to an ESI with 1010 or 1011 shows the named field of that ESI.
abbrev pub EsiFaultShown : Type 0
EsiFaultShown = (o : Opening) (s : Standing) (m : Collected) (reply : Answering) → (esi_ends o s m).says ≡ reply ∷ []
    → is_fault reply.code ≡ true → ShowsField reply m.text

-- Every reply to a frame with 1010 or 1011 shows the named field of the message at fault: of the SUO where the first failing check is about
-- the SUO, else of the VAR.
abbrev pub FrameFaultShown : Type 0
FrameFaultShown = (o : Opening) (s : Standing) (f : Opened) (m : Collected) (reply : Answering) → (var_ends o s f m).says ≡ reply ∷ []
    → is_fault reply.code ≡ true
    → (before : List Check) (here : Check) (after : List Check)
    → frame_checks s.table o.today o.kind (frame_of f m) ≡ before ++ (here ∷ after) → none_fails before ≡ true → here.failed ≡ true
    → ShowsField reply (at_fault here.about f.suo.text m.text)

-- A first record that isn't an ESI, and an ESI outside a frame, get a reply that shows field 1 of that record: its first five characters,
-- or fewer.
abbrev pub TagFaultShown : Type 0
TagFaultShown =
    ((o : Opening) (s : Standing) (chars : List ℕ) (reply : Answering) → begins ">>ESI" chars ≡ false
    → (first_record o s chars).says ≡ reply ∷ [] → (reply.field ≡ field 1) × ShowsField reply chars) ×
    ((o : Opening) (s : Standing) (told : Bool) (chars : List ℕ) (reply : Answering) → begins ">>SUO" chars ≡ false
    → begins ">>ESI" chars ≡ true → (outside_record o s told chars).says ≡ reply ∷ [] → (reply.field ≡ field 1) × ShowsField reply chars)

-- what a served call shows and leaves, of a file opened by o in which so many keys were made, on the table's bytes b: nothing; a bare E of
-- the reading rules; or the verdict on an ESI or on a frame, by the list of checks on the table as it stands then
abbrev pub esi_reply : Opening → ℕ → List ℕ → Collected → List ℕ → Answering
esi_reply o made b m left =
    verdict_answer (table_of left) o false (esi_outcome (table_of b) (occasion o made) m) m.text m.text

abbrev pub frame_reply : Opening → ℕ → List ℕ → Frame → List ℕ → Answering
frame_reply o made b f left =
    verdict_answer (table_of left) o true (frame_outcome (table_of b) (occasion o made) f) f.suo.text f.var.text

pub data Shows (o : Opening) (made : ℕ) (b : List ℕ) (d : Done) : Type 0 where
  shows_nothing : shown_by d ≡ [] → d.table ≡ b → Shows o made b d
  shows_bare : (pte : Bool) (code field : ℕ) (chars : List ℕ) → member code reading_codes ≡ true
      → shown_by d ≡ reply_of (bare_answer (table_of b) o pte code field chars) ∷ []
      → is_k (reply_of (bare_answer (table_of b) o pte code field chars)) ≡ false
      → d.table ≡ b
      → Shows o made b d
  shows_esi : (m : Collected) → d.table ≡ esi_leaves b (occasion o made) m
      → shown_by d ≡ reply_of (esi_reply o made b m d.table) ∷ []
      → VerdictOf (esi_checks (table_of b) o.today m) (esi_reply o made b m d.table)
      → Shows o made b d
  shows_frame : (f : Frame) → d.table ≡ frame_leaves b (occasion o made) f
      → shown_by d ≡ reply_of (frame_reply o made b f d.table) ∷ []
      → VerdictOf (frame_checks (table_of b) o.today o.kind f) (frame_reply o made b f d.table)
      → Shows o made b d

-- Every served read and end, on any session and any table, shows one of these, and a message is judged by nothing else.
abbrev pub CallsJudged : Type 0
CallsJudged =
    ((s : Session) (b input room : List ℕ) → Fits s → (read_done s b input room).answer.refusal ≡ 0
    → Shows s.opening s.made b (read_done s b input room)) ×
    ((s : Session) (b room : List ℕ) → Fits s → (end_done s b room).answer.refusal ≡ 0 → Shows s.opening s.made b (end_done s b room))

-- the bytes r are those of a reply, and their field 20 is its notice
pub record IsReply (reply : Answering) (r : List ℕ) : Type 0 where
  pub bytes : r ≡ reply_of reply
  pub notice : field_text (field 20) r ≡ notice_of reply

-- what the reply r of a call, as above, shows of the message at fault: nothing where its code is neither 1010 nor 1011; field 1 of a record
-- where it is a bare E of the reading rules; the named field of the ESI; the named field of a frame's SUO or VAR, whichever the first
-- failing check is about
pub data ShowsFault (o : Opening) (made : ℕ) (b left r : List ℕ) : Type 0 where
  no_fault : (reply : Answering) → IsReply reply r → is_fault reply.code ≡ false → ShowsFault o made b left r
  of_record : (pte : Bool) (code : ℕ) (chars : List ℕ) → IsReply (bare_answer (table_of b) o pte code (field 1) chars) r
      → ShowsField (bare_answer (table_of b) o pte code (field 1) chars) chars
      → left ≡ b
      → ShowsFault o made b left r
  of_esi : (m : Collected) → IsReply (esi_reply o made b m left) r → ShowsField (esi_reply o made b m left) m.text
      → ShowsFault o made b left r
  of_frame : (f : Frame) (code number : ℕ) (about : About) → IsReply (frame_reply o made b f left) r
      → first_failing (frame_checks (table_of b) o.today o.kind f) ≡ fault_at code number about
      → ShowsField (frame_reply o made b f left) (at_fault about f.suo.text f.var.text)
      → ShowsFault o made b left r

-- So every reply of every read and end, on any session and any table, with 1010 or 1011 shows the named field of the message at fault.
abbrev pub CallsShowFault : Type 0
CallsShowFault =
    ((s : Session) (b input room r : List ℕ) → Fits s → shown_by (read_done s b input room) ≡ r ∷ []
    → ShowsFault s.opening s.made b (read_done s b input room).table r) ×
    ((s : Session) (b room r : List ℕ) → Fits s → shown_by (end_done s b room) ≡ r ∷ []
    → ShowsFault s.opening s.made b (end_done s b room).table r)

-- the reply r accepts an ESI or a frame that passes every check
pub data Accepts (o : Opening) (made : ℕ) (b : List ℕ) (r left : List ℕ) : Type 0 where
  accepts_esi : (m : Collected) → none_fails (esi_checks (table_of b) o.today m) ≡ true → r ≡ reply_of (esi_reply o made b m left)
      → left ≡ esi_leaves b (occasion o made) m
      → Accepts o made b r left
  accepts_frame : (f : Frame) → none_fails (frame_checks (table_of b) o.today o.kind f) ≡ true
      → r ≡ reply_of (frame_reply o made b f left)
      → left ≡ frame_leaves b (occasion o made) f
      → Accepts o made b r left

-- So every reply with K accepts a message that passes every check on the table as it stands then.
abbrev pub KJudged : Type 0
KJudged =
    ((s : Session) (b input room r : List ℕ) → Fits s → shown_by (read_done s b input room) ≡ r ∷ [] → is_k r ≡ true
    → Accepts s.opening s.made b r (read_done s b input room).table) ×
    ((s : Session) (b room r : List ℕ) → Fits s → shown_by (end_done s b room) ≡ r ∷ [] → is_k r ≡ true
    → Accepts s.opening s.made b r (end_done s b room).table)

-- No stamp twice: over every sequence of calls that begins with a set-up and has no other served set-up, with any arguments
-- and any sessions, forged ones too, no two replies with K of the whole sequence agree in fields 8 (all 25 characters) and 12.
abbrev pub NoStampTwice : Type 0
NoStampTwice = (b : List ℕ) (s : Setting) (holidays : List ℕ) (cs : List Call) → refusal_of b (setting_up s holidays) ≡ 0
    → AllTyped (setting_up s holidays ∷ cs)
    → no_set_up (left_by b (setting_up s holidays)) cs ≡ true
    → all_different (replies_over b (setting_up s holidays ∷ cs)) ≡ true

-- Others stay. Whom a call names: the customer of an entering or ordering; for a read or an end the sender (field 8) of a reply with K
unfoldable pub is_named : List ℕ → List (List ℕ) → Bool
is_named who [] = false
is_named who (r ∷ l) = either (both (is_k r) (same (receiver_of r) who)) (is_named who l)

unfoldable pub names : List ℕ → Call → List ℕ → Bool
names b (setting_up s holidays) who = true
names b (adding a) who = false
names b (entering e) who = same e.who who
names b (ordering o) who = same o.who who
names b (opening o) who = false
names b (reading s input room) who = is_named who (reply_by b (reading s input room))
names b (ending s room) who = is_named who (reply_by b (ending s room))

-- what stays of a table: customers keep their places, the records of those who are not named, settings but V, and the holidays
pub record Stays (t u : Table) (named : List ℕ → Bool) : Type 0 where
  pub places : (who : List ℕ) → is_unknown (place_of t who) ≡ false → place_of u who ≡ place_of t who
  pub records : (i : ℕ) → i < length t.customers → named (customer_in t i).who ≡ false → customer_in u i ≡ customer_in t i
  pub bank : u.settings.bank ≡ t.settings.bank
  pub software : u.settings.software ≡ t.settings.software
  pub floor : u.settings.floor ≡ t.settings.floor
  pub maker_key : u.settings.maker.key ≡ t.settings.maker.key
  pub holidays : u.holidays ≡ t.holidays

-- After any served call but a set-up every customer's record but the named one is the same,
-- in place and content; settings but V, and the holidays, never change.
abbrev pub OthersStay : Type 0
OthersStay = (b : List ℕ) (c : Call) → Typed c → is_setting_up c ≡ false → refusal_of b c ≡ 0
    → Stays (table_of b) (table_of (left_by b c)) (names b c)

-- Every table that a served call leaves is a table, for any arguments and sessions.
abbrev pub TablesStay : Type 0
TablesStay = (b : List ℕ) (c : Call) → Typed c → refusal_of b c ≡ 0 → is_table (left_by b c) ≡ true

-- the day that a served call leaves, and the number of customers
unfoldable pub day_after : List ℕ → Call → ℕ
day_after b (setting_up s holidays) = 800101
day_after b (adding a) = a.today.yymmdd
day_after b (entering e) = e.today.yymmdd
day_after b (ordering o) = o.today.yymmdd
day_after b (opening o) = o.today.yymmdd
day_after b (reading s input room) = (table_of b).day
day_after b (ending s room) = (table_of b).day

unfoldable pub count_after : List ℕ → Call → ℕ
count_after b (setting_up s holidays) = 0
count_after b (adding a) = length (table_of b).customers + 1
count_after b (entering e) = length (table_of b).customers
count_after b (ordering o) = length (table_of b).customers
count_after b (opening o) = length (table_of b).customers
count_after b (reading s input room) = length (table_of b).customers
count_after b (ending s room) = length (table_of b).customers

-- After a served call the table's day is the one that the call brings, 800101 after a set-up, and the same after a read or an end; a set-up
-- leaves no customer, an adding one more, and every other call the same number.
abbrev pub DayAndCount : Type 0
DayAndCount = (b : List ℕ) (c : Call) → Typed c → refusal_of b c ≡ 0
    → ((table_of (left_by b c)).day ≡ day_after b c) × (length (table_of (left_by b c)).customers ≡ count_after b c)

-- No session handed back by a served call, nor by a refused opening, is out of its range.
abbrev pub SessionsInRange : Type 0
SessionsInRange =
    ((b : List ℕ) (o : Opening) → in_range (opening_gives b o).session ≡ true) ×
    ((s : Session) (b input room : List ℕ) → (read_done s b input room).answer.refusal ≡ 0
    → in_range (read_done s b input room).answer.session ≡ true) ×
    ((s : Session) (b room : List ℕ) → (end_done s b room).answer.refusal ≡ 0 → in_range (end_done s b room).answer.session ≡ true)

-- ---- DEMAND 3: any file, any table, any way of cutting the file into reads

-- For every run of the protocol from an opened file the replies in order,
-- their settling places and the table at the end are those of the whole-file answer.
abbrev pub AnyCuts : Type 0
AnyCuts = (b : List ℕ) (o : Opening) (file : List ℕ) (ks : List Lent) (rooms : List (List ℕ)) (l : Saw) → opening_answer b o ≡ 0
    → Runs ks rooms 0 (opening_gives b o).session (opening_leaves b o) file l
    → l
    ≡ record {
      given = (whole_file o (with_day (table_of b) o.today.yymmdd) file).given;
      table = written b (whole_file o (with_day (table_of b) o.today.yymmdd) file).standing.table;
    }

-- A served read that shows no reply takes all its bytes.
abbrev pub SettlesNothing : Type 0
SettlesNothing = (s : Session) (b input room : List ℕ) → Fits s → (read_done s b input room).answer.refusal ≡ 0
    → shown_by (read_done s b input room) ≡ []
    → (read_done s b input room).answer.taken ≡ length input

-- No call of such a run is refused.
abbrev pub NoneRefused : Type 0
NoneRefused = (b : List ℕ) (o : Opening) (file : List ℕ) (ks : List Lent) (rooms : List (List ℕ)) (l : Saw) → opening_answer b o ≡ 0
    → (r : Runs ks rooms 0 (opening_gives b o).session (opening_leaves b o) file l)
    → RunServed r

-- And for every file, every sequence of positive read sizes and every sequence of reply rooms of at least 317 bytes, with any contents,
-- another at each call, such a run exists and finishes: some reads, and then ends with the rooms that follow.
abbrev pub RunsExist : Type 0
RunsExist = (b : List ℕ) (o : Opening) (file : List ℕ) (sizes : ℕ → ℕ) (rooms : ℕ → List ℕ) → opening_answer b o ≡ 0
    → ((i : ℕ) → 0 < sizes i)
    → ((i : ℕ) → 317 ≤ length (rooms i))
    → (n : ℕ) × (m : ℕ) × (l : Saw)
    × Runs (reads_from n 0 sizes rooms) (rooms_from m n rooms) 0 (opening_gives b o).session (opening_leaves b o) file l

-- The rest is passed over: for any records, with blanks in place of all characters between a message's layout's length and its stated one,
-- the replies, their places and the table at the end are the same.
abbrev pub RestUnseen : Type 0
RestUnseen = (o : Opening) (t : Table) (size : ℕ) (l : List Item)
    → ((told_of o size (at_start t) (items_blanked o (at_start t) l)).given ≡ (told_of o size (at_start t) l).given)
    × ((told_of o size (at_start t) (items_blanked o (at_start t) l)).standing.table ≡ (told_of o size (at_start t) l).standing.table)

-- ---- No second answer: two (answer, buffers) that meet a call's contract,
-- the record that the public function promises, at the same arguments are equal

abbrev pub NoSecondKeeping : Type 0
NoSecondKeeping = (b : List ℕ) (c : Call) (x y : ℕ) (t u : List ℕ) → MeetsKeeping (refusal_of b c) (left_by b c) x t
    → MeetsKeeping (refusal_of b c) (left_by b c) y u
    → (x ≡ y) × (t ≡ u)

abbrev pub NoSecondOpen : Type 0
NoSecondOpen = (b : List ℕ) (o : Opening) (x y : OpenAnswer) (t u : List ℕ) → MeetsOpen b o x t → MeetsOpen b o y u → (x ≡ y) × (t ≡ u)

abbrev pub NoSecondRead : Type 0
NoSecondRead = (s : Session) (b input room : List ℕ) (x y : Answer) (t u p q : List ℕ) → MeetsReading (read_done s b input room) x t p
    → MeetsReading (read_done s b input room) y u q
    → (x ≡ y) × (t ≡ u) × (p ≡ q)

abbrev pub NoSecondEnd : Type 0
NoSecondEnd = (s : Session) (b room : List ℕ) (x y : Answer) (t u p q : List ℕ) → MeetsReading (end_done s b room) x t p
    → MeetsReading (end_done s b room) y u q
    → (x ≡ y) × (t ≡ u) × (p ≡ q)

-- ---- THE EDGE: the same for a box that calls include/lentilpot.h and keeps its session as bytes

-- nothing was taken, there is no reply, and every lent buffer is as it was
pub record BoxUntouched (b session room : List ℕ) (c : BoxCall) : Type 0 where
  pub nothing_taken : taken_in (box_answer b c) ≡ 0
  pub no_reply : length_in (box_answer b c) ≡ 0
  pub not_finished : finished_in (box_answer b c) ≡ false
  pub same_table : box_table b c ≡ b
  pub same_session : box_session b c ≡ session
  pub same_room : box_room b c ≡ room

-- A refused call leaves every byte of the table; a refused lp_open leaves the session's bytes too, a refused lp_read or lp_end session and
-- room, and takes nothing.
abbrev pub BoxRefusedStays : Type 0
BoxRefusedStays =
    ((b : List ℕ) (c : BoxCall) → (refusal_of b (call_of c) ≡ 0 → ⊥) → box_table b c ≡ b) ×
    ((b session : List ℕ) (today time kind clock : ℕ) → (box_answer b (lp_open session today time kind clock) ≡ 0 → ⊥)
    → box_session b (lp_open session today time kind clock) ≡ session) ×
    ((b session input room : List ℕ) → (refusal_in (box_answer b (lp_read session input room)) ≡ 0 → ⊥)
    → BoxUntouched b session room (lp_read session input room)) ×
    ((b session room : List ℕ) → (refusal_in (box_answer b (lp_end session room)) ≡ 0 → ⊥) → BoxUntouched b session room (lp_end session room))

-- Over every sequence of calls of a box that begins with a served set-up and has no other served one, with any arguments (`Words`: what C
-- hands in as 64 bits is below 2^64) and any bytes of any lengths as sessions, forged ones too, no two replies with K that it sees agree in
-- fields 8 and 12.
abbrev pub BoxNoStampTwice : Type 0
BoxNoStampTwice = (b bank software : List ℕ) (floor k v : ℕ) (holidays : List ℕ) (cs : List BoxCall)
    → box_answer b (lp_set_up bank software floor k v holidays) ≡ 0
    → AllWords (lp_set_up bank software floor k v holidays ∷ cs)
    → no_set_up (box_table b (lp_set_up bank software floor k v holidays)) (map call_of cs) ≡ true
    → all_different (box_replies b (lp_set_up bank software floor k v holidays ∷ cs)) ≡ true

-- Every reply that lp_read and lp_end show, on any bytes, with 1010 or 1011 shows the named field of the message at fault.
abbrev pub BoxShowsFault : Type 0
BoxShowsFault =
    ((b session input room r : List ℕ) → box_reply b (lp_read session input room) ≡ r ∷ []
    → ShowsFault (session_in session).opening (session_in session).made b (box_table b (lp_read session input room)) r) ×
    ((b session room r : List ℕ) → box_reply b (lp_end session room) ≡ r ∷ []
    → ShowsFault (session_in session).opening (session_in session).made b (box_table b (lp_end session room)) r)

-- what a box brought to lp_open
abbrev pub brought_by : (today time kind clock : ℕ) → Opening
brought_by today time kind clock = record { today = record { yymmdd = today }; time = time; kind = kind; clock = clock }

-- Once lp_open is served, whatever bytes were lent for the session, every run of the box by what lp_read and lp_end return and leave sees
-- the whole-file answer: its replies in order, their settling places, and its table at the end.
abbrev pub BoxAnyCuts : Type 0
BoxAnyCuts = (b session : List ℕ) (today time kind clock : ℕ) (file : List ℕ) (ks : List Lent) (rooms : List (List ℕ)) (l : Saw)
    → Words (lp_open session today time kind clock) → box_answer b (lp_open session today time kind clock) ≡ 0
    → BoxRuns ks rooms 0 (box_session b (lp_open session today time kind clock)) (box_table b (lp_open session today time kind clock)) file l
    → l
    ≡ record {
      given = (whole_file (brought_by today time kind clock) (with_day (table_of b) today) file).given;
      table = written b (whole_file (brought_by today time kind clock) (with_day (table_of b) today) file).standing.table;
    }

-- And such a run exists and finishes, for every file,
-- every sequence of positive read sizes and every sequence of reply rooms of at least 317 bytes.
abbrev pub BoxRunsExist : Type 0
BoxRunsExist = (b session : List ℕ) (today time kind clock : ℕ) (file : List ℕ) (sizes : ℕ → ℕ) (rooms : ℕ → List ℕ)
    → Words (lp_open session today time kind clock) → box_answer b (lp_open session today time kind clock) ≡ 0
    → ((i : ℕ) → 0 < sizes i) → ((i : ℕ) → 317 ≤ length (rooms i))
    → (n : ℕ) × (m : ℕ) × (l : Saw)
    × BoxRuns (reads_from n 0 sizes rooms) (rooms_from m n rooms) 0 (box_session b (lp_open session today time kind clock))
    (box_table b (lp_open session today time kind clock))
    file
    l

-- Two files of one length whose records are the same but for what is passed over, each cut as it likes:
-- the same replies, at the same places, and the same table.
abbrev pub BoxRestUnseen : Type 0
BoxRestUnseen = (b session : List ℕ) (today time kind clock : ℕ) (file other : List ℕ) (ks js : List Lent) (rooms others : List (List ℕ))
    (l m : Saw) → Words (lp_open session today time kind clock) → box_answer b (lp_open session today time kind clock) ≡ 0
    → length other ≡ length file
    → items_blanked (brought_by today time kind clock) (at_start (with_day (table_of b) today)) (items_of other)
    ≡ items_blanked (brought_by today time kind clock) (at_start (with_day (table_of b) today)) (items_of file)
    → BoxRuns ks rooms 0 (box_session b (lp_open session today time kind clock)) (box_table b (lp_open session today time kind clock)) file l
    → BoxRuns js others 0 (box_session b (lp_open session today time kind clock)) (box_table b (lp_open session today time kind clock)) other m
    → m ≡ l

-- The number that lp_read and lp_end return, taken apart as include/lentilpot.h does,
-- says what was answered, served or refused, on any bytes.
abbrev pub BoxTakenApart : Type 0
BoxTakenApart =
    ((b session input room : List ℕ)
    → Apart (box_answer b (lp_read session input room)) (read_done (session_in session) b input room).answer) ×
    ((b session room : List ℕ) → Apart (box_answer b (lp_end session room)) (end_done (session_in session) b room).answer)

-- Two (number, buffers) that meet the contract of a call of the box at the same arguments are equal.
abbrev pub BoxNoSecond : Type 0
BoxNoSecond = (b : List ℕ) (c : BoxCall) (x y : ℕ) (t u s r p q : List ℕ) → MeetsBox b c x t s p → MeetsBox b c y u r q
    → (x ≡ y) × (t ≡ u) × (s ≡ r) × (p ≡ q)

-- the bytes of a session, of their length and in range
pub record Back (b : List ℕ) : Type 0 where
  pub is_session_fact : is_session b ≡ true
  pub whole_length : length b ≡ session_size
  pub in_its_range : in_range (session_in b) ≡ true

-- What a served lp_open, lp_read or lp_end leaves in the session's buffer are a session's bytes, in range.
abbrev pub BoxSessionsBack : Type 0
BoxSessionsBack =
    ((b session : List ℕ) (today time kind clock : ℕ) → Words (lp_open session today time kind clock)
    → box_answer b (lp_open session today time kind clock) ≡ 0
    → Back (box_session b (lp_open session today time kind clock))) ×
    ((b session input room : List ℕ) → refusal_in (box_answer b (lp_read session input room)) ≡ 0
    → Back (box_session b (lp_read session input room))) ×
    ((b session room : List ℕ) → refusal_in (box_answer b (lp_end session room)) ≡ 0 → Back (box_session b (lp_end session room)))
