-- What a bureau can hold the desk to, each statement in plain words above it (document 02, R-5).
-- Assumes nothing.
use Rattle.std.specs.Prelude.{ℕ, ◌≡◌, true, false, List, [], ◌∷◌, ◌++◌, ◌⊎◌, length, Ok}
use Rattle.ground.specs.Choice.{both, pick}
use Rattle.ground.specs.Lists.{member, Each}
use Rattle.customer.specs.declared.Customer.{Customer}
use Rattle.changeover.specs.Held.{held_key}
use Rattle.table.specs.Table.{Table, sound_table, with_day}
use Rattle.table.specs.Decode.{table_of}
use Rattle.table.specs.Named.{named}
use Rattle.message.specs.declared.Check.{Check}
use Rattle.message.specs.Fields.{sender_of, transport_generation_of, working_generation_of}
use Rattle.message.specs.declared.Collected.{Collected}
use Rattle.message.specs.declared.Kind.TheVariants.{Esi, Suo, Var}
use Rattle.notice.specs.Codes.{code_in, codes}
use Rattle.reply.specs.Reply.{reply_of}
use Rattle.reply.specs.declared.Answering.{Answering}
use Rattle.opening.specs.declared.Opening.{Opening}
use Rattle.whole_file.specs.Records.{Item, line, past_size, items_of}
use Rattle.whole_file.specs.Messages.{known_text}
use Rattle.whole_file.specs.WholeFile.{Opened, Situation, before_esi, collecting_esi, outside, collecting_suo, in_frame, collecting_var, closed}
use Rattle.whole_file.specs.WholeFile.{Standing, Step, esi_ends, var_ends, record_in, past_in, end_in, at_start, whole_file}
use Rattle.calls.specs.Reading.{opening_answer}
use Rattle.desk_form.specs.Replies.{encloses}
use Rattle.desk.specs.Held.{key_named}
use Rattle.desk.specs.Desk.{desk_esi_checks, desk_pte_checks, kept_from, esi_checked, pte_checked, finding_at}
use Rattle.desk.specs.Sent.{sent_by}
use Rattle.desk.specs.declared.Held.{Held}
use Rattle.desk.specs.declared.Sent.{Sent}
use Rattle.desk.specs.declared.Checked.{Checked}
use Rattle.desk.specs.declared.Parts.{Parts}
use Rattle.desk_bytes.specs.Bytes.{is_held, held_in, sent_in}
use Rattle.desk_edge.specs.Calls.{opened_by, entered_by, held_after_call, sent_refusal, sent_after_call, is_served, esi_by, pte_by, check_answer, check_held}
use Rattle.splices.proofs.Splice.{AllBytes}
use Rattle.edge.specs.Box.{lp_open, box_answer, box_table, box_session, Words}
use Rattle.law_protocol.specs.Protocol.{Saw, Lent}
use Rattle.law_history.specs.History.{is_k}
use Rattle.law_edge.specs.BoxRuns.{BoxRuns}
use Rattle.law_demands.specs.Demands.{none_fails, brought_by}

-- ---- findings

-- what is told of a reply is the verdict of a list of checks: all pass exactly if none fails, else code and field are those of the first
-- that does
pub record FoundBy (checks : List Check) (x : Checked) : Type 0 where
  pub passes : none_fails checks ≡ true → x.finding ≡ Ok tt
  pub passed : x.finding ≡ Ok tt → none_fails checks ≡ true
  pub first : (before : List Check) (here : Check) (after : List Check) → checks ≡ before ++ (here ∷ after) → none_fails before ≡ true
      → here.failed ≡ true → x.finding ≡ finding_at here.code here.field

-- Any desk, anything sent, any bytes as a reply: the finding is the first failing check's.
abbrev pub FindingFirst : Type 0
FindingFirst = (h : Held) (s : Sent) (r : List ℕ)
    → FoundBy (desk_esi_checks h s r) (esi_checked h s r) × FoundBy (desk_pte_checks h s r) (pte_checked h s r)

-- The keys change exactly if all pass and a key is enclosed: it is then the current working key.
abbrev pub KeysKept : Type 0
KeysKept = (h : Held) (s : Sent) (r : List ℕ)
    → ((esi_checked h s r).held ≡ pick (both (none_fails (desk_esi_checks h s r)) (encloses r)) (kept_from h r) h)
    × ((pte_checked h s r).held ≡ pick (both (none_fails (desk_pte_checks h s r)) (encloses r)) (kept_from h r) h)

-- the codes that R-5 lists, for a bank's ESI and for a PTE
abbrev pub esi_findings : List ℕ
esi_findings = 3032 ∷ 3010 ∷ 3011 ∷ 3021 ∷ 3022 ∷ 3020 ∷ 3030 ∷ []

abbrev pub pte_findings : List ℕ
pte_findings = 3029 ∷ 3032 ∷ 3010 ∷ 3011 ∷ 3021 ∷ 3027 ∷ 3028 ∷ 3020 ∷ 3030 ∷ []

-- Any bytes as a reply get one of these, or pass.
abbrev pub OnlyListed : Type 0
OnlyListed = (h : Held) (s : Sent) (r : List ℕ) (code field : ℕ)
    → ((esi_checked h s r).finding ≡ finding_at code field → member code esi_findings ≡ true)
    × ((pte_checked h s r).finding ≡ finding_at code field → member code pte_findings ≡ true)

-- ---- the bank's replies

-- a message is the desk's own, and of the generations that it names the desk holds the keys that the customer's record holds
pub record SameKeys (h : Held) (c : Customer) (m : List ℕ) : Type 0 where
  pub own : h.own ≡ sender_of m
  pub transport : key_named h.transport (transport_generation_of m) ≡ held_key c.transport (transport_generation_of m)
  pub working : key_named h.working (working_generation_of m) ≡ held_key c.working (working_generation_of m)

-- the reply r to the message m passes the desk h, where the customer's record was c and is d afterwards: an enclosed key is kept and is the
-- bank's current working key from then on; where none is enclosed, neither side changes its current key; and of the generations that the
-- message names both sides hold the same keys still
pub record Passed (h : Held) (c d : Customer) (m r : List ℕ) (x : Checked) : Type 0 where
  pub passes : x.finding ≡ Ok tt
  pub own : x.held.own ≡ h.own
  pub bank : x.held.bank ≡ h.bank
  pub transport : x.held.transport ≡ h.transport
  pub kept : encloses r ≡ true
      → (x.held.working.generation ≡ d.working.generation) × (x.held.working.key ≡ d.working.key)
  pub stays : encloses r ≡ false
      → (x.held ≡ h) × (d.working.generation ≡ c.working.generation) × (d.working.key ≡ c.working.key)
  pub still : SameKeys x.held d m

-- both sides have the same current working key
pub record InStep (h : Held) (c : Customer) : Type 0 where
  pub generation : h.working.generation ≡ c.working.generation
  pub key : h.working.key ≡ c.working.key

-- So the two sides never part: in step before an accepted message, they are in step after its reply.
abbrev pub NeverPart : Type 0
NeverPart = (h : Held) (c d : Customer) (m r : List ℕ) (x : Checked) → Passed h c d m r x → InStep h c → InStep x.held d

-- the customer who sent a message, in a table
abbrev pub sent_from : Table → List ℕ → Customer
sent_from t m = named t (sender_of m)

-- Every reply that accepts an ESI passes the desk that holds the same keys, those from before the message or those after it.
abbrev pub EsiPasses : Type 0
EsiPasses = (o : Opening) (s : Standing) (m : Collected) (a : Answering) (h : Held)
    → sound_table s.table ≡ true → length m.text ≡ 161
    → (esi_ends o s m).says ≡ a ∷ [] → (code_in a.code codes).accepted ≡ true
    → SameKeys h (sent_from s.table m.text) m.text ⊎ SameKeys h (sent_from (esi_ends o s m).after.table m.text) m.text
    → Passed h (sent_from s.table m.text) (sent_from (esi_ends o s m).after.table m.text) m.text (reply_of a)
    (esi_checked h (sent_by m.text m.text) (reply_of a))

-- And so does every reply that accepts a batch.
abbrev pub PtePasses : Type 0
PtePasses = (o : Opening) (s : Standing) (f : Opened) (m : Collected) (a : Answering) (h : Held)
    → sound_table s.table ≡ true → length f.suo.text ≡ 161 → length m.text ≡ 161
    → (var_ends o s f m).says ≡ a ∷ [] → (code_in a.code codes).accepted ≡ true
    → SameKeys h (sent_from s.table f.suo.text) f.suo.text
    ⊎ SameKeys h (sent_from (var_ends o s f m).after.table f.suo.text) f.suo.text
    → Passed h (sent_from s.table f.suo.text) (sent_from (var_ends o s f m).after.table f.suo.text) f.suo.text (reply_of a)
    (pte_checked h (sent_by f.suo.text m.text) (reply_of a))

-- ---- the desk's calls, over bytes

-- the bytes are a desk's, and say this one
pub record Says (b : List ℕ) (h : Held) : Type 0 where
  pub is : is_held b ≡ true
  pub said : held_in b ≡ h

-- what a bureau lends: a desk's bytes, three words, and what it sent, which `lp_sent_of` took
pub record Lending (held word first closing room : List ℕ) : Type 0 where
  pub desk : is_held held ≡ true
  pub words : length word ≡ 3
  pub taken : sent_refusal first closing room ≡ 0
  pub bytes : AllBytes held × AllBytes first × AllBytes closing

-- the check of a reply answers 0; the desk that the bytes say passes it, and the bytes that are left say the desk as it is then
pub record PassedCall (held sent word : List ℕ) (c d : Customer) (m r : List ℕ) (x : Checked) : Type 0 where
  pub answers : check_answer (is_served held sent word) x ≡ 0
  pub desk : Passed (held_in held) c d m r x
  pub keeps : Says (check_held (is_served held sent word) held x) x.held

-- ---- any table, any opening, any file, each message of it

-- the step that a file takes where its reading stands: that of the next item, and after the last one the end's
unfoldable pub item_step : Opening → Standing → Item → Step
item_step o s (line r) = record_in o s s.situation r.chars
item_step o s (past_size at) = past_in o s s.situation

unfoldable pub next_step : Opening → Standing → (left : List Item) → Step
next_step o s [] = end_in o s s.situation
next_step o s (i ∷ l) = item_step o s i

-- where the reading of a file stands after some of its items
unfoldable pub stands_after : Opening → Standing → (read : List Item) → Standing
stands_after o s [] = s
stands_after o s (i ∷ l) = stands_after o (item_step o s i).after l

-- the characters of a message that ends there: those collected before, and the next record's
unfoldable pub next_chars : (left : List Item) → List ℕ
next_chars [] = []
next_chars (line r ∷ l) = r.chars
next_chars (past_size at ∷ l) = []

unfoldable pub message_at : Situation → (chars : List ℕ) → List ℕ
message_at (collecting_esi before) chars = before ++ chars
message_at (collecting_var before f) chars = before ++ chars
message_at before_esi chars = chars
message_at (outside told) chars = chars
message_at (collecting_suo before) chars = chars
message_at (in_frame f) chars = chars
message_at closed chars = chars

abbrev pub ending_at : Standing → (left : List Item) → List ℕ
ending_at s left = message_at s.situation (next_chars left)

-- the frame that is open there
abbrev pub FrameAt : Situation → Opened → Type 0
FrameAt (in_frame g) f = g ≡ f
FrameAt (collecting_var before g) f = g ≡ f
FrameAt before_esi f = ⊥
FrameAt (collecting_esi before) f = ⊥
FrameAt (outside told) f = ⊥
FrameAt (collecting_suo before) f = ⊥
FrameAt closed f = ⊥

-- where the reading stands at s, the reply r to the ESI or the batch that ends with the next step passes every desk that holds the same
-- keys, those from before the message or those after it, when it is checked by what was sent: these very characters
pub data PassesDesks (o : Opening) (s : Standing) (left : List Item) (r : List ℕ) : Type 0 where
  esi_passes : (m : Collected) → next_step o s left ≡ esi_ends o s m → m.text ≡ known_text Esi (ending_at s left)
      → ((held word first room : List ℕ) → Lending held word first first room → known_text Esi first ≡ m.text
      → SameKeys (held_in held) (sent_from s.table m.text) m.text
      ⊎ SameKeys (held_in held) (sent_from (esi_ends o s m).after.table m.text) m.text
      → PassedCall held (sent_after_call first first room) word (sent_from s.table m.text) (sent_from (esi_ends o s m).after.table m.text)
      m.text r (esi_by held (sent_after_call first first room) r))
      → PassesDesks o s left r
  pte_passes : (f : Opened) (m : Collected) → next_step o s left ≡ var_ends o s f m → FrameAt s.situation f
      → m.text ≡ known_text Var (ending_at s left)
      → ((held word first closing room : List ℕ) → Lending held word first closing room
      → known_text Suo first ≡ f.suo.text → known_text Var closing ≡ m.text
      → SameKeys (held_in held) (sent_from s.table f.suo.text) f.suo.text
      ⊎ SameKeys (held_in held) (sent_from (var_ends o s f m).after.table f.suo.text) f.suo.text
      → PassedCall held (sent_after_call first closing room) word (sent_from s.table f.suo.text)
      (sent_from (var_ends o s f m).after.table f.suo.text) f.suo.text r (pte_by held (sent_after_call first closing room) r))
      → PassesDesks o s left r

-- the bytes r are a reply of the file whose items are these, given where its reading stands after some of them, and pass
pub record PassesThere (o : Opening) (start : Standing) (items : List Item) (r : List ℕ) : Type 0 where
  pub read : List Item
  pub left : List Item
  pub all : items ≡ read ++ left
  pub answer : Answering
  pub says : (next_step o (stands_after o start read) left).says ≡ answer ∷ []
  pub reply : r ≡ reply_of answer
  pub passes : PassesDesks o (stands_after o start read) left r

-- the table that a file opened so finds: these bytes' with the day brought
abbrev pub opens_on : List ℕ → Opening → Table
opens_on b o = with_day (table_of b) o.today.yymmdd

-- Of any file, opened in any way on any table: every reply of the whole-file answer that says K passes so.
abbrev pub FilePasses : Type 0
FilePasses = (b : List ℕ) (o : Opening) (file : List ℕ) → opening_answer b o ≡ 0
    → Each (λ g. is_k g.reply ≡ true → PassesThere o (at_start (opens_on b o)) (items_of file) g.reply)
    (whole_file o (opens_on b o) file).given

-- However a box of the bank's cuts a file into reads: every reply with K that it sees is such a one.
abbrev pub BoxPassesDesks : Type 0
BoxPassesDesks = (b session : List ℕ) (today time kind clock : ℕ) (file : List ℕ) (ks : List Lent) (rooms : List (List ℕ)) (l : Saw)
    → Words (lp_open session today time kind clock) → box_answer b (lp_open session today time kind clock) ≡ 0
    → BoxRuns ks rooms 0 (box_session b (lp_open session today time kind clock)) (box_table b (lp_open session today time kind clock)) file l
    → Each (λ g. is_k g.reply ≡ true
    → PassesThere (brought_by today time kind clock) (at_start (opens_on b (brought_by today time kind clock))) (items_of file) g.reply) l.given

-- ---- the desk's bytes

-- What a served call leaves says the desk that it gives: one that is opened and kept by these calls alone is never refused for its bytes.
abbrev pub HeldBack : Type 0
HeldBack =
    ((held own bank : List ℕ) (part1 part2 check generation : ℕ) → (opened_by held own bank part1 part2 check generation).refusal ≡ 0
    → Says (held_after_call held (opened_by held own bank part1 part2 check generation))
    (opened_by held own bank part1 part2 check generation).held) ×
    ((held : List ℕ) (p : Parts) → AllBytes held → (entered_by held p).refusal ≡ 0
    → Says (held_after_call held (entered_by held p)) (entered_by held p).held) ×
    ((held sent reply word : List ℕ) → AllBytes held → is_served held sent word ≡ true
    → Says (check_held (is_served held sent word) held (esi_by held sent reply)) (esi_by held sent reply).held
    × Says (check_held (is_served held sent word) held (pte_by held sent reply)) (pte_by held sent reply).held)

-- What `lp_sent_of` leaves says the fields of the messages that it was given.
abbrev pub SentBack : Type 0
SentBack = (first closing room : List ℕ) → AllBytes first → AllBytes closing → sent_refusal first closing room ≡ 0
    → sent_in (sent_after_call first closing room) ≡ sent_by first closing
