-- Demand 2's whole-file answer: the replies to an uncut file, each with the place of the record that settles it, and the table afterwards
-- (document 01, 'Reading the file'). It knows no session, read or taken count.
-- Assumes nothing.
use Rattle.std.specs.Prelude.{ℕ, Bool, true, false, List, [], ◌∷◌, ◌++◌, length, replicate, Option}
use Rattle.ground.specs.Choice.{pick}
use Rattle.des.specs.Des.{enciphered}
use Rattle.digest.specs.Kept.{digest_of}
use Rattle.table.specs.Table.{Table}
use Rattle.message.specs.Layout.{field, no_field}
use Rattle.message.specs.Fields.{sender_of, method_of}
use Rattle.message.specs.declared.Kind.TheVariants.{Esi, Suo, Var}
use Rattle.message.specs.declared.Extent.TheVariants.{Whole, CutShort}
use Rattle.checks.specs.Checks.{key_or0}
use Rattle.verdict.specs.Outcomes.{esi_outcome, esi_table, frame_outcome, frame_table}
use Rattle.message.specs.declared.Collected.{Collected}
use Rattle.checks.specs.declared.Frame.{Frame}
use Rattle.checks.specs.declared.Occasion.{Occasion}
use Rattle.verdict.specs.declared.Outcome.{Outcome}
use Rattle.notice.specs.Codes.{code_in, codes}
use Rattle.reply.specs.Reply.{reply_of}
use Rattle.reply.specs.declared.Answering.{Answering}
use Rattle.answers.specs.Answers.{bare_answer, verdict_answer}
use Rattle.opening.specs.declared.Opening.{Opening}
use Rattle.whole_file.specs.Records.{Item, line, past_size, items_of}
use Rattle.whole_file.specs.Messages.{begins, extent_of, is_whole, wants_more, collected_as, once_of}

-- ---- between two records

-- an open frame: its SUO, the one-time key deciphered at the SUO's end, and its data records so far
pub record Opened : Type 0 where
  pub suo : Collected
  pub once : Option ℕ
  pub records : List (List ℕ)

-- where the reading stands: before the ESI; collecting a message, with its characters so far;
-- outside a frame, with 1023 given or not; in a frame; closed
pub data Situation : Type 0 where
  before_esi : Situation
  collecting_esi : List ℕ → Situation
  outside : Bool → Situation
  collecting_suo : List ℕ → Situation
  in_frame : Opened → Situation
  collecting_var : List ℕ → Opened → Situation
  closed : Situation

-- the situation, the table, the keys made in this file, and the sender of its ESI
pub record Standing : Type 0 where
  pub situation : Situation
  pub table : Table
  pub made : ℕ
  pub sender : List ℕ

-- what a record or the file's end gives: at most one reply, and the standing after it
pub record Step : Type 0 where
  pub says : List Answering
  pub after : Standing

unfoldable pub moved : Standing → Situation → Standing
moved s x = record { situation = x; table = s.table; made = s.made; sender = s.sender }

unfoldable pub silent : Standing → Step
silent s = record { says = []; after = s }

unfoldable pub replies : Answering → Standing → Step
replies a s = record { says = a ∷ []; after = s }

-- a bare reply, ESI or PTE; an ESI may name a field of a record
unfoldable pub esi_says : Opening → Standing → (code field : ℕ) (chars : List ℕ) → Standing → Step
esi_says o s code field chars after = replies (bare_answer s.table o false code field chars) after

unfoldable pub pte_says : Opening → Standing → ℕ → Standing → Step
pte_says o s code after = replies (bare_answer s.table o true code no_field []) after

-- ---- a message's end

unfoldable pub occasion : Opening → ℕ → Occasion
occasion o made = record { today = o.today; kind = o.kind; clock = o.clock; made = made }

-- an ESI refused closes the file
unfoldable pub after_esi : Bool → Situation
after_esi true = outside false
after_esi false = closed

unfoldable pub esi_ends : Opening → Standing → Collected → Step
esi_ends o s m =
    let out : Outcome = esi_outcome s.table (occasion o s.made) m in
    let t : Table = esi_table s.table (occasion o s.made) m in
    replies (verdict_answer t o false out m.text m.text)
    (record {
      situation = after_esi (code_in out.code codes).accepted;
      table = t;
      made = out.made;
      sender = sender_of m.text;
    })

-- a SUO, faulty or not, opens a frame
unfoldable pub suo_ends : Standing → Collected → Step
suo_ends s m =
    silent (moved s (in_frame (record { suo = m; once = once_of s.table m; records = [] })))

-- the frame as it is judged: the digest uses the one-time key and the method that the SUO names
unfoldable pub frame_of : Opened → Collected → Frame
frame_of f m =
    record {
      suo = f.suo;
      var = m;
      once = f.once;
      digest = digest_of (enciphered (key_or0 f.once)) (method_of f.suo.text) f.records;
    }

-- a frame runs from SUO to the end of VAR, and its verdict comes there
unfoldable pub var_ends : Opening → Standing → Opened → Collected → Step
var_ends o s f m =
    let out : Outcome = frame_outcome s.table (occasion o s.made) (frame_of f m) in
    let t : Table = frame_table s.table (occasion o s.made) (frame_of f m) in
    replies (verdict_answer t o true out f.suo.text m.text)
    (record { situation = outside false; table = t; made = out.made; sender = s.sender })

-- ---- a message takes records until its length is reached, whatever those begin with

unfoldable pub esi_goes_on : Opening → Standing → List ℕ → Step
esi_goes_on o s chars =
    pick (wants_more chars) (silent (moved s (collecting_esi chars))) (esi_ends o s (collected_as Esi Whole chars))

unfoldable pub suo_goes_on : Standing → List ℕ → Step
suo_goes_on s chars =
    pick (wants_more chars) (silent (moved s (collecting_suo chars))) (suo_ends s (collected_as Suo Whole chars))

unfoldable pub var_goes_on : Opening → Standing → Opened → List ℕ → Step
var_goes_on o s f chars =
    pick (wants_more chars) (silent (moved s (collecting_var chars f))) (var_ends o s f (collected_as Var Whole chars))

-- ---- a message's first record

unfoldable pub esi_starts : Opening → Standing → List ℕ → Step
esi_starts o s chars =
    pick (is_whole (extent_of Esi chars)) (esi_goes_on o s chars) (esi_ends o s (collected_as Esi (extent_of Esi chars) chars))

unfoldable pub suo_starts : Standing → List ℕ → Step
suo_starts s chars =
    pick (is_whole (extent_of Suo chars)) (suo_goes_on s chars) (suo_ends s (collected_as Suo (extent_of Suo chars) chars))

unfoldable pub var_starts : Opening → Standing → Opened → List ℕ → Step
var_starts o s f chars =
    pick (is_whole (extent_of Var chars)) (var_goes_on o s f chars) (var_ends o s f (collected_as Var (extent_of Var chars) chars))

-- ---- a record

-- the first message must be ESI: any other first record gets an ESI reply 1010 on field 1, which shows its first five characters, or
-- fewer, and closes the file
unfoldable pub first_record : Opening → Standing → List ℕ → Step
first_record o s chars = pick (begins ">>ESI" chars) (esi_starts o s chars) (esi_says o s 1010 (field 1) chars (moved s closed))

-- outside a frame: a later ESI closes the file with 1011 on field 1; other records (VAR starts no message there) give one 1023 at the first
-- of them and are skipped until the next SUO or ESI
unfoldable pub outside_record : Opening → Standing → Bool → List ℕ → Step
outside_record o s told chars =
    pick (begins ">>SUO" chars) (suo_starts s chars)
    (pick (begins ">>ESI" chars) (esi_says o s 1011 (field 1) chars (moved s closed))
    (pick told (silent s) (pte_says o s 1023 (moved s (outside true)))))

unfoldable pub with_record : Opened → List ℕ → Opened
with_record f chars = record { suo = f.suo; once = f.once; records = f.records ++ (chars ∷ []) }

-- in a frame: a second SUO gives 1024 for the open frame and then opens a new one; a later ESI gives 1024 and closes the file; else data
unfoldable pub frame_record : Opening → Standing → Opened → List ℕ → Step
frame_record o s f chars =
    pick (begins ">>VAR" chars) (var_starts o s f chars)
    (pick (begins ">>SUO" chars) (pte_says o s 1024 (suo_starts s chars).after)
    (pick (begins ">>ESI" chars) (pte_says o s 1024 (moved s closed))
    (silent (moved s (in_frame (with_record f chars))))))

unfoldable pub record_in : Opening → Standing → Situation → List ℕ → Step
record_in o s before_esi chars = first_record o s chars
record_in o s (collecting_esi sofar) chars = esi_goes_on o s (sofar ++ chars)
record_in o s (outside told) chars = outside_record o s told chars
record_in o s (collecting_suo sofar) chars = suo_goes_on s (sofar ++ chars)
record_in o s (in_frame f) chars = frame_record o s f chars
record_in o s (collecting_var sofar f) chars = var_goes_on o s f (sofar ++ chars)
record_in o s closed chars = silent s

-- ---- a byte past the size limit gives 1034 and closes the file,
-- and an open frame gets nothing else. Until an ESI is accepted the reply is an ESI

unfoldable pub past_in : Opening → Standing → Situation → Step
past_in o s before_esi = esi_says o s 1034 no_field [] (moved s closed)
past_in o s (collecting_esi sofar) = esi_says o s 1034 no_field [] (moved s closed)
past_in o s (outside told) = pte_says o s 1034 (moved s closed)
past_in o s (collecting_suo sofar) = pte_says o s 1034 (moved s closed)
past_in o s (in_frame f) = pte_says o s 1034 (moved s closed)
past_in o s (collecting_var sofar f) = pte_says o s 1034 (moved s closed)
past_in o s closed = silent s

-- ---- the file's end: a message cut short is 1032, and its frame then gets no 1024; an open frame gets 1024

unfoldable pub end_in : Opening → Standing → Situation → Step
end_in o s before_esi = silent s
end_in o s (collecting_esi sofar) = esi_ends o s (collected_as Esi CutShort sofar)
end_in o s (outside told) = silent s
end_in o s (collecting_suo sofar) = pte_says o s 1032 (moved s closed)
end_in o s (in_frame f) = pte_says o s 1024 (moved s closed)
end_in o s (collecting_var sofar f) = var_ends o s f (collected_as Var CutShort sofar)
end_in o s closed = silent s

-- ---- the whole file

-- a reply, and how many bytes of the file go up to the end of the record that settles it
pub record Given : Type 0 where
  pub at : ℕ
  pub reply : List ℕ

-- the replies in order, and the standing at the end
pub record Told : Type 0 where
  pub given : List Given
  pub standing : Standing

unfoldable pub given_at : ℕ → List Answering → List Given
given_at at [] = []
given_at at (a ∷ l) = record { at = at; reply = reply_of a } ∷ given_at at l

unfoldable pub sooner : List Given → Told → Told
sooner l x = record { given = l ++ x.given; standing = x.standing }

-- over the items of a file of `size` bytes, and its end
unfoldable pub told_of : Opening → ℕ → Standing → List Item → Told
told_of o size s [] =
    let x : Step = end_in o s s.situation in record { given = given_at size x.says; standing = x.after }
told_of o size s (line r ∷ l) =
    let x : Step = record_in o s s.situation r.chars in sooner (given_at r.end x.says) (told_of o size x.after l)
told_of o size s (past_size at ∷ l) =
    let x : Step = past_in o s s.situation in sooner (given_at at x.says) (told_of o size x.after l)

-- a file is read from before its ESI, with no key made
unfoldable pub at_start : Table → Standing
at_start t = record { situation = before_esi; table = t; made = 0; sender = replicate 25 0 }

-- the answer to a file, opened so, on a table
unfoldable pub whole_file : Opening → Table → List ℕ → Told
whole_file o t file = told_of o (length file) (at_start t) (items_of file)
