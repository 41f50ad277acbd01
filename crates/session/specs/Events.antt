-- Events to replies: what characters, a record's end, a byte past the size limit and the file's end do to a session and a table.
-- Assumes nothing.
use Rattle.std.specs.Prelude.{ℕ, ◌+◌, min, Bool, true, false, List, [], ◌∷◌, eqb, ltb, take, drop, set, replicate, None}
use Rattle.ground.specs.Choice.{both, either, pick}
use Rattle.text.specs.Characters.{blank, all_blank}
use Rattle.des.specs.Des.{enciphered}
use Rattle.digest.specs.Running.{begun, alike, took_bytes, ended, answered}
use Rattle.table.specs.Decode.{table_of}
use Rattle.message.specs.Layout.{field, no_field}
use Rattle.message.specs.Contents.{contents_as}
use Rattle.message.specs.Fields.{sender_of, method_of}
use Rattle.message.specs.declared.Extent.{Extent}
use Rattle.message.specs.declared.Extent.TheVariants.{Whole, CutShort}
use Rattle.message.specs.declared.Kind.{Kind}
use Rattle.message.specs.declared.Kind.TheVariants.{Esi, Suo, Var}
use Rattle.checks.specs.Checks.{key_or0}
use Rattle.verdict.specs.Outcomes.{esi_outcome, esi_leaves, frame_outcome, frame_leaves}
use Rattle.message.specs.declared.Collected.{Collected}
use Rattle.checks.specs.declared.Frame.{Frame}
use Rattle.checks.specs.declared.Occasion.{Occasion}
use Rattle.verdict.specs.declared.Outcome.{Outcome}
use Rattle.notice.specs.Codes.{code_in, codes}
use Rattle.reply.specs.declared.Answering.{Answering}
use Rattle.answers.specs.Answers.{bare_answer, verdict_answer}
use Rattle.whole_file.specs.Messages.{begins, extent_of, is_whole, most_length, wanted_length, known_text, once_of}
use Rattle.whole_file.specs.WholeFile.{occasion}
use Rattle.session.specs.declared.Line.{Line}
use Rattle.session.specs.declared.Place.{Place}
use Rattle.session.specs.declared.Place.TheVariants.{BeforeEsi, Outside, Collecting, InData, Closed}
use Rattle.session.specs.declared.Gathered.{Gathered}
use Rattle.session.specs.declared.Batch.{Batch}
use Rattle.session.specs.declared.Session.{Session}
use Rattle.session.specs.declared.Reply.{Reply}
use Rattle.session.specs.declared.Stepped.{Stepped}

-- ---- a session on its way: whether it was opened and what was given then stay, the rest is as it says

abbrev pub onward : Session → (ended told : Bool) → (made : ℕ) → (sender : List ℕ) → Line → Place → Gathered → Batch → Session
onward s ended told made sender line place gathered batch =
    record {
      opened = s.opened;
      ended = ended;
      told = told;
      opening = s.opening;
      made = made;
      sender = sender;
      line = line;
      place = place;
      gathered = gathered;
      batch = batch;
    }

-- ---- characters

-- the characters of a record or message on its way that a session has room for
abbrev pub kept_room : ℕ
kept_room = 161

-- the record or message on its way with one character more: as many are kept, and counted up to the longest message's; of those past the
-- stated length only whether all were blank
unfoldable pub gathered_with : Gathered → ℕ → Gathered
gathered_with g c =
    pick (ltb g.count kept_room) (record { count = g.count + 1; blank = g.blank; text = set g.text g.count c })
    (record {
      count = min (g.count + 1) most_length;
      blank = both g.blank (either (ltb g.count (wanted_length g.text)) (eqb c blank));
      text = g.text;
    })

unfoldable pub gathered_all : Gathered → List ℕ → Gathered
gathered_all g [] = g
gathered_all g (c ∷ l) = gathered_all (gathered_with g c) l

unfoldable pub is_data : Place → Bool
is_data BeforeEsi = false
is_data Outside = false
is_data (Collecting kind) = false
is_data InData = true
is_data Closed = false

-- in data the characters go into the digest too; `e` enciphers under the one-time key
unfoldable pub batch_with : (ℕ → ℕ) → Place → Batch → List ℕ → Batch
batch_with e p batch l =
    pick (is_data p) (record { suo = batch.suo; once = batch.once; running = took_bytes e batch.running l }) batch

unfoldable pub heard_by : (ℕ → ℕ) → Session → List ℕ → Session
heard_by e s l =
    onward s s.ended s.told s.made s.sender s.line s.place (gathered_all s.gathered l)
    (batch_with e s.place s.batch l)

unfoldable pub cipher_of : Session → ℕ → ℕ
cipher_of s x = enciphered (key_or0 s.batch.once) x

unfoldable pub heard : Session → List ℕ → Session
heard s l = heard_by (cipher_of s) s l

-- ---- what a step gives

-- a session and a reply, and the table's bytes after it
pub record Turn : Type 0 where
  pub out : Stepped
  pub table : List ℕ

-- the reply that stands where none is given
abbrev pub no_reply : Reply
no_reply =
    record {
      given = false;
      answer =
          record {
            pte = false;
            bare = false;
            code = 0;
            field = no_field;
            contents = contents_as [];
            time = 0;
            bank = replicate 25 0;
            software = replicate 16 0;
            message = replicate 161 0;
            closing = replicate 161 0;
            working = None;
            transport = None;
            enclosed = None;
          };
    }

unfoldable pub silent : Session → List ℕ → Turn
silent s b = record { out = record { session = s; reply = no_reply }; table = b }

unfoldable pub replies : Answering → Session → List ℕ → Turn
replies a s b = record { out = record { session = s; reply = record { given = true; answer = a } }; table = b }

-- nothing on its way
unfoldable pub nothing : Gathered
nothing = record { count = 0; blank = true; text = replicate kept_room 0 }

-- another place, with 1023 given or not, and what is gathered
unfoldable pub placed : Session → Place → Bool → Gathered → Session
placed s p told g = onward s s.ended told s.made s.sender s.line p g s.batch

unfoldable pub with_batch : Session → Batch → Session
with_batch s batch = onward s s.ended s.told s.made s.sender s.line s.place s.gathered batch

-- after a verdict: the keys made in this file, and the ESI's sender
unfoldable pub judged : Session → Place → ℕ → List ℕ → Session
judged s p made sender = onward s s.ended false made sender s.line p nothing s.batch

unfoldable pub shut : Session → Session
shut s = placed s Closed s.told nothing

-- a bare reply, ESI or PTE, that may name a field of some characters
unfoldable pub bare_turn : Session → List ℕ → (pte : Bool) (code field : ℕ) (chars : List ℕ) → Session → Turn
bare_turn s b pte code field chars after = replies (bare_answer (table_of b) s.opening pte code field chars) after b

-- ---- a message's end

-- the characters that are kept of the record or message on its way
unfoldable pub held : Gathered → List ℕ
held g = take g.count g.text

-- its stated length is not yet reached
unfoldable pub wants : Gathered → Bool
wants g = ltb g.count (wanted_length (held g))

unfoldable pub collected_by : Kind → Extent → Gathered → Collected
collected_by kind extent g =
    record {
      extent = extent;
      blank = both (all_blank (drop (wanted_length (held g)) (held g))) g.blank;
      text = known_text kind (held g);
    }

unfoldable pub place_after_esi : Bool → Place
place_after_esi true = Outside
place_after_esi false = Closed

unfoldable pub esi_done : Session → List ℕ → Collected → Turn
esi_done s b m =
    let o : Occasion = occasion s.opening s.made in
    let out : Outcome = esi_outcome (table_of b) o m in
    let after : List ℕ = esi_leaves b o m in
    replies (verdict_answer (table_of after) s.opening false out m.text m.text)
    (judged s (place_after_esi (code_in out.code codes).accepted) out.made (sender_of m.text))
    after

unfoldable pub suo_done : Session → List ℕ → Collected → Session
suo_done s b m =
    with_batch (placed s InData s.told nothing)
    (record { suo = m; once = once_of (table_of b) m; running = alike begun })

-- the frame, with the digest of the records before the VAR
unfoldable pub frame_by : Session → Collected → Frame
frame_by s m =
    record {
      suo = s.batch.suo;
      var = m;
      once = s.batch.once;
      digest = answered (cipher_of s) s.batch.running.start;
    }

unfoldable pub var_done : Session → List ℕ → Collected → Turn
var_done s b m =
    let o : Occasion = occasion s.opening s.made in
    let out : Outcome = frame_outcome (table_of b) o (frame_by s m) in
    let after : List ℕ = frame_leaves b o (frame_by s m) in
    replies (verdict_answer (table_of after) s.opening true out s.batch.suo.text m.text)
    (judged s Outside out.made s.sender)
    after

-- ---- a record's end in a message: it takes records until its length is reached

unfoldable pub keeps_on : Session → Kind → Session
keeps_on s kind = placed s (Collecting kind) s.told s.gathered

unfoldable pub esi_on : Session → List ℕ → Turn
esi_on s b =
    pick (wants s.gathered) (silent (keeps_on s Esi) b) (esi_done s b (collected_by Esi Whole s.gathered))

unfoldable pub suo_on : Session → List ℕ → Session
suo_on s b =
    pick (wants s.gathered) (keeps_on s Suo) (suo_done s b (collected_by Suo Whole s.gathered))

unfoldable pub var_on : Session → List ℕ → Turn
var_on s b =
    pick (wants s.gathered) (silent (keeps_on s Var) b) (var_done s b (collected_by Var Whole s.gathered))

-- ---- a message's first record

unfoldable pub extent_by : Kind → Session → Extent
extent_by kind s = extent_of kind (held s.gathered)

unfoldable pub esi_start : Session → List ℕ → Turn
esi_start s b =
    pick (is_whole (extent_by Esi s)) (esi_on s b) (esi_done s b (collected_by Esi (extent_by Esi s) s.gathered))

unfoldable pub suo_start : Session → List ℕ → Session
suo_start s b =
    pick (is_whole (extent_by Suo s)) (suo_on s b) (suo_done s b (collected_by Suo (extent_by Suo s) s.gathered))

unfoldable pub var_start : Session → List ℕ → Turn
var_start s b =
    pick (is_whole (extent_by Var s)) (var_on s b) (var_done s b (collected_by Var (extent_by Var s) s.gathered))

-- ---- a record's end

unfoldable pub first_ends : Session → List ℕ → Turn
first_ends s b = pick (begins ">>ESI" (held s.gathered)) (esi_start s b) (bare_turn s b false 1010 (field 1) (held s.gathered) (shut s))

unfoldable pub outside_ends : Session → List ℕ → Turn
outside_ends s b =
    pick (begins ">>SUO" (held s.gathered)) (silent (suo_start s b) b)
    (pick (begins ">>ESI" (held s.gathered)) (bare_turn s b false 1011 (field 1) (held s.gathered) (shut s))
    (pick s.told (silent (placed s Outside true nothing) b) (bare_turn s b true 1023 no_field [] (placed s Outside true nothing))))

-- the end of a data record
unfoldable pub data_taken : Session → Session
data_taken s =
    with_batch (placed s InData s.told nothing)
    (record {
      suo = s.batch.suo;
      once = s.batch.once;
      running = ended (method_of s.batch.suo.text) s.batch.running;
    })

unfoldable pub frame_ends : Session → List ℕ → Turn
frame_ends s b =
    pick (begins ">>VAR" (held s.gathered)) (var_start s b)
    (pick (begins ">>SUO" (held s.gathered)) (bare_turn s b true 1024 no_field [] (suo_start s b))
    (pick (begins ">>ESI" (held s.gathered)) (bare_turn s b true 1024 no_field [] (shut s)) (silent (data_taken s) b)))

unfoldable pub collecting_ends : Kind → Session → List ℕ → Turn
collecting_ends Esi s b = esi_on s b
collecting_ends Suo s b = silent (suo_on s b) b
collecting_ends Var s b = var_on s b

unfoldable pub ends_in : Place → Session → List ℕ → Turn
ends_in BeforeEsi s b = first_ends s b
ends_in Outside s b = outside_ends s b
ends_in (Collecting kind) s b = collecting_ends kind s b
ends_in InData s b = frame_ends s b
ends_in Closed s b = silent s b

unfoldable pub record_ended : Session → List ℕ → Turn
record_ended s b = ends_in s.place s b

-- ---- a byte past the size limit

-- until an ESI is accepted every reply is an ESI
unfoldable pub is_esi : Kind → Bool
is_esi Esi = true
is_esi Suo = false
is_esi Var = false

unfoldable pub passed_in : Place → Session → List ℕ → Turn
passed_in BeforeEsi s b = bare_turn s b false 1034 no_field [] (shut s)
passed_in Outside s b = bare_turn s b true 1034 no_field [] (shut s)
passed_in (Collecting kind) s b = bare_turn s b (pick (is_esi kind) false true) 1034 no_field [] (shut s)
passed_in InData s b = bare_turn s b true 1034 no_field [] (shut s)
passed_in Closed s b = silent s b

unfoldable pub passed : Session → List ℕ → Turn
passed s b = passed_in s.place s b

-- ---- the file's end

unfoldable pub cut_short : Kind → Session → List ℕ → Turn
cut_short Esi s b = esi_done s b (collected_by Esi CutShort s.gathered)
cut_short Suo s b = bare_turn s b true 1032 no_field [] (shut s)
cut_short Var s b = var_done s b (collected_by Var CutShort s.gathered)

unfoldable pub finished_in : Place → Session → List ℕ → Turn
finished_in BeforeEsi s b = silent s b
finished_in Outside s b = silent s b
finished_in (Collecting kind) s b = cut_short kind s b
finished_in InData s b = bare_turn s b true 1024 no_field [] (shut s)
finished_in Closed s b = silent s b

unfoldable pub file_ended : Session → List ℕ → Turn
file_ended s b = finished_in s.place s b

-- whether the file's end has a reply to give there
unfoldable pub is_due : Place → Bool
is_due BeforeEsi = false
is_due Outside = false
is_due (Collecting kind) = true
is_due InData = true
is_due Closed = false
