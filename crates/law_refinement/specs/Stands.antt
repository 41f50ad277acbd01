-- What a session stands for: the standing of the whole-file answer, and the bytes of the record on its way.
-- Assumes nothing.
use Rattle.std.specs.Prelude.{ℕ, ◌+◌, ◌≤◌, ◌<◌, ◌^◌, min, max, ◌≡◌, Bool, true, List, [], ◌∷◌, ◌++◌, length, take, drop, replicate}
use Rattle.text.specs.Characters.{all_blank}
use Rattle.des.specs.Des.{enciphered}
use Rattle.digest.specs.Running.{begun, alike, took_bytes, took_records}
use Rattle.digest.specs.declared.Running.{Running}
use Rattle.table.specs.Table.{Table}
use Rattle.table.specs.Written.{written}
use Rattle.table.specs.Decode.{table_of, is_table}
use Rattle.message.specs.Fields.{method_of}
use Rattle.message.specs.declared.Kind.TheVariants.{Esi, Suo, Var}
use Rattle.checks.specs.Checks.{key_or0}
use Rattle.opening.specs.declared.Opening.{Opening}
use Rattle.whole_file.specs.Records.{without_cr, size_limit}
use Rattle.whole_file.specs.Messages.{most_length, wanted_length, wants_more}
use Rattle.whole_file.specs.WholeFile.{Opened, Situation, before_esi, collecting_esi, outside, collecting_suo, in_frame, collecting_var, closed}
use Rattle.whole_file.specs.WholeFile.{Standing, Step, Told}
use Rattle.session.specs.Lines.{waited}
use Rattle.session.specs.Events.{kept_room, Turn}
use Rattle.session.specs.Told.{Answered, said_by}
use Rattle.session.specs.declared.Line.{Line}
use Rattle.session.specs.declared.Place.{Place}
use Rattle.session.specs.declared.Place.TheVariants.{BeforeEsi, Outside, Collecting, InData, Closed}
use Rattle.session.specs.declared.Gathered.{Gathered}
use Rattle.session.specs.declared.Batch.{Batch}
use Rattle.session.specs.declared.Session.{Session}

-- ---- what is gathered

-- the first characters, with zeros after the last
unfoldable pub kept_text : List ℕ → List ℕ
kept_text chars = take kept_room (chars ++ replicate kept_room 0)

-- characters, however many, as a session keeps them
unfoldable pub gathered_of : List ℕ → Gathered
gathered_of chars =
    record { count = min (length chars) most_length; blank = all_blank (drop (max kept_room (wanted_length chars)) chars); text = kept_text chars }

-- ---- an open frame

-- the digest after the frame's data records
unfoldable pub records_of : Opened → Running
records_of f = took_records (enciphered (key_or0 f.once)) (method_of f.suo.text) (alike begun) f.records

-- the batch on its way, with the characters of a record that may be data
unfoldable pub batch_of : Opened → List ℕ → Batch
batch_of f chars =
    record {
      suo = f.suo;
      once = f.once;
      running = took_bytes (enciphered (key_or0 f.once)) (records_of f) chars;
    }

-- what a VAR uses of it
pub record Kept (f : Opened) (batch : Batch) : Type 0 where
  pub suo : batch.suo ≡ f.suo
  pub once : batch.once ≡ f.once
  pub start : batch.running.start ≡ (records_of f).start

-- a frame that a SUO opened: the SUO's text has its length, and the one-time key is eight bytes
pub record FrameFits (f : Opened) : Type 0 where
  pub suo_long_fact : length f.suo.text ≡ 161
  pub key_fits : key_or0 f.once < 2 ^ 64

-- the characters of records
unfoldable pub size_of : List (List ℕ) → ℕ
size_of [] = 0
size_of (r ∷ rs) = length r + size_of rs

-- the characters that the digest has taken before the record on its way
unfoldable pub digested : Situation → ℕ
digested before_esi = 0
digested (collecting_esi sofar) = 0
digested (outside told) = 0
digested (collecting_suo sofar) = 0
digested (in_frame f) = size_of f.records
digested (collecting_var sofar f) = size_of f.records
digested closed = 0

-- ---- by situation: the session's place, what it gathered, and its batch, where `chars` are the characters heard of the record on its way

abbrev pub Situated : Situation → List ℕ → Bool → Place → Gathered → Batch → Type 0
Situated before_esi chars told p g batch = (p ≡ BeforeEsi) × (g ≡ gathered_of chars)
Situated (collecting_esi sofar) chars told p g batch =
    (p ≡ Collecting Esi) × (g ≡ gathered_of (sofar ++ chars)) × (wants_more sofar ≡ true)
Situated (outside before) chars told p g batch = (p ≡ Outside) × (g ≡ gathered_of chars) × (told ≡ before)
Situated (collecting_suo sofar) chars told p g batch =
    (p ≡ Collecting Suo) × (g ≡ gathered_of (sofar ++ chars)) × (wants_more sofar ≡ true)
Situated (in_frame f) chars told p g batch = (p ≡ InData) × (g ≡ gathered_of chars) × (batch ≡ batch_of f chars) × FrameFits f
Situated (collecting_var sofar f) chars told p g batch =
    (p ≡ Collecting Var) × (g ≡ gathered_of (sofar ++ chars)) × (wants_more sofar ≡ true) × Kept f batch × FrameFits f
Situated closed chars told p g batch = p ≡ Closed

-- ---- the table's bytes w say the table t, and are the first bytes w₀ with it written over them

pub record TableIs (b₀ : List ℕ) (t : Table) (b : List ℕ) : Type 0 where
  pub is : is_table b ≡ true
  pub says : table_of b ≡ t
  pub bytes : b ≡ written b₀ t

-- ---- a session that has heard `chars` of the record on its way; at most n characters were digested or heard

pub record Hears (o : Opening) (b₀ : List ℕ) (n : ℕ) (st : Standing) (chars : List ℕ) (s : Session) (b : List ℕ) : Type 0 where
  pub opening : s.opening ≡ o
  pub made : s.made ≡ st.made
  pub sender : s.sender ≡ st.sender
  pub table : TableIs b₀ st.table b
  pub counted : digested st.situation + length chars ≤ n
  pub situated : Situated st.situation chars s.told s.place s.gathered s.batch

-- ---- a session after `at` bytes, where `raw` are those of the record on its way: it has heard them but for a CR that waits

pub record Stands (o : Opening) (b₀ : List ℕ) (st : Standing) (raw : List ℕ) (at : ℕ) (s : Session) (b : List ℕ) : Type 0 where
  pub chars : List ℕ
  pub raw_is : raw ≡ chars ++ waited s.line.cr
  pub without : without_cr raw ≡ chars
  pub size : s.line.size ≡ at
  pub within : at ≤ size_limit
  pub counted : digested st.situation + length raw ≤ at
  pub hears : Hears o b₀ at st chars s b

-- ---- a turn of the session gives what a step of the whole-file answer gives,
-- and then stands for the standing after it, with no record on its way

pub record Answers (o : Opening) (b₀ : List ℕ) (n : ℕ) (l : Line) (x : Step) (y : Turn) : Type 0 where
  pub says : said_by y ≡ x.says
  pub stands : Hears o b₀ n x.after [] y.out.session y.table
  pub line : y.out.session.line ≡ l

-- what the whole-file answer says, with its table as bytes
unfoldable pub answered_as : List ℕ → Told → Answered
answered_as b₀ x = record { given = x.given; table = written b₀ x.standing.table }
