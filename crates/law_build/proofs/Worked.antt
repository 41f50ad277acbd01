-- The statements speak of something: over the bytes of one table and one desk, in one file, an ESI and a batch after it, every premise of both
-- holds; so both are accepted there, and the replies pass. What the premises say of the values is computed (Right).
-- Assumes nothing.
use Prim.Native.Nat.{ℕ, ◌+◌, ◌≤◌}
use mathlib.Core.Path.{◌≡◌, refl, sym, ap, ap₂, subst, ◌∙◌}
use mathlib.Core.Bool.{true, false}
use mathlib.Core.List.{List, [], ◌∷◌, ◌++◌, append-nil}
use native.Mathlib.Omega.{arith}
use lib.ListN.{length, replicate, length-append, length-replicate}
use Rattle.ground.specs.Lists.{all}
use Rattle.ground.specs.Choice.{both, either, fails, pick, one, between}
use Rattle.ground.proofs.Choices.{join, picks, between-true}
use Rattle.ground.proofs.Lists.{each_below}
use Rattle.splices.specs.Bytes.{bytes_of}
use Rattle.splices.proofs.Splice.{AllBytes}
use Rattle.codec.specs.Layout.{width, enc}
use Rattle.text.specs.Letters.{letters}
use Rattle.text.specs.Numbers.{hex_digits, decimal_digits}
use Rattle.text.specs.Characters.{field_character}
use Rattle.calendar.specs.Dates.{dated, leap, days_in, real_date, real_time, earlier}
use Rattle.keys.specs.Parity.{ones, odd_bytes}
use Rattle.keys.specs.Maker.{made_of}
use Rattle.customer.specs.Settings.{sound_name, sound_who}
use Rattle.table.specs.Table.{Table, with_day}
use Rattle.table.specs.Written.{table_size, written, WrittenAs}
use Rattle.table.specs.Decode.{is_table, table_of}
use Rattle.table.proofs.Encode.{written_sized}
use Rattle.table.proofs.Decode.{written_is}
use Rattle.refusals.specs.Refusals.{bad_day}
use Rattle.calls.specs.Reading.{opening_answer}
use Rattle.calls.proofs.Opening.{kind_good}
use Rattle.message.specs.Fields.{method_of}
use Rattle.message.specs.Layout.{layout, layout_length, total}
use Rattle.reply.specs.Reply.{joined}
use Rattle.whole_file.specs.Records.{lf, size_limit, items_of}
use Rattle.whole_file.specs.WholeFile.{Standing, at_start, whole_file}
use Rattle.desk.specs.declared.Held.{Held}
use Rattle.desk_bytes.specs.Bytes.{sound_before, sound_keys, sound_held, held_bytes, is_held, held_in}
use Rattle.desk_bytes.proofs.Tests.{said}
use Rattle.desk_bytes.proofs.Back.{HeldFits, held_back, is_held_lem}
use Rattle.desk_edge.specs.Builder.{text_after, sent_after, esi_given, esi_built_by, var_given, var_built_by, maker_in, suo_given, suo_built_by}
use Rattle.desk_edge.specs.Builder.{suo_text_after, batch_after}
use Rattle.desk_edge.proofs.BatchBack.{suo_kept}
use Rattle.law_refinement.specs.Stands.{size_of as size_of_all}
use Rattle.law_desk.specs.Desks.{stands_after, opens_on}
use Rattle.build.specs.Messages.{tag_of, size_of, esi_built, suo_built, var_built}
use Rattle.build.specs.Building.{message_by, esi_building, suo_made, suo_building, record_added, var_made, var_building}
use Rattle.build.specs.declared.Batch.{Batch}
use Rattle.build.specs.declared.BuiltMessage.{BuiltMessage}
use Rattle.build.specs.declared.BuiltSuo.{BuiltSuo}
use Rattle.build_bytes.proofs.Back.{BatchIs}
use Rattle.law_build.specs.Premises.{MaySend, MaySendBatch}
use Rattle.law_build.specs.Accepted.{EsiBuilt, BatchBuilt, all_added_by, lines, lf_alone, WholeLines, ended, MayStand, uncut}
use Rattle.law_build.specs.Accepted.{FirstAccepted, AcceptedAt, EsiPassesBy, PtePassesBy}
use Rattle.law_build.proofs.ByValue.{esi_of, suo_of, var_of, all_added}
use Rattle.law_build.proofs.Fields.{var_states}
use Rattle.law_build.proofs.Handed.{suo_in, batch_opens}
use Rattle.law_build.proofs.Handed.{esi-text as esi_made, suo-text as suo_made_lem, var-text as var_made_lem}
use Rattle.law_build.proofs.Lent.{text_left, suo_left}
use Rattle.law_build.proofs.Left.{all_kept}
use Rattle.law_build.proofs.Calls.{esi_accepted, batch_accepted}
use Rattle.law_build.proofs.Right.{key, software, stamp, batch_stamp, table, opening, desk, maker, given, letter, after}
use Rattle.law_build.proofs.Right.{sound, may_send, stands, may_send_batch, is_data, leaves_something, none_refused}

-- ---- the desk as bytes

abbrev held : List ℕ
held = held_bytes desk

desk_sound : sound_held desk ≡ true
unfolding all both either one between letters field_character ones odd_bytes sound_name sound_who sound_before sound_keys sound_held fails
desk_sound = refl

desk_fits : HeldFits desk
unfolding letters
desk_fits =
    record {
      own = refl;
      bank = refl;
      transport = record { current = omega arith; before = tt };
      working = record { current = omega arith; before = tt };
    }

is_desk : is_held held ≡ true
is_desk = is_held_lem desk desk_sound desk_fits

says_desk : held_in held ≡ desk
says_desk = said held is_desk ∙ held_back desk desk_sound desk_fits

small : all (between 0 255) held ≡ true
unfolding all both between letters bytes_of held_bytes enc width
small = refl

held_bytes_lem : AllBytes held
held_bytes_lem = each_below (between 0 255) 256 (λ x e. omega (arith, (between-true 0 255 x e).1)) (omega arith) held small

-- ---- an ESI is built

abbrev text : List ℕ
text = replicate 161 0

abbrev sent : List ℕ
sent = replicate 100 0

abbrev esi : BuiltMessage
esi = esi_built_by held software stamp 0x30 text sent

esi_asks : esi_given held software stamp 0x30 text sent ≡ true
unfolding both letters esi_given
esi_asks = join (is_held held) true is_desk refl

esi_gives : esi ≡ esi_building desk software stamp 0x30
unfolding esi_built_by
esi_gives = picks _ _ _ esi_asks ∙ ap (λ (h : Held). esi_building h software stamp 0x30) says_desk

esi_built_lem : EsiBuilt held software stamp 0x30 text sent esi
esi_built_lem =
    record { bytes = held_bytes_lem; by = refl; served = ap (λ (v : BuiltMessage). v.refusal) esi_gives ∙ none_refused.0 }

-- ---- a batch of one record is built

abbrev numbers : List ℕ
numbers = key ∷ 0 ∷ []

abbrev records : List (List ℕ)
records = letter ∷ []

abbrev room : List ℕ
room = replicate 128 0

abbrev bytes : List ℕ
bytes = replicate 168 0

abbrev suo : BuiltSuo
suo = suo_built_by held numbers 0 given room bytes

suo_asks : suo_given held numbers given room bytes ≡ true
unfolding both letters suo_given
suo_asks = join (is_held held) true is_desk refl

suo_gives : suo ≡ suo_building desk maker 0 given
unfolding suo_built_by maker_in
suo_gives = picks _ _ _ suo_asks ∙ ap (λ (h : Held). suo_building h maker 0 given) says_desk

suo_served : suo.refusal ≡ 0
suo_served = ap (λ (v : BuiltSuo). v.refusal) suo_gives ∙ none_refused.1.suo

abbrev batch : List ℕ
batch = all_added_by (batch_after bytes suo) records

batch_is : BatchIs batch (all_added (suo_building (held_in held) maker 0 given).batch records)
unfolding maker_in
batch_is = all_kept _ _ records (suo_kept held numbers 0 given room bytes suo_served held_bytes_lem)

abbrev var : BuiltMessage
var = var_built_by batch 0x30 text sent

var_asks : var_given batch 0x30 text sent ≡ true
unfolding both var_given
var_asks = join _ true batch_is.there refl

var_gives : var ≡ var_building (all_added (suo_building desk maker 0 given).batch records) 0x30
unfolding var_built_by
var_gives =
    picks _ _ _ var_asks
    ∙ ap (λ (x : Batch). var_building x 0x30)
    (batch_is.says ∙ ap (λ (h : Held). all_added (suo_building h maker 0 given).batch records) says_desk)

var_served : var.refusal ≡ 0
var_served = ap (λ (v : BuiltMessage). v.refusal) var_gives ∙ none_refused.1.var

batch_built : BatchBuilt held numbers 0 given records 0x30 room bytes text sent suo var
batch_built = record { bytes = held_bytes_lem; suo = refl; suo_served = suo_served; var = refl; var_served = var_served }

-- ---- the file

abbrev front : List ℕ
front = lines (lf ∷ []) (text_after text esi ∷ [])

abbrev framed : List ℕ
framed = lines (lf ∷ []) (suo_text_after room suo ∷ records ++ (text_after text var ∷ []))

abbrev file : List ℕ
file = front ++ framed

front-lines : WholeLines front
unfolding lines
front-lines = subst WholeLines (sym (append-nil _)) (ended (text_after text esi))

esi-text : text_after text esi ≡ esi_of desk software stamp 0x30
esi-text = text_left esi esi_built_lem.served text ∙ ap (λ (v : BuiltMessage). v.text) esi_gives

suo-text : suo_text_after room suo ≡ suo_of desk maker 0 given
suo-text = suo_left suo suo_served room ∙ ap (λ (v : BuiltSuo). v.batch.suo) suo_gives

var-text : text_after text var ≡ var_of desk maker 0 given records 0x30
var-text = text_left var var_served text ∙ ap (λ (v : BuiltMessage). v.text) var_gives

esi_long : length (text_after text esi) ≡ 161
unfolding letters decimal_digits hex_digits joined tag_of size_of esi_built
esi_long = ap length (esi-text ∙ esi_made desk software stamp 0x30 none_refused.0) ∙ refl

suo_long_fact : length (suo_in desk maker 0 given) ≡ 128
unfolding letters decimal_digits hex_digits joined tag_of size_of suo_built
suo_long_fact = refl

var_long : length (text_after text var) ≡ 161
unfolding letters layout_length layout total size_of_all
var_long =
    ap length (var-text ∙ var_made_lem desk maker 0 given records 0x30 none_refused.1 (leaves_something _) (omega arith))
    ∙ (var_states (suo_in desk maker 0 given) _ _ 0x30 suo_long_fact).long

line_long : (r : List ℕ) (rs : List (List ℕ)) → length (lines (lf ∷ []) (r ∷ rs)) ≡ length r + 1 + length (lines (lf ∷ []) rs)
unfolding lines
line_long r rs = omega (arith, length-append (r ++ (lf ∷ [])) (lines (lf ∷ []) rs), length-append r (lf ∷ []))

-- three messages and a letter, each with its LF
few : length file ≤ size_limit
unfolding letters lines
few =
    let last = text_after text var ∷ [] in
    let s = ap length (suo-text ∙ suo_made_lem desk maker 0 given none_refused.1.suo) ∙ suo_long_fact in
    let n = length-append front framed in
    let e = line_long (text_after text esi) [] in
    let f : length framed ≡ length (suo_text_after room suo) + 1 + length (lines (lf ∷ []) (letter ∷ last)) =
    line_long (suo_text_after room suo) (letter ∷ last) in
    let g : length (lines (lf ∷ []) (letter ∷ last)) ≡ 2 + length (lines (lf ∷ []) last) = line_long letter last in
    let h = line_long (text_after text var) [] in
    omega (arith, n, e, f, g, h, s, esi_long, var_long)

-- ---- the table as bytes, over any memory of its size

module _ (memory : List ℕ) (size : length memory ≡ table_size) where
  abbrev b : List ℕ
  b = written memory table

  table-written : WrittenAs table b
  table-written = written_sized memory table size sound

  says_table : table_of b ≡ table
  says_table = (written_is table b table-written).1

  opens_on_lem : opens_on b opening ≡ table
  unfolding with_day
  opens_on_lem = ap (λ (t : Table). with_day t 10201) says_table

  good_day : bad_day table (dated 10201) ≡ false
  unfolding both either fails pick one between leap days_in real_date earlier bad_day
  good_day = refl

  good_time : real_time 112500 ≡ true
  unfolding both real_time
  good_time = refl

  opens : opening_answer b opening ≡ 0
  opens =
      sym
      (kind_good b opening (written_is table b table-written).0 (ap (λ (t : Table). bad_day t (dated 10201)) says_table ∙ good_day) good_time
      (omega arith) (omega arith))

  -- ---- the ESI is accepted

  esi_may : MaySend (opens_on b opening) (dated 10201) (held_in held) stamp
  esi_may =
      subst (λ (h : Held). MaySend (opens_on b opening) (dated 10201) h stamp) (sym says_desk)
      (subst (λ (t : Table). MaySend t (dated 10201) desk stamp) (sym opens_on_lem) may_send)

  pub worked_esi : FirstAccepted (length front) (whole_file opening (opens_on b opening) file).given (EsiPassesBy held (sent_after sent esi))
  worked_esi =
      esi_accepted b opening held software stamp 0x30 text sent (lf ∷ []) framed esi esi_built_lem esi_may lf_alone file refl few _
      (uncut opens refl)

  -- ---- and the batch after it

  abbrev standing : Standing
  standing = stands_after opening (at_start (opens_on b opening)) (items_of front)

  stands_so : standing ≡ after
  stands_so =
      ap₂ (λ (t : Table) (m : List ℕ). stands_after opening (at_start t) (items_of (lines (lf ∷ []) (m ∷ [])))) opens_on_lem esi-text ∙ stands

  batch_may : MaySendBatch standing.table (dated 10201) 1 (held_in held) batch_stamp suo.batch.once
  batch_may =
      let k = ap (λ (v : BuiltSuo). v.batch.once) suo_gives ∙ ap (λ (x : Batch). x.once) (batch_opens desk maker 0 given none_refused.1.suo) in
      subst (λ (n : ℕ). MaySendBatch standing.table (dated 10201) 1 (held_in held) batch_stamp n) (sym k)
      (subst (λ (h : Held). MaySendBatch standing.table (dated 10201) 1 h batch_stamp (made_of maker 0).made) (sym says_desk)
      (subst (λ (s : Standing). MaySendBatch s.table (dated 10201) 1 desk batch_stamp (made_of maker 0).made) (sym stands_so) may_send_batch))

  pub worked_batch : AcceptedAt (length front + length framed) (whole_file opening (opens_on b opening) file).given
      (PtePassesBy held (sent_after sent var))
  worked_batch =
      batch_accepted b opening held numbers 0 given records 0x30 room bytes text sent (lf ∷ []) front [] suo var batch_built front-lines standing
      refl (subst (λ (s : Standing). MayStand s.situation) (sym stands_so) tt) batch_may (is_data, tt)
      (leaves_something (method_of suo.batch.suo)) lf_alone framed refl file (sym (append-nil file)) few _ (uncut opens refl)

-- there is such a memory
pub memory_there : length (replicate {A = ℕ} table_size 0) ≡ table_size
memory_there = length-replicate {A = ℕ} table_size 0
