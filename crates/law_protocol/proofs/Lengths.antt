-- Every answer's bank, software and texts have their lengths: they come from a table, from a session that fits, or are zeros.
-- Assumes nothing.
use Prim.Native.Nat.{ℕ}
use mathlib.Core.Path.{◌≡◌, ap, ◌∙◌}
use mathlib.Core.List.{List, [], ◌∷◌}
use mathlib.Core.Bool.{Bool, true, false}
use borrow.Author.Tests.{eqb-true}
use lib.ListN.{length, replicate, length-replicate}
use Rattle.ground.specs.Choice.{pick}
use Rattle.ground.proofs.Choices.{left, right}
use Rattle.ground.proofs.Bools.{picked}
use Rattle.calendar.specs.Dates.{real_date}
use Rattle.table.specs.Table.{settings_fit}
use Rattle.table.specs.Decode.{is_table, table_of}
use Rattle.table.proofs.Sound
use Rattle.table.proofs.Decode
use Rattle.message.specs.declared.Extent.{Extent}
use Rattle.message.specs.declared.Extent.TheVariants.{Whole, CutShort}
use Rattle.message.specs.declared.Kind.{Kind}
use Rattle.message.specs.declared.Kind.TheVariants.{Esi, Suo, Var}
use Rattle.verdict.specs.declared.Outcome.{Outcome}
use Rattle.reply.specs.declared.Answering.{Answering}
use Rattle.answers.specs.Answers.{bare_answer, full_answer, verdict_answer}
use Rattle.opening.specs.declared.Opening.{Opening}
use Rattle.whole_file.specs.WholeFile.{occasion}
use Rattle.session.specs.Lines.{Event, characters, record_ends, size_passed, event_of, line_after, waited, line_ended}
use Rattle.whole_file.proofs.Known.{known_length}
use Rattle.session.specs.Events.{Turn, no_reply, silent, replies, bare_turn, heard, collected_by, esi_done, frame_by, var_done, esi_on, var_on}
use Rattle.session.specs.Events.{extent_by, esi_start, var_start, first_ends, outside_ends, frame_ends, collecting_ends, ends_in, record_ended}
use Rattle.session.specs.Events.{passed_in, passed, cut_short, finished_in, file_ended}
use Rattle.session.specs.Machine.{Scan, with_line, on_event, stepped, scan_on, scanned, last_ended}
use Rattle.session.specs.Ranges.{Fits}
use Rattle.session.specs.declared.Place.{Place}
use Rattle.session.specs.declared.Place.TheVariants.{BeforeEsi, Outside, Collecting, InData, Closed}
use Rattle.session.specs.declared.Session.{Session}
use Rattle.law_cutting.proofs.Leaves.{esi_still, frame_still}
use Rattle.law_cutting.proofs.Keeps.{Keeps, keeps_step, heard_later}
use Rattle.law_cutting.proofs.Stays.{Stays, byte_later, stays_line, stays_heard}
use Rattle.law_protocol.specs.Ready.{EndGood}
use Rattle.law_protocol.proofs.Good.{real_day}

-- ---- the lengths in an answer

pub record Long (a : Answering) : Type 0 where
  pub bank_long : length a.bank ≡ 25
  pub software_long : length a.software ≡ 16
  pub message_long : length a.message ≡ 161
  pub closing_long : length a.closing ≡ 161

zeros : (n : ℕ) → length {A = ℕ} (replicate n 0) ≡ n
zeros n = length-replicate {A = ℕ} n 0

none_long : Long no_reply.answer
none_long = record { bank_long = zeros 25; software_long = zeros 16; message_long = zeros 161; closing_long = zeros 161 }

settings_long : (w : List ℕ) → is_table w ≡ true
    → (length (table_of w).settings.bank ≡ 25) × (length (table_of w).settings.software ≡ 16)
unfolding settings_fit
settings_long w e =
    let f = (Sound.parts (table_of w) (Decode.is_written w e).sound).fit in
    (eqb-true _ _ (left _ _ f), eqb-true _ _ (left _ _ (right _ _ f)))

bare_long : (w : List ℕ) (o : Opening) (pte : Bool) (code field : ℕ) (m : List ℕ) → is_table w ≡ true
    → Long (bare_answer (table_of w) o pte code field m)
unfolding bare_answer
bare_long w o pte code field m e =
    let k = settings_long w e in
    record { bank_long = k.0; software_long = k.1; message_long = zeros 161; closing_long = zeros 161 }

verdict_long : (w : List ℕ) (o : Opening) (pte : Bool) (out : Outcome) (m closing : List ℕ) → is_table w ≡ true → length m ≡ 161
    → length closing ≡ 161
    → Long (verdict_answer (table_of w) o pte out m closing)
unfolding verdict_answer full_answer
verdict_long w o pte out m closing e l c =
    let k = settings_long w e in
    picked Long _ _ _ (λ b. bare_long w o pte out.code out.field _ e)
    (λ b. record { bank_long = k.0; software_long = k.1; message_long = l; closing_long = c })

-- ---- the answer of every turn

-- what the lengths rest on
record Rests (s : Session) (w : List ℕ) : Type 0 where
  table : is_table w ≡ true
  fits : Fits s
  real : real_date s.opening.today.yymmdd ≡ true

abbrev Speaks : Turn → Type 0
Speaks x = Long x.out.reply.answer

silent_long : (s : Session) (w : List ℕ) → Speaks (silent s w)
unfolding silent
silent_long s w = none_long

replies_long : {a : Answering} (s : Session) (w : List ℕ) → Long a → Speaks (replies a s w)
unfolding replies
replies_long s w l = l

module _ (s : Session) (w : List ℕ) (r : Rests s w) where
  either_long : (t : Bool) (x y : Turn) → Speaks x → Speaks y → Speaks (pick t x y)
  either_long t x y a b = picked Speaks t x y (λ e. a) (λ e. b)

  bare_turn_lem : (pte : Bool) (code field : ℕ) (chars : List ℕ) (u : Session) → Speaks (bare_turn s w pte code field chars u)
  unfolding bare_turn
  bare_turn_lem pte code field chars u = replies_long u w (bare_long w s.opening pte code field chars r.table)

  esi_long : (extent : Extent) → Speaks (esi_done s w (collected_by Esi extent s.gathered))
  unfolding esi_done collected_by occasion
  esi_long extent =
      let m = collected_by Esi extent s.gathered in
      let l = known_length Esi _ in
      replies_long _ _ (verdict_long _ s.opening false _ _ _
      (esi_still w (occasion s.opening s.made) m r.table r.real l).is_table_fact l l)

  var_long : (extent : Extent) → Speaks (var_done s w (collected_by Var extent s.gathered))
  unfolding var_done collected_by occasion frame_by
  var_long extent =
      let f = frame_by s (collected_by Var extent s.gathered) in
      let k = frame_still w (occasion s.opening s.made) f r.table r.real r.fits.suo_long_fact r.fits.key_fits in
      replies_long _ _ (verdict_long _ s.opening true _ _ _ k.is_table_fact r.fits.suo_long_fact (known_length Var _))

  esi_on_long : Speaks (esi_on s w)
  unfolding esi_on
  esi_on_long = either_long _ _ _ (silent_long _ w) (esi_long Whole)

  var_on_long : Speaks (var_on s w)
  unfolding var_on
  var_on_long = either_long _ _ _ (silent_long _ w) (var_long Whole)

  first_long : Speaks (first_ends s w)
  unfolding first_ends esi_start
  first_long = either_long _ _ _ (either_long _ _ _ esi_on_long (esi_long (extent_by Esi s))) (bare_turn_lem false 1010 10 _ _)

  outside_long : Speaks (outside_ends s w)
  unfolding outside_ends
  outside_long =
      either_long _ _ _ (silent_long _ w)
      (either_long _ _ _ (bare_turn_lem false 1011 10 _ _) (either_long _ _ _ (silent_long _ w) (bare_turn_lem true 1023 0 _ _)))

  frame_long : Speaks (frame_ends s w)
  unfolding frame_ends var_start
  frame_long =
      either_long _ _ _ (either_long _ _ _ var_on_long (var_long (extent_by Var s)))
      (either_long _ _ _ (bare_turn_lem true 1024 0 _ _) (either_long _ _ _ (bare_turn_lem true 1024 0 _ _) (silent_long _ w)))

  collecting_long : (kind : Kind) → Speaks (collecting_ends kind s w)
  unfolding collecting_ends
  collecting_long Esi = esi_on_long
  collecting_long Suo = silent_long _ w
  collecting_long Var = var_on_long

  in_long : (p : Place) → Speaks (ends_in p s w)
  unfolding ends_in
  in_long BeforeEsi = first_long
  in_long Outside = outside_long
  in_long (Collecting kind) = collecting_long kind
  in_long InData = frame_long
  in_long Closed = silent_long _ w

  record_long : Speaks (record_ended s w)
  unfolding record_ended
  record_long = in_long s.place

  passed_in_long : (p : Place) → Speaks (passed_in p s w)
  unfolding passed_in
  passed_in_long BeforeEsi = bare_turn_lem false 1034 0 _ _
  passed_in_long Outside = bare_turn_lem true 1034 0 _ _
  passed_in_long (Collecting kind) = bare_turn_lem _ 1034 0 _ _
  passed_in_long InData = bare_turn_lem true 1034 0 _ _
  passed_in_long Closed = silent_long _ w

  passed_long : Speaks (passed s w)
  unfolding passed
  passed_long = passed_in_long s.place

  short_long : (kind : Kind) → Speaks (cut_short kind s w)
  unfolding cut_short
  short_long Esi = esi_long CutShort
  short_long Suo = bare_turn_lem true 1032 0 _ _
  short_long Var = var_long CutShort

  finished_long : (p : Place) → Speaks (finished_in p s w)
  unfolding finished_in
  finished_long BeforeEsi = silent_long _ w
  finished_long Outside = silent_long _ w
  finished_long (Collecting kind) = short_long kind
  finished_long InData = bare_turn_lem true 1024 0 _ _
  finished_long Closed = silent_long _ w

  ended_long : Speaks (file_ended s w)
  unfolding file_ended
  ended_long = finished_long s.place

-- ---- the machine

rests_stays : {s u : Session} {w : List ℕ} → Stays s u → Rests s w → Rests u w
rests_stays a r =
    record {
      table = r.table;
      fits = a.fits_stays r.fits;
      real = ap (λ (o : Opening). real_date o.today.yymmdd) a.opening_stays ∙ r.real;
    }

rests_turn : {s : Session} {w : List ℕ} {x : Turn} → Keeps s w x → Rests s w → Rests x.out.session x.table
rests_turn k r =
    let a = rests_stays k.stays r in
    record { table = (k.still r.table r.fits r.real).is_table_fact; fits = a.fits; real = a.real }

event_long : (v : Event) (s : Session) (w : List ℕ) → Rests s w → Speaks (on_event v s w)
unfolding on_event
event_long (characters l) s w r = silent_long _ w
event_long record_ends s w r = record_long s w r
event_long size_passed s w r = passed_long s w r

step_long : (s : Session) (w : List ℕ) (b : ℕ) → Rests s w → Speaks (stepped s w b)
unfolding stepped
step_long s w b r = event_long (event_of s.line b) _ w (rests_stays (stays_line s (line_after s.line b) (byte_later s.line b)) r)

scanned_long : (xs : List ℕ) (s : Session) (w : List ℕ) → Rests s w → Speaks (scanned s w xs).turn
unfolding scanned scan_on
scanned_long [] s w r = silent_long s w
scanned_long (b ∷ bs) s w r =
    let x = stepped s w b in
    picked (λ (q : Scan). Speaks q.turn) x.out.reply.given _ _ (λ e. step_long s w b r)
    (λ e. scanned_long bs x.out.session x.table (rests_turn (keeps_step s w b) r))

last_spoken : (s : Session) (w : List ℕ) → Rests s w → Speaks (last_ended s w)
unfolding last_ended
last_spoken s w r =
    let u = heard s (waited s.line.cr) in
    either_long s w r _ _ _
    (record_long (with_line u (line_ended s.line)) w
    (rests_stays (stays_line u (line_ended s.line) (heard_later s (waited s.line.cr)))
    (rests_stays (stays_heard s (waited s.line.cr)) r)))
    (silent_long s w)

rests : {s : Session} {w : List ℕ} → EndGood s w → Rests s w
rests g = record { table = g.table; fits = g.fits; real = real_day g }

pub scan_long : (xs : List ℕ) (s : Session) (w : List ℕ) → EndGood s w → Long (scanned s w xs).turn.out.reply.answer
scan_long xs s w g = scanned_long xs s w (rests g)

pub last_long : (s : Session) (w : List ℕ) → EndGood s w → Long (last_ended s w).out.reply.answer
last_long s w g = last_spoken s w (rests g)

-- the file's end after a turn that left the state as it must be
pub file_long : (s : Session) (w : List ℕ) → EndGood s w
    → {x : Turn} → Keeps s w x → Long (file_ended x.out.session x.table).out.reply.answer
file_long s w g k = ended_long _ _ (rests_turn k (rests g))
