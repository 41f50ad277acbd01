-- What a step keeps, in session, table and place:
-- each record's end is one of a handful of ends, and what each of two ends keeps, the choice keeps.
-- Assumes nothing.
use Prim.Native.Nat.{ℕ}
use mathlib.Core.Path.{◌≡◌, refl, sym, ap, ◌∙◌}
use mathlib.Core.List.{List, [], ◌∷◌}
use mathlib.Core.Bool.{Bool, true, false, false≢true}
use lib.ListN.{length}
use Rattle.ground.specs.Choice.{pick}
use Rattle.ground.proofs.Bools.{picked}
use Rattle.digest.proofs.Ranges.{begun_fits, alike_fits, ended_fits}
use Rattle.calendar.specs.Dates.{real_date}
use Rattle.table.specs.Decode.{is_table, table_of}
use Rattle.message.specs.declared.Extent.{Extent}
use Rattle.message.specs.declared.Extent.TheVariants.{Whole, CutShort}
use Rattle.message.specs.declared.Kind.{Kind}
use Rattle.message.specs.declared.Kind.TheVariants.{Esi, Suo, Var}
use Rattle.message.specs.declared.Collected.{Collected}
use Rattle.reply.specs.declared.Answering.{Answering}
use Rattle.opening.specs.declared.Opening.{Opening}
use Rattle.whole_file.specs.WholeFile.{occasion}
use Rattle.whole_file.proofs.Known.{known_length}
use Rattle.session.specs.Lines.{Event, characters, record_ends, size_passed, event_of, line_after, waited, line_ended}
use Rattle.session.specs.Events.{Turn, silent, replies, nothing, placed, with_batch, bare_turn, shut, heard_by, heard, collected_by, esi_done}
use Rattle.session.specs.Events.{suo_done, frame_by, var_done, keeps_on, esi_on, suo_on, var_on, extent_by, esi_start, suo_start, var_start, first_ends}
use Rattle.session.specs.Events.{outside_ends, data_taken, frame_ends, collecting_ends, ends_in, record_ended, passed_in, passed, cut_short}
use Rattle.session.specs.Events.{finished_in, file_ended}
use Rattle.session.specs.Machine.{Scan, with_line, on_event, stepped, scan_on, scanned, last_ended}
use Rattle.session.specs.Ranges.{is_cut, Fits, is_closed}
use Rattle.session.specs.declared.Line.{Line}
use Rattle.session.specs.declared.Place.{Place}
use Rattle.session.specs.declared.Place.TheVariants.{BeforeEsi, Outside, Collecting, InData, Closed}
use Rattle.session.specs.declared.Session.{Session}
use Rattle.law_cutting.proofs.Leaves.{Still, esi_still, frame_still}
use Rattle.law_cutting.proofs.Stays.{Later, byte_later, end_later, extent_uncut, once_fits, sender_length, esi_made, frame_made}
use Rattle.law_cutting.proofs.Stays.{Stays, stays_same, stays_then, stays_line, stays_heard, stays_placed, stays_empty, stays_shut}
use Rattle.law_cutting.proofs.Stays.{stays_framed, stays_judged}

-- the turn x, from the session s and the table w
pub record Keeps (s : Session) (w : List ℕ) (x : Turn) : Type 0 where
  pub stays : Stays s x.out.session
  -- a file that is not closed is closed with a reply alone
  pub stays_open : is_closed s.place ≡ false → x.out.reply.given ≡ false → is_closed x.out.session.place ≡ false
  -- a table stays a table, of the same day
  pub still : is_table w ≡ true → Fits s → real_date s.opening.today.yymmdd ≡ true → Still w x.table
  -- and changes with a reply alone
  pub silent_same : x.out.reply.given ≡ false → x.table ≡ w

-- one turn after another that gave no reply
pub keeps_then : {s : Session} {w : List ℕ} {x y : Turn} → Keeps s w x → x.out.reply.given ≡ false
    → Keeps x.out.session x.table y → Keeps s w y
keeps_then {s} {w} {x} {y} a q b =
    record {
      stays = stays_then a.stays b.stays;
      stays_open = λ h r. b.stays_open (a.stays_open h q) r;
      still = λ e f d.
          let k = a.still e f d in
          let l =
          b.still k.is_table_fact (a.stays.fits_stays f) (ap (λ (o : Opening). real_date o.today.yymmdd) a.stays.opening_stays
          ∙ d) in
          record { is_table_fact = l.is_table_fact; same_day = l.same_day ∙ k.same_day };
      silent_same = λ r. b.silent_same r ∙ a.silent_same q;
    }

-- ---- the two kinds of ends

keeps_silent : {s : Session} {u : Session} (w : List ℕ) → Stays s u → (is_closed s.place ≡ false → is_closed u.place ≡ false)
    → Keeps s w (silent u w)
unfolding silent
keeps_silent w a h =
    record {
      stays = a;
      stays_open = λ k q. h k;
      still = λ e f d. record { is_table_fact = e; same_day = refl };
      silent_same = λ q. refl;
    }

keeps_replies : {s : Session} {w : List ℕ} (a : Answering) {u : Session} {v : List ℕ} → Stays s u
    → (is_table w ≡ true → Fits s → real_date s.opening.today.yymmdd ≡ true → Still w v)
    → Keeps s w (replies a u v)
unfolding replies
keeps_replies a b t =
    record {
      stays = b;
      stays_open = λ k q. absurd (false≢true (sym q));
      still = t;
      silent_same = λ q. absurd (false≢true (sym q));
    }

keeps_bare : {s : Session} (w : List ℕ) (pte : Bool) (code field : ℕ) (chars : List ℕ) {u : Session} → Stays s u
    → Keeps s w (bare_turn s w pte code field chars u)
unfolding bare_turn
keeps_bare w pte code field chars a = keeps_replies _ a (λ e f d. record { is_table_fact = e; same_day = refl })

keeps_esi : (s : Session) (w : List ℕ) (m : Collected) → (Fits s → length m.text ≡ 161) → Keeps s w (esi_done s w m)
unfolding esi_done occasion
keeps_esi s w m l =
    keeps_replies _ (stays_judged s _ _ _ (esi_made (table_of w) (occasion s.opening s.made) m) (λ f. sender_length m.text (l f)))
    (λ e f d. esi_still w (occasion s.opening s.made) m e d (l f))

keeps_var : (s : Session) (w : List ℕ) (m : Collected) → Keeps s w (var_done s w m)
unfolding var_done occasion frame_by
keeps_var s w m =
    keeps_replies _ (stays_judged s _ _ _ (frame_made (table_of w) (occasion s.opening s.made) (frame_by s m)) (λ f. f.sender_long))
    (λ e f d. frame_still w (occasion s.opening s.made) (frame_by s m) e d f.suo_long_fact f.key_fits)

-- ---- a session that is not closed

pub record Opens (s u : Session) : Type 0 where
  pub moves : Stays s u
  pub opens : is_closed u.place ≡ false

opens_silent : {s u : Session} (w : List ℕ) → Opens s u → Keeps s w (silent u w)
opens_silent w a = keeps_silent w a.moves (λ h. a.opens)

pub opens_on_lem : (s : Session) (kind : Kind) → Opens s (keeps_on s kind)
unfolding keeps_on placed is_closed
opens_on_lem s kind = record { moves = stays_placed s (Collecting kind) s.told s.gathered (λ h. h) (λ f. f.message_long); opens = refl }

opens_suo : (s : Session) (w : List ℕ) (m : Collected) → is_cut m.extent ≡ false → (Fits s → length m.text ≡ 161)
    → Opens s (suo_done s w m)
unfolding suo_done placed with_batch is_closed
opens_suo s w m a l =
    record {
      moves = stays_framed s InData s.told _ (λ h. a) l (λ f. once_fits (table_of w) m) (λ f. alike_fits begun_fits);
      opens = refl;
    }

pub opens_data : (s : Session) → Opens s (data_taken s)
unfolding data_taken placed with_batch is_closed
opens_data s =
    record { moves = stays_framed s InData s.told _ (λ h. h) (λ f. f.suo_long_fact) (λ f. f.key_fits) (ended_fits _); opens = refl }

opens_skipped : (s : Session) → Opens s (placed s Outside true nothing)
unfolding placed is_closed
opens_skipped s = record { moves = stays_empty s Outside true; opens = refl }

pub opens_suo_on : (s : Session) (w : List ℕ) → Opens s (suo_on s w)
unfolding suo_on collected_by is_cut
opens_suo_on s w = picked (Opens s) _ _ _ (λ e. opens_on_lem s Suo) (λ e. opens_suo s w _ refl (λ f. known_length Suo _))

pub opens_suo_start : (s : Session) (w : List ℕ) → Opens s (suo_start s w)
unfolding suo_start collected_by extent_by
opens_suo_start s w =
    picked (Opens s) _ _ _ (λ e. opens_suo_on s w) (λ e. opens_suo s w _ (extent_uncut Suo _) (λ f. known_length Suo _))

-- ---- a message

module _ (s : Session) (w : List ℕ) where
  either_keeps : (t : Bool) (x y : Turn) → Keeps s w x → Keeps s w y → Keeps s w (pick t x y)
  either_keeps t x y a b = picked (Keeps s w) t x y (λ e. a) (λ e. b)

  esi_taken : (extent : Extent) → Keeps s w (esi_done s w (collected_by Esi extent s.gathered))
  unfolding collected_by
  esi_taken extent = keeps_esi s w (collected_by Esi extent s.gathered) (λ f. known_length Esi _)

  keeps_esi_on : Keeps s w (esi_on s w)
  unfolding esi_on
  keeps_esi_on = either_keeps _ _ _ (opens_silent w (opens_on_lem s Esi)) (esi_taken Whole)

  keeps_esi_start : Keeps s w (esi_start s w)
  unfolding esi_start
  keeps_esi_start = either_keeps _ _ _ keeps_esi_on (esi_taken (extent_by Esi s))

  keeps_var_on : Keeps s w (var_on s w)
  unfolding var_on
  keeps_var_on = either_keeps _ _ _ (opens_silent w (opens_on_lem s Var)) (keeps_var s w _)

  keeps_var_start : Keeps s w (var_start s w)
  unfolding var_start
  keeps_var_start = either_keeps _ _ _ keeps_var_on (keeps_var s w _)

  -- ---- a record's end

  keeps_shut : (pte : Bool) (code field : ℕ) (chars : List ℕ) → Keeps s w (bare_turn s w pte code field chars (shut s))
  keeps_shut pte code field chars = keeps_bare w pte code field chars (stays_shut s)

  keeps_idle : Keeps s w (silent s w)
  keeps_idle = keeps_silent w (stays_same s) (λ h. h)

  keeps_first : Keeps s w (first_ends s w)
  unfolding first_ends
  keeps_first = either_keeps _ _ _ keeps_esi_start (keeps_shut false 1010 10 _)

  keeps_outside : Keeps s w (outside_ends s w)
  unfolding outside_ends
  keeps_outside =
      either_keeps _ _ _ (opens_silent w (opens_suo_start s w))
      (either_keeps _ _ _ (keeps_shut false 1011 10 _)
      (either_keeps _ _ _ (opens_silent w (opens_skipped s)) (keeps_bare w true 1023 0 _ (opens_skipped s).moves)))

  keeps_frame : Keeps s w (frame_ends s w)
  unfolding frame_ends
  keeps_frame =
      either_keeps _ _ _ keeps_var_start
      (either_keeps _ _ _ (keeps_bare w true 1024 0 _ (opens_suo_start s w).moves)
      (either_keeps _ _ _ (keeps_shut true 1024 0 _) (opens_silent w (opens_data s))))

  keeps_collecting : (kind : Kind) → Keeps s w (collecting_ends kind s w)
  unfolding collecting_ends
  keeps_collecting Esi = keeps_esi_on
  keeps_collecting Suo = opens_silent w (opens_suo_on s w)
  keeps_collecting Var = keeps_var_on

  keeps_in : (p : Place) → Keeps s w (ends_in p s w)
  unfolding ends_in
  keeps_in BeforeEsi = keeps_first
  keeps_in Outside = keeps_outside
  keeps_in (Collecting kind) = keeps_collecting kind
  keeps_in InData = keeps_frame
  keeps_in Closed = keeps_idle

  pub keeps_ended : Keeps s w (record_ended s w)
  unfolding record_ended
  keeps_ended = keeps_in s.place

  -- ---- a byte past the size limit

  keeps_passed_in : (p : Place) → Keeps s w (passed_in p s w)
  unfolding passed_in
  keeps_passed_in BeforeEsi = keeps_shut false 1034 0 _
  keeps_passed_in Outside = keeps_shut true 1034 0 _
  keeps_passed_in (Collecting kind) = keeps_shut _ 1034 0 _
  keeps_passed_in InData = keeps_shut true 1034 0 _
  keeps_passed_in Closed = keeps_idle

  pub keeps_passed : Keeps s w (passed s w)
  unfolding passed
  keeps_passed = keeps_passed_in s.place

  -- ---- the file's end

  keeps_short : (kind : Kind) → Keeps s w (cut_short kind s w)
  unfolding cut_short
  keeps_short Esi = esi_taken CutShort
  keeps_short Suo = keeps_shut true 1032 0 _
  keeps_short Var = keeps_var s w _

  keeps_finished_in : (p : Place) → Keeps s w (finished_in p s w)
  unfolding finished_in
  keeps_finished_in BeforeEsi = keeps_idle
  keeps_finished_in Outside = keeps_idle
  keeps_finished_in (Collecting kind) = keeps_short kind
  keeps_finished_in InData = keeps_shut true 1024 0 _
  keeps_finished_in Closed = keeps_idle

  pub keeps_file : Keeps s w (file_ended s w)
  unfolding file_ended
  keeps_file = keeps_finished_in s.place

-- ---- the machine

opens_line : (s : Session) (l : Line) (w : List ℕ) → Later s.line l → Keeps s w (silent (with_line s l) w)
unfolding with_line
opens_line s l w k = keeps_silent w (stays_line s l k) (λ h. h)

keeps_heard : (s : Session) (l : List ℕ) (w : List ℕ) → Keeps s w (silent (heard s l) w)
unfolding heard heard_by
keeps_heard s l w = keeps_silent w (stays_heard s l) (λ h. h)

-- after a silent turn
after_silent : {s u : Session} {w : List ℕ} {y : Turn} → Keeps s w (silent u w) → Keeps u w y → Keeps s w y
unfolding silent
after_silent a b = keeps_then a refl b

pub keeps_event : (v : Event) (s : Session) (w : List ℕ) → Keeps s w (on_event v s w)
unfolding on_event
keeps_event (characters l) s w = keeps_heard s l w
keeps_event record_ends s w = keeps_ended s w
keeps_event size_passed s w = keeps_passed s w

pub keeps_step : (s : Session) (w : List ℕ) (b : ℕ) → Keeps s w (stepped s w b)
unfolding stepped
keeps_step s w b =
    let l = line_after s.line b in
    after_silent (opens_line s l w (byte_later s.line b)) (keeps_event (event_of s.line b) (with_line s l) w)

pub keeps_scan : (xs : List ℕ) (s : Session) (w : List ℕ) → Keeps s w (scanned s w xs).turn
unfolding scanned scan_on
keeps_scan [] s w = keeps_idle s w
keeps_scan (b ∷ bs) s w =
    let x = stepped s w b in
    let k = keeps_step s w b in
    picked (λ (r : Scan). Keeps s w r.turn) x.out.reply.given _ _ (λ e. k)
    (λ e. keeps_then k e (keeps_scan bs x.out.session x.table))

-- the file's end counts no byte
pub heard_later : (s : Session) (l : List ℕ) → Later (heard s l).line (line_ended s.line)
unfolding heard heard_by
heard_later s l = end_later s.line

pub keeps_last : (s : Session) (w : List ℕ) → Keeps s w (last_ended s w)
unfolding last_ended
keeps_last s w =
    let u = heard s (waited s.line.cr) in
    let l = line_ended s.line in
    either_keeps s w _ _ _
    (after_silent (keeps_heard s (waited s.line.cr) w)
    (after_silent (opens_line u l w (heard_later s (waited s.line.cr))) (keeps_ended (with_line u l) w)))
    (keeps_idle s w)
