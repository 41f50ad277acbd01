-- Every turn of the machine is one of four: it says nothing, it gives a bare E,
-- or it ends an ESI or a VAR; each choice of the machine is between these.
-- Assumes nothing.
use Prim.Native.Nat.{ℕ}
use mathlib.Core.Path.{◌≡◌, refl, sym, ap, ◌∙◌, subst}
use mathlib.Core.List.{List, [], ◌∷◌}
use mathlib.Core.Bool.{Bool, true, false, false≢true}
use mathlib.Core.Logic.{◌⊎◌, inl, inr, ⊎_elim}
use lib.Dec.{eqb}
use lib.ListN.{length}
use Rattle.ground.specs.Choice.{either, pick}
use Rattle.ground.specs.Lists.{member}
use Rattle.ground.proofs.Choices.{picks}
use Rattle.ground.proofs.Bools.{picked}
use Rattle.message.specs.Layout.{field, no_field}
use Rattle.message.specs.declared.Extent.{Extent}
use Rattle.message.specs.declared.Extent.TheVariants.{Whole, CutShort}
use Rattle.message.specs.declared.Kind.{Kind}
use Rattle.message.specs.declared.Kind.TheVariants.{Esi, Suo, Var}
use Rattle.message.specs.declared.Collected.{Collected}
use Rattle.opening.specs.declared.Opening.{Opening}
use Rattle.session.specs.Lines.{Event, characters, record_ends, size_passed, event_of}
use Rattle.session.specs.Events.{Turn, silent, replies, nothing, placed, bare_turn, shut, heard, collected_by, esi_done, var_done, esi_on, var_on}
use Rattle.session.specs.Events.{esi_start, suo_start, var_start, first_ends, outside_ends, frame_ends, collecting_ends, ends_in, record_ended}
use Rattle.session.specs.Events.{is_esi, passed_in, passed, cut_short, finished_in, file_ended}
use Rattle.session.specs.Machine.{Scan, on_event, stepped, scan_on, scanned, last_ended}
use Rattle.session.specs.declared.Place.{Place}
use Rattle.session.specs.declared.Place.TheVariants.{BeforeEsi, Outside, Collecting, InData, Closed}
use Rattle.session.specs.declared.Session.{Session}
use Rattle.law_cutting.proofs.Stays.{byte_later}
use Rattle.law_cutting.proofs.Keeps.{heard_later}
use Rattle.law_history.specs.History.{reading_codes}
use Rattle.law_history.proofs.Sessions.{Of, of_line, of_heard, of_empty, of_on, of_taken, of_suo_on, of_suo_start, collected_length}

-- a code that shows a field's contents is on field 1, the only one that the reading rules look at
abbrev pub OnTag : (code n : ℕ) → Type 0
OnTag code n = either (eqb code 1010) (eqb code 1011) ≡ true → n ≡ field 1

-- a turn of a file opened by o, in which so many keys were made, on the table's bytes w
pub data Turned (o : Opening) (made : ℕ) (w : List ℕ) (x : Turn) : Type 0 where
  quiet : (u : Session) → Of o made u → x ≡ silent u w → Turned o made w x
  bare : (s : Session) (pte : Bool) (code n : ℕ) (chars : List ℕ) (u : Session) → Of o made s → member code reading_codes ≡ true
      → OnTag code n → x ≡ bare_turn s w pte code n chars u → Turned o made w x
  esi : (s : Session) (m : Collected) → Of o made s → length m.text ≡ 161 → x ≡ esi_done s w m → Turned o made w x
  var : (s : Session) (m : Collected) → Of o made s → length m.text ≡ 161 → x ≡ var_done s w m → Turned o made w x

-- ---- the codes of the reading rules, each with its field

abbrev OfReading : (code n : ℕ) → Type 0
OfReading code n = (member code reading_codes ≡ true) × OnTag code n

is1010 : OfReading 1010 (field 1)
unfolding member either
is1010 = (refl, λ e. refl)

is1011 : OfReading 1011 (field 1)
unfolding member either
is1011 = (refl, λ e. refl)

is1023 : OfReading 1023 no_field
unfolding member either
is1023 = (refl, λ e. absurd (false≢true e))

is1024 : OfReading 1024 no_field
unfolding member either
is1024 = (refl, λ e. absurd (false≢true e))

is1032 : OfReading 1032 no_field
unfolding member either
is1032 = (refl, λ e. absurd (false≢true e))

is1034 : OfReading 1034 no_field
unfolding member either
is1034 = (refl, λ e. absurd (false≢true e))

module _ (o : Opening) (made : ℕ) (w : List ℕ) where
  both_turned : (t : Bool) (x y : Turn) → Turned o made w x → Turned o made w y → Turned o made w (pick t x y)
  both_turned t x y p q = picked (Turned o made w) t x y (λ e. p) (λ e. q)

  module _ (s : Session) (a : Of o made s) where
    turned_bare : (pte : Bool) (code n : ℕ) (chars : List ℕ) (u : Session) → OfReading code n
        → Turned o made w (bare_turn s w pte code n chars u)
    turned_bare pte code n chars u e = bare s pte code n chars u a e.0 e.1 refl

    -- ---- a message's end

    turned_esi : (extent : Extent) → Turned o made w (esi_done s w (collected_by Esi extent s.gathered))
    turned_esi extent = esi s _ a (collected_length o s a Esi extent) refl

    turned_var : (extent : Extent) → Turned o made w (var_done s w (collected_by Var extent s.gathered))
    turned_var extent = var s _ a (collected_length o s a Var extent) refl

    turned_esi_on : Turned o made w (esi_on s w)
    unfolding esi_on
    turned_esi_on = both_turned _ _ _ (quiet _ (of_on o s a Esi) refl) (turned_esi Whole)

    turned_var_on : Turned o made w (var_on s w)
    unfolding var_on
    turned_var_on = both_turned _ _ _ (quiet _ (of_on o s a Var) refl) (turned_var Whole)

    turned_esi_start : Turned o made w (esi_start s w)
    unfolding esi_start
    turned_esi_start = both_turned _ _ _ turned_esi_on (turned_esi _)

    turned_var_start : Turned o made w (var_start s w)
    unfolding var_start
    turned_var_start = both_turned _ _ _ turned_var_on (turned_var _)

    -- ---- a record's end

    turned_first : Turned o made w (first_ends s w)
    unfolding first_ends
    turned_first = both_turned _ _ _ turned_esi_start (turned_bare false 1010 (field 1) _ (shut s) is1010)

    turned_outside : Turned o made w (outside_ends s w)
    unfolding outside_ends
    turned_outside =
        both_turned _ _ _ (quiet _ (of_suo_start o s a w) refl)
        (both_turned _ _ _ (turned_bare false 1011 (field 1) _ (shut s) is1011)
        (both_turned _ _ _ (quiet _ (of_empty o s a Outside true) refl)
        (turned_bare true 1023 no_field _ (placed s Outside true nothing) is1023)))

    turned_frame : Turned o made w (frame_ends s w)
    unfolding frame_ends
    turned_frame =
        both_turned _ _ _ turned_var_start
        (both_turned _ _ _ (turned_bare true 1024 no_field _ (suo_start s w) is1024)
        (both_turned _ _ _ (turned_bare true 1024 no_field _ (shut s) is1024) (quiet _ (of_taken o s a) refl)))

    turned_collecting : (kind : Kind) → Turned o made w (collecting_ends kind s w)
    unfolding collecting_ends
    turned_collecting Esi = turned_esi_on
    turned_collecting Suo = quiet _ (of_suo_on o s a w) refl
    turned_collecting Var = turned_var_on

    turned_in : (p : Place) → Turned o made w (ends_in p s w)
    unfolding ends_in
    turned_in BeforeEsi = turned_first
    turned_in Outside = turned_outside
    turned_in (Collecting kind) = turned_collecting kind
    turned_in InData = turned_frame
    turned_in Closed = quiet s a refl

    turned_ended : Turned o made w (record_ended s w)
    unfolding record_ended
    turned_ended = turned_in s.place

    -- ---- a byte past the size limit

    turned_passed_in : (p : Place) → Turned o made w (passed_in p s w)
    unfolding passed_in
    turned_passed_in BeforeEsi = turned_bare false 1034 no_field _ (shut s) is1034
    turned_passed_in Outside = turned_bare true 1034 no_field _ (shut s) is1034
    turned_passed_in (Collecting kind) = turned_bare (pick (is_esi kind) false true) 1034 no_field _ (shut s) is1034
    turned_passed_in InData = turned_bare true 1034 no_field _ (shut s) is1034
    turned_passed_in Closed = quiet s a refl

    turned_passed : Turned o made w (passed s w)
    unfolding passed
    turned_passed = turned_passed_in s.place

    -- ---- the file's end

    turned_cut : (kind : Kind) → Turned o made w (cut_short kind s w)
    unfolding cut_short
    turned_cut Esi = turned_esi CutShort
    turned_cut Suo = turned_bare true 1032 no_field _ (shut s) is1032
    turned_cut Var = turned_var CutShort

    turned_finished : (p : Place) → Turned o made w (finished_in p s w)
    unfolding finished_in
    turned_finished BeforeEsi = quiet s a refl
    turned_finished Outside = quiet s a refl
    turned_finished (Collecting kind) = turned_cut kind
    turned_finished InData = turned_bare true 1024 no_field _ (shut s) is1024
    turned_finished Closed = quiet s a refl

    pub turned_file : Turned o made w (file_ended s w)
    unfolding file_ended
    turned_file = turned_finished s.place

  -- ---- one byte, and bytes up to the first reply

  turned_event : (s : Session) → Of o made s → (e : Event) → Turned o made w (on_event e s w)
  unfolding on_event
  turned_event s a (characters l) = quiet _ (of_heard o s a l) refl
  turned_event s a record_ends = turned_ended s a
  turned_event s a size_passed = turned_passed s a

  turned_step : (s : Session) (b : ℕ) → Of o made s → Turned o made w (stepped s w b)
  unfolding stepped
  turned_step s b a = turned_event _ (of_line o s a _ (byte_later s.line b)) (event_of s.line b)

  -- after a turn that says nothing the rest is scanned
  scan_quiet : (x : Turn) (bs : List ℕ) (u : Session) → x ≡ silent u w
      → (scanned u w bs).turn ≡ (scan_on x (scanned x.out.session x.table bs)).turn
  unfolding scan_on silent pick
  scan_quiet x bs u e = ap (λ (y : Turn). (scan_on y (scanned y.out.session y.table bs)).turn) (sym e)

  -- a turn that gives a reply is the last
  scan_last : (x : Turn) (r : Scan) → x.out.reply.given ≡ true → x ≡ (scan_on x r).turn
  unfolding scan_on
  scan_last x r e = sym (ap (λ (y : Scan). y.turn) (picks {A = Scan} _ (record { turn = x; taken = 1 }) _ e))

  given_bare : (s : Session) (pte : Bool) (code n : ℕ) (chars : List ℕ) (u : Session)
      → (bare_turn s w pte code n chars u).out.reply.given ≡ true
  unfolding bare_turn replies
  given_bare s pte code n chars u = refl

  given_esi : (s : Session) (m : Collected) → (esi_done s w m).out.reply.given ≡ true
  unfolding esi_done replies
  given_esi s m = refl

  given_var : (s : Session) (m : Collected) → (var_done s w m).out.reply.given ≡ true
  unfolding var_done replies
  given_var s m = refl

  abbrev given : Turn → Bool
  given x = x.out.reply.given

  -- a turn either says nothing, and leaves the table's bytes, or gives a reply
  pub says : (x : Turn) → Turned o made w x → ((u : Session) × Of o made u × (x ≡ silent u w)) ⊎ (x.out.reply.given ≡ true)
  says x (quiet u a e) = inl (u, a, e)
  says x (bare s pte code n chars u a m t e) = inr (ap given e ∙ given_bare s pte code n chars u)
  says x (esi s m a l e) = inr (ap given e ∙ given_esi s m)
  says x (var s m a l e) = inr (ap given e ∙ given_var s m)

  turned_on : (x : Turn) (bs : List ℕ) → Turned o made w x → ((u : Session) → Of o made u → Turned o made w (scanned u w bs).turn)
      → Turned o made w (scan_on x (scanned x.out.session x.table bs)).turn
  turned_on x bs t next =
      ⊎_elim (λ q. subst (Turned o made w) (scan_quiet x bs q.0 q.2) (next q.0 q.1))
      (λ g. subst (Turned o made w) (scan_last x _ g) t)
      (says x t)

  pub turned_scan : (s : Session) (bs : List ℕ) → Of o made s → Turned o made w (scanned s w bs).turn
  unfolding scanned
  turned_scan s [] a = quiet s a refl
  turned_scan s (b ∷ bs) a = turned_on (stepped s w b) bs (turned_step s b a) (λ u p. turned_scan u bs p)

  -- ---- the last record

  pub turned_last : (s : Session) → Of o made s → Turned o made w (last_ended s w)
  unfolding last_ended
  turned_last s a =
      both_turned _ _ _ (turned_ended _ (of_line o (heard s _) (of_heard o s a _) _ (heard_later s _))) (quiet s a refl)
