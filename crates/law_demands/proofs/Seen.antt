-- What a call shows is the reply of its one turn, whose field 20 is its notice; with 1010 or 1011 that notice holds the contents of the
-- field that the reply names, which is field 1 where the reading rules give it.
-- Assumes nothing.
use Rattle.std.specs.Prelude.{Err, Ok, Result}
use Prim.Native.Nat.{ℕ, ◌≤◌}
use mathlib.Core.Path.{◌≡◌, refl, sym, ap, ◌∙◌, subst}
use mathlib.Core.Bool.{Bool, true, false, false≢true}
use mathlib.Core.List.{List, [], ◌∷◌, ◌++◌}
use lib.ListN.{length}
use Rattle.ground.specs.Choice.{pick}
use Rattle.ground.specs.Lists.{member}
use Rattle.ground.proofs.Bools.{picked}
use Rattle.ground.proofs.Lists.{one_is, one_not_none}
use Rattle.acceptance.specs.declared.Granted.{Granted}
use Rattle.table.specs.Decode.{table_of, is_table}
use Rattle.message.specs.Layout.{field, field_text}
use Rattle.message.specs.Contents.{at_fault}
use Rattle.message.specs.declared.Check.{Check}
use Rattle.message.specs.Order.{first_failing}
use Rattle.message.specs.declared.Collected.{Collected}
use Rattle.message.specs.declared.Fault.{Fault}
use Rattle.checks.specs.Checks.{esi_checks, frame_checks}
use Rattle.checks.specs.declared.Frame.{Frame}
use Rattle.verdict.specs.Outcomes.{grant_to, outcome_of, esi_outcome, frame_outcome}
use Rattle.reply.specs.Reply.{Said, opening_fields, bare_fields, full_fields, closing_fields, reply_fields, notice_of, reply_of}
use Rattle.reply.specs.declared.Answering.{Answering}
use Rattle.reply.proofs.Fields.{full_reply, bare_reply, said_in, reply_fields_lem}
use Rattle.answers.specs.Answers.{bare_answer, verdict_answer}
use Rattle.answers.proofs.Made.{verdict_code}
use Rattle.opening.specs.declared.Opening.{Opening}
use Rattle.whole_file.specs.WholeFile.{occasion}
use Rattle.session.specs.Events.{Turn, silent, replies, bare_turn, esi_done, frame_by, var_done}
use Rattle.session.specs.Ranges.{Fits}
use Rattle.session.specs.declared.Session.{Session}
use Rattle.calls.specs.Reading.{Done, served_by, read_done, end_done}
use Rattle.calls.specs.Calls.{reading, ending, refusal_of, shown_by}
use Rattle.law_history.specs.History.{reading_codes}
use Rattle.law_history.proofs.Sessions.{Of}
use Rattle.law_history.proofs.Codes.{grants_k}
use Rattle.law_history.proofs.Turns.{OnTag, Turned, quiet, bare, esi, var}
use Rattle.law_history.proofs.Effects.{Sized, effect}
use Rattle.law_history.proofs.Shown.{shows_none}
use Rattle.law_history.proofs.Hearing.{Asked, OneTurn, read_refused_lem, read_turns, end_refused_lem, end_turns}
use Rattle.law_history.proofs.Stays.{by_refusal}
use Rattle.law_demands.specs.Demands.{esi_reply, frame_reply, is_fault, ShowsField, IsReply, CallsShowFault}
use Rattle.law_demands.specs.Demands.{ShowsFault, no_fault, of_record, of_esi, of_frame}
use Rattle.law_demands.proofs.Values.{fault_refused, bare_shows, esi_narrow, frame_narrow, found_shows, verdict_shows}
use Rattle.law_demands.proofs.Values.{alone, tag_narrow}
use Rattle.law_demands.proofs.Judged.{sized, shown_is}

-- ---- field 20 of a reply's bytes

notice_full : (a : Answering) → said_in (field 20) (full_reply a) ≡ notice_of a
unfolding said_in pick
notice_full a = refl

notice_bare : (a : Answering) → said_in (field 20) (bare_reply a) ≡ notice_of a
unfolding said_in pick
notice_bare a = refl

notice_said : (a : Answering) → said_in (field 20) (reply_fields a) ≡ notice_of a
notice_said a =
    picked (λ (x : List Said). said_in (field 20) (opening_fields a ++ x ++ closing_fields a) ≡ notice_of a) a.bare (bare_fields a)
    (full_fields a)
    (λ e. notice_bare a)
    (λ e. notice_full a)

is_reply : (a : Answering) (r : List ℕ) → Sized a → r ≡ reply_of a → IsReply a r
is_reply a r z e =
    record {
      bytes = e;
      notice =
          ap (field_text (field 20)) e
          ∙ reply_fields_lem a z.bank z.software z.message z.closing (field 20)
          ∙ notice_said a;
    }

-- ---- each kind of reply

module _ (o : Opening) (made : ℕ) (b r left : List ℕ) where
  -- only a fault is to be shown
  by_fault : (a : Answering) → IsReply a r → (is_fault a.code ≡ true → ShowsFault o made b left r) → ShowsFault o made b left r
  by_fault a i shows = by (is_fault a.code) refl
    where
      by : (v : Bool) → is_fault a.code ≡ v → ShowsFault o made b left r
      by true e = shows e
      by false e = no_fault a i e

  bare_fault : (pte : Bool) (code n : ℕ) (chars : List ℕ) → OnTag code n → left ≡ b → IsReply (bare_answer (table_of b) o pte code n chars) r
      → ShowsFault o made b left r
  unfolding bare_answer
  bare_fault pte code n chars t stays i =
      by_fault (bare_answer (table_of b) o pte code n chars) i
      (λ e. of_record pte code chars (subst (λ (k : ℕ). IsReply (bare_answer (table_of b) o pte code k chars) r) (t e) i)
      (bare_shows (table_of b) o pte code (field 1) chars e tag_narrow)
      stays)

  esi_fault : (m : Collected) → IsReply (esi_reply o made b m left) r → ShowsFault o made b left r
  unfolding esi_outcome occasion
  esi_fault m i =
      let cs = esi_checks (table_of b) o.today m in
      let g = grant_to (table_of b) (occasion o made) m.text m.text in
      by_fault (esi_reply o made b m left) i
      (λ e. of_esi m i
      (verdict_shows (table_of left) o false g made m.text m.text cs (esi_narrow (table_of b) o.today m) (first_failing cs) refl
      (grants_k (table_of b) (occasion o made) m.text m.text)
      (ap is_fault (sym (verdict_code (table_of left) o false (outcome_of (first_failing cs) g made) m.text m.text)) ∙ e)
      (alone m.text)))

  module _ (f : Frame) (i : IsReply (frame_reply o made b f left) r) where
    abbrev checks : List Check
    checks = frame_checks (table_of b) o.today o.kind f

    abbrev granted : Granted
    granted = grant_to (table_of b) (occasion o made) f.suo.text f.var.text

    abbrev answer_by : Result Unit Fault → Answering
    answer_by x = verdict_answer (table_of left) o true (outcome_of x granted made) f.suo.text f.var.text

    -- what is granted is no fault
    found_fault : (x : Result Unit Fault) → first_failing checks ≡ x → is_fault (outcome_of x granted made).code ≡ true → ShowsFault o made b left r
    unfolding outcome_of frame_outcome occasion
    found_fault (Ok _) p e =
        absurd (false≢true (sym (fault_refused granted.code e) ∙ grants_k (table_of b) (occasion o made) f.suo.text f.var.text))
    found_fault (Err fault) p e =
        of_frame f fault.code fault.field fault.about i p
        (subst (λ (x : Result Unit Fault). ShowsField (answer_by x) (at_fault fault.about f.suo.text f.var.text)) (sym p)
        (found_shows (table_of left) o true granted made f.suo.text f.var.text checks
        (frame_narrow (table_of b) o.today o.kind f) fault.code fault.field fault.about p e))

    frame_fault : ShowsFault o made b left r
    unfolding frame_outcome occasion
    frame_fault =
        by_fault (frame_reply o made b f left) i
        (λ e. found_fault (first_failing checks) refl
        (ap is_fault (sym (verdict_code (table_of left) o true (outcome_of (first_failing checks) granted made) f.suo.text f.var.text))
        ∙ e))

-- ---- each kind of turn

module _ (o : Opening) (made : ℕ) (b room : List ℕ) (h : 317 ≤ length room) (i : is_table b ≡ true) (d : o.today.yymmdd ≡ (table_of b).day)
    (u : Session) (n : ℕ) (finished : Bool) (r : List ℕ) where
  abbrev Shown : Turn → Type 0
  Shown x = shown_by (served_by x u n finished room) ≡ r ∷ []

  abbrev Faulted : Turn → Type 0
  Faulted x = ShowsFault o made b (served_by x u n finished room).table r

  turn_reply : (x : Turn) → Turned o made b x → x.out.reply.given ≡ true → Shown x → IsReply x.out.reply.answer r
  turn_reply x t g q =
      is_reply x.out.reply.answer r (sized b x (effect o made b x i d t) g)
      (one_is r _ (sym q ∙ shown_is o made b room h i d u n finished x t g))

  silent_seen : (v : Session) → Shown (silent v b) → Faulted (silent v b)
  unfolding silent
  silent_seen v q = absurd (one_not_none _ r (shows_none (silent v b) u n finished room refl) q)

  module _ (s : Session) (a : Of o made s) where
    at : (left : List ℕ) → ShowsFault s.opening s.made b left r → ShowsFault o made b left r
    at left p =
        subst (λ (q : Opening). ShowsFault q made b left r) a.opening
        (subst (λ (m : ℕ). ShowsFault s.opening m b left r) a.keys p)

    bare_seen : (pte : Bool) (code k : ℕ) (chars : List ℕ) (v : Session) → member code reading_codes ≡ true → OnTag code k
        → Shown (bare_turn s b pte code k chars v) → Faulted (bare_turn s b pte code k chars v)
    unfolding bare_turn replies served_by
    bare_seen pte code k chars v m t q =
        at b (bare_fault s.opening s.made b r b pte code k chars t refl
        (turn_reply (bare_turn s b pte code k chars v) (bare s pte code k chars v a m t refl) refl q))

    esi_seen : (m : Collected) → length m.text ≡ 161 → Shown (esi_done s b m) → Faulted (esi_done s b m)
    unfolding esi_done replies served_by
    esi_seen m l q =
        at _ (esi_fault s.opening s.made b r _ m (turn_reply (esi_done s b m) (esi s m a l refl) refl q))

    var_seen : (m : Collected) → length m.text ≡ 161 → Shown (var_done s b m) → Faulted (var_done s b m)
    unfolding var_done frame_by replies served_by
    var_seen m l q =
        at _ (frame_fault s.opening s.made b r _ (frame_by s m) (turn_reply (var_done s b m) (var s m a l refl) refl q))

  turn_seen : (x : Turn) → Turned o made b x → Shown x → Faulted x
  turn_seen x (quiet v a e) = subst (λ (y : Turn). Shown y → Faulted y) (sym e) (silent_seen v)
  turn_seen x (bare s pte code k chars v a m t e) =
      subst (λ (y : Turn). Shown y → Faulted y) (sym e) (bare_seen s a pte code k chars v m t)
  turn_seen x (esi s m a l e) = subst (λ (y : Turn). Shown y → Faulted y) (sym e) (esi_seen s a m l)
  turn_seen x (var s m a l e) = subst (λ (y : Turn). Shown y → Faulted y) (sym e) (var_seen s a m l)

-- ---- the calls

seen_one : (s : Session) (b room r : List ℕ) (d : Done) → Asked s b room × OneTurn s b room d → shown_by d ≡ r ∷ []
    → ShowsFault s.opening s.made b d.table r
seen_one s b room r d k =
    let a = k.0 in
    let c = k.1 in
    subst (λ (y : Done). shown_by y ≡ r ∷ [] → ShowsFault s.opening s.made b y.table r) (sym c.is)
    (turn_seen s.opening s.made b room a.size a.table a.today c.later c.count c.finished r c.turn c.turned)

read_seen : (s : Session) (b input room r : List ℕ) → Fits s → shown_by (read_done s b input room) ≡ r ∷ []
    → ShowsFault s.opening s.made b (read_done s b input room).table r
unfolding refusal_of
read_seen s b input room r f q =
    by_refusal b (reading s input room) (λ z. seen_one s b room r _ (read_turns s b input room f z) q)
    (λ z. absurd (one_not_none _ r (read_refused_lem s b input room z).1 q))

end_seen : (s : Session) (b room r : List ℕ) → Fits s → shown_by (end_done s b room) ≡ r ∷ []
    → ShowsFault s.opening s.made b (end_done s b room).table r
unfolding refusal_of
end_seen s b room r f q =
    by_refusal b (ending s room) (λ z. seen_one s b room r _ (end_turns s b room f z) q)
    (λ z. absurd (one_not_none _ r (end_refused_lem s b room z).1 q))

pub calls_show_fault : CallsShowFault
calls_show_fault = (read_seen, end_seen)
