-- A served call serves one turn: it says nothing, gives a bare E, or ends an ESI or a VAR, whose reply is its list of checks' outcome.
-- Assumes nothing.
use Prim.Native.Nat.{ℕ, ◌≤◌}
use mathlib.Core.Path.{◌≡◌, refl, sym, ap, ◌∙◌, subst}
use mathlib.Core.List.{List, [], ◌∷◌}
use mathlib.Core.Bool.{Bool, true, false, false≢true}
use lib.ListN.{length}
use Rattle.ground.specs.Lists.{member}
use Rattle.ground.proofs.Lists.{one_is, one_not_none}
use Rattle.table.specs.Decode.{table_of, is_table}
use Rattle.checks.specs.Checks.{esi_checks, frame_checks}
use Rattle.message.specs.declared.Collected.{Collected}
use Rattle.verdict.specs.Outcomes.{grant_to, esi_outcome, frame_outcome}
use Rattle.reply.specs.Reply.{reply_of}
use Rattle.reply.specs.declared.Answering.{Answering}
use Rattle.answers.specs.Answers.{bare_answer}
use Rattle.answers.proofs.Made.{verdict_code, verdict_field}
use Rattle.opening.specs.declared.Opening.{Opening}
use Rattle.whole_file.specs.WholeFile.{occasion}
use Rattle.session.specs.Events.{Turn, silent, replies, bare_turn, esi_done, frame_by, var_done}
use Rattle.session.specs.Ranges.{Fits}
use Rattle.session.specs.declared.Session.{Session}
use Rattle.calls.specs.Reading.{Done, served_by, read_done, end_done}
use Rattle.calls.specs.Calls.{reading, ending, refusal_of, shown_by}
use Rattle.law_history.specs.History.{is_k, reading_codes}
use Rattle.law_history.proofs.Sessions.{Of}
use Rattle.law_history.proofs.Codes.{is_accepted, reading_e, grants_k, esi_e, frame_e}
use Rattle.law_history.proofs.Turns.{OnTag, Turned, quiet, bare, esi, var}
use Rattle.law_history.proofs.Effects.{Sized, Effect, unsaid, refused, taken, effect}
use Rattle.law_history.proofs.Shown.{shows_none, shows_reply, says_e}
use Rattle.law_history.proofs.Hearing.{Asked, OneTurn, read_refused_lem, read_turns, end_refused_lem, end_turns}
use Rattle.law_history.proofs.Stays.{by_refusal}
use Rattle.law_demands.specs.Demands.{esi_reply, frame_reply, Shows, shows_nothing, shows_bare, shows_esi, shows_frame, CallsJudged}
use Rattle.law_demands.specs.Demands.{Accepts, accepts_esi, accepts_frame, KJudged}
use Rattle.law_demands.proofs.Accepted.{verdict_of}

-- ---- the turn's reply is shown whole

pub sized : (w : List ℕ) (x : Turn) → Effect w x → x.out.reply.given ≡ true → Sized x.out.reply.answer
sized w x (unsaid g e) h = absurd (false≢true (sym g ∙ h))
sized w x (refused g l c e) h = l
sized w x (taken g l c f i t) h = l

module _ (o : Opening) (made : ℕ) (b room : List ℕ) (h : 317 ≤ length room) (i : is_table b ≡ true) (d : o.today.yymmdd ≡ (table_of b).day)
    (u : Session) (n : ℕ) (finished : Bool) where
  abbrev after : Turn → Done
  after x = served_by x u n finished room

  pub shown_is : (x : Turn) → Turned o made b x → x.out.reply.given ≡ true → shown_by (after x) ≡ reply_of x.out.reply.answer ∷ []
  shown_is x t g = shows_reply x u n finished room g (sized b x (effect o made b x i d t) g) h

  -- ---- each kind of turn

  silent_shows : (v : Session) → Shows o made b (after (silent v b))
  unfolding silent served_by
  silent_shows v = shows_nothing (shows_none (silent v b) u n finished room refl) refl

  module _ (s : Session) (a : Of o made s) where
    at : {k : Done} → Shows s.opening s.made b k → Shows o made b k
    at {k} p =
        subst (λ (q : Opening). Shows q made b k) a.opening (subst (λ (m : ℕ). Shows s.opening m b k) a.keys p)

    bare_shows : (pte : Bool) (code field : ℕ) (chars : List ℕ) (v : Session) → member code reading_codes ≡ true → OnTag code field
        → Shows s.opening s.made b (after (bare_turn s b pte code field chars v))
    unfolding bare_turn replies served_by bare_answer
    bare_shows pte code field chars v m t =
        shows_bare pte code field chars m (shown_is (bare_turn s b pte code field chars v) (bare s pte code field chars v a m t refl) refl)
        (says_e (bare_answer (table_of b) s.opening pte code field chars) (reading_e code m))
        refl

    esi_shows : (m : Collected) → length m.text ≡ 161 → Shows s.opening s.made b (after (esi_done s b m))
    unfolding esi_done replies served_by esi_outcome occasion
    esi_shows m l =
        shows_esi m refl (shown_is (esi_done s b m) (esi s m a l refl) refl)
        (verdict_of (esi_checks (table_of b) s.opening.today m)
        (grant_to (table_of b) (occasion s.opening s.made) m.text m.text)
        s.made (table_of b) (table_of b)
        (grants_k (table_of b) (occasion s.opening s.made) m.text m.text)
        (esi_e (table_of b) s.opening.today m)
        _ (verdict_code _ s.opening false (esi_outcome (table_of b) (occasion s.opening s.made) m) m.text m.text)
        (verdict_field _ s.opening false (esi_outcome (table_of b) (occasion s.opening s.made) m) m.text m.text))

    var_shows : (m : Collected) → length m.text ≡ 161 → Shows s.opening s.made b (after (var_done s b m))
    unfolding var_done replies served_by frame_by frame_outcome occasion
    var_shows m l =
        shows_frame (frame_by s m) refl (shown_is (var_done s b m) (var s m a l refl) refl)
        (verdict_of (frame_checks (table_of b) s.opening.today s.opening.kind (frame_by s m))
        (grant_to (table_of b) (occasion s.opening s.made) s.batch.suo.text m.text)
        s.made (table_of b) (table_of b)
        (grants_k (table_of b) (occasion s.opening s.made) s.batch.suo.text m.text)
        (frame_e (table_of b) s.opening.today s.opening.kind (frame_by s m))
        _ (verdict_code _ s.opening true (frame_outcome (table_of b) (occasion s.opening s.made) (frame_by s m))
        s.batch.suo.text m.text)
        (verdict_field _ s.opening true (frame_outcome (table_of b) (occasion s.opening s.made) (frame_by s m))
        s.batch.suo.text m.text))

  turn_shows : (x : Turn) → Turned o made b x → Shows o made b (after x)
  turn_shows x (quiet v a e) = subst (λ (y : Turn). Shows o made b (after y)) (sym e) (silent_shows v)
  turn_shows x (bare s pte code field chars v a m t e) =
      subst (λ (y : Turn). Shows o made b (after y)) (sym e) (at s a (bare_shows s a pte code field chars v m t))
  turn_shows x (esi s m a l e) = subst (λ (y : Turn). Shows o made b (after y)) (sym e) (at s a (esi_shows s a m l))
  turn_shows x (var s m a l e) = subst (λ (y : Turn). Shows o made b (after y)) (sym e) (at s a (var_shows s a m l))

shows_one : (s : Session) (b room : List ℕ) (d : Done) → Asked s b room × OneTurn s b room d → Shows s.opening s.made b d
shows_one s b room d k =
    let a = k.0 in
    let c = k.1 in
    subst (Shows s.opening s.made b) (sym c.is)
    (turn_shows s.opening s.made b room a.size a.table a.today c.later c.count c.finished c.turn c.turned)

read_shows : (s : Session) (b input room : List ℕ) → Fits s → (read_done s b input room).answer.refusal ≡ 0
    → Shows s.opening s.made b (read_done s b input room)
read_shows s b input room f z = shows_one s b room _ (read_turns s b input room f z)

end_shows : (s : Session) (b room : List ℕ) → Fits s → (end_done s b room).answer.refusal ≡ 0
    → Shows s.opening s.made b (end_done s b room)
end_shows s b room f z = shows_one s b room _ (end_turns s b room f z)

pub calls_judged : CallsJudged
calls_judged = (read_shows, end_shows)

-- ---- a reply with K

-- a reply with K has a code that accepts
k_accepts : (a : Answering) → is_k (reply_of a) ≡ true → is_accepted a.code ≡ true
k_accepts a k = by (is_accepted a.code) refl
  where
    by : (v : Bool) → is_accepted a.code ≡ v → is_accepted a.code ≡ true
    by true e = e
    by false e = absurd (false≢true (sym (says_e a e) ∙ k))

k_shown : (o : Opening) (made : ℕ) (b : List ℕ) (d : Done) (r : List ℕ) → Shows o made b d → shown_by d ≡ r ∷ [] → is_k r ≡ true
    → Accepts o made b r d.table
k_shown o made b d r (shows_nothing e t) q k = absurd (one_not_none (shown_by d) r e q)
k_shown o made b d r (shows_bare pte code field chars m e f t) q k =
    absurd (false≢true (sym f ∙ ap is_k (one_is _ r (sym e ∙ q)) ∙ k))
k_shown o made b d r (shows_esi m t e v) q k =
    let p = one_is r _ (sym q ∙ e) in
    accepts_esi m (v.accepted (k_accepts (esi_reply o made b m d.table) (sym (ap is_k p) ∙ k))) p t
k_shown o made b d r (shows_frame f t e v) q k =
    let p = one_is r _ (sym q ∙ e) in
    accepts_frame f (v.accepted (k_accepts (frame_reply o made b f d.table) (sym (ap is_k p) ∙ k))) p t

read_k : (s : Session) (b input room r : List ℕ) → Fits s → shown_by (read_done s b input room) ≡ r ∷ [] → is_k r ≡ true
    → Accepts s.opening s.made b r (read_done s b input room).table
unfolding refusal_of
read_k s b input room r f q k =
    by_refusal b (reading s input room) (λ z. k_shown _ _ b _ r (read_shows s b input room f z) q k)
    (λ z. absurd (one_not_none _ r (read_refused_lem s b input room z).1 q))

end_k : (s : Session) (b room r : List ℕ) → Fits s → shown_by (end_done s b room) ≡ r ∷ [] → is_k r ≡ true
    → Accepts s.opening s.made b r (end_done s b room).table
unfolding refusal_of
end_k s b room r f q k =
    by_refusal b (ending s room) (λ z. k_shown _ _ b _ r (end_shows s b room f z) q k)
    (λ z. absurd (one_not_none _ r (end_refused_lem s b room z).1 q))

pub k_judged : KJudged
k_judged = (read_k, end_k)
