-- What a turn does to a table: without a reply with K nothing, and with one it took the message whose sender and stamp the reply repeats.
-- Assumes nothing.
use Rattle.std.specs.Prelude.{Err, Ok, Result}
use Prim.Native.Nat.{ℕ, ◌<◌, ◌^◌}
use mathlib.Core.Path.{◌≡◌, refl, sym, ap, ◌∙◌, subst}
use mathlib.Core.List.{List}
use mathlib.Core.Bool.{Bool, true, false}
use borrow.Author.Tests.{eqb-true}
use lib.ListN.{length, replicate, length-replicate}
use Rattle.ground.proofs.Choices.{left, right}
use Rattle.ground.proofs.Bools.{picked}
use Rattle.calendar.specs.Dates.{real_date}
use Rattle.acceptance.specs.declared.Granted.{Granted}
use Rattle.table.specs.Table.{Table, settings_fit, sound_table}
use Rattle.table.specs.Written.{written}
use Rattle.table.specs.Decode.{table_of, is_table}
use Rattle.table.proofs.Sound.{parts}
use Rattle.table.proofs.Decode.{is_written, rewritten_is}
use Rattle.message.specs.declared.Fault.{Fault}
use Rattle.message.specs.Order.{first_failing, fault_at}
use Rattle.message.specs.declared.About.{About}
use Rattle.checks.specs.Checks.{esi_checks, frame_checks, key_or0}
use Rattle.verdict.specs.Outcomes.{grant_to, outcome_of, esi_outcome, frame_outcome, esi_table, frame_table, esi_leaves, frame_leaves}
use Rattle.message.specs.declared.Collected.{Collected}
use Rattle.checks.specs.declared.Occasion.{Occasion}
use Rattle.verdict.specs.declared.Outcome.{Outcome}
use Rattle.verdict.proofs.Laws.{esi_e_leaves, frame_e_leaves}
use Rattle.verdict.proofs.Leaves.{esi_leaves_table, frame_leaves_table}
use Rattle.reply.specs.declared.Answering.{Answering}
use Rattle.answers.specs.Answers.{bare_answer, full_answer, verdict_answer}
use Rattle.opening.specs.declared.Opening.{Opening}
use Rattle.answers.proofs.Made.{verdict_code, verdict_full}
use Rattle.whole_file.specs.WholeFile.{occasion}
use Rattle.session.specs.Events.{Turn, silent, replies, bare_turn, esi_done, frame_by, var_done}
use Rattle.session.specs.declared.Session.{Session}
use Rattle.law_history.proofs.Codes.{is_accepted, is_bare, reading_e, grants_k, grants_full, esi_e, frame_e}
use Rattle.law_history.proofs.Turns.{Turned, quiet, bare, esi, var}
use Rattle.law_history.proofs.Accepts.{Took, esi_took, frame_took}

-- the texts of an answer have their lengths
pub record Sized (a : Answering) : Type 0 where
  pub bank : length a.bank ≡ 25
  pub software : length a.software ≡ 16
  pub message : length a.message ≡ 161
  pub closing : length a.closing ≡ 161

-- the turn x on the table's bytes w
pub data Effect (w : List ℕ) (x : Turn) : Type 0 where
  unsaid : x.out.reply.given ≡ false → x.table ≡ w → Effect w x
  refused : x.out.reply.given ≡ true → Sized x.out.reply.answer → is_accepted x.out.reply.answer.code ≡ false
      → x.table ≡ w → Effect w x
  taken : x.out.reply.given ≡ true → Sized x.out.reply.answer → is_accepted x.out.reply.answer.code ≡ true
      → x.out.reply.answer.bare ≡ false → is_table x.table ≡ true
      → Took (table_of w) (table_of x.table) x.out.reply.answer.message → Effect w x

settings_long : (t : Table) → sound_table t ≡ true → (length t.settings.bank ≡ 25) × (length t.settings.software ≡ 16)
unfolding settings_fit
settings_long t s =
    let f = (parts t s).fit in
    (eqb-true _ 25 (left _ _ f), eqb-true _ 16 (left _ _ (right _ _ f)))

table_long : (b : List ℕ) → is_table b ≡ true → (length (table_of b).settings.bank ≡ 25) × (length (table_of b).settings.software ≡ 16)
table_long b e = settings_long (table_of b) (is_written b e).sound

module _ (w : List ℕ) (e : is_table w ≡ true) where
  -- ---- nothing, and a bare E

  effect_silent : (u : Session) → Effect w (silent u w)
  unfolding silent
  effect_silent u = unsaid refl refl

  effect_bare : (s : Session) (pte : Bool) (code field : ℕ) (chars : List ℕ) (u : Session) → is_accepted code ≡ false
      → Effect w (bare_turn s w pte code field chars u)
  unfolding bare_turn replies bare_answer
  effect_bare s pte code field chars u n =
      let l = table_long w e in
      refused refl
      (record { bank = l.0; software = l.1; message = length-replicate {A = ℕ} 161 0; closing = length-replicate {A = ℕ} 161 0 })
      n refl

  -- ---- a verdict, whatever it is

  module _ (o : Opening) (pte : Bool) (g : Granted) (made : ℕ) (m closing after : List ℕ) (u : Session) (lm : length m ≡ 161)
      (lc : length closing ≡ 161)
      (is : is_table after ≡ true) where
    -- its texts have their lengths, whichever form it takes
    verdict_sized : (out : Outcome) → Sized (verdict_answer (table_of after) o pte out m closing)
    unfolding verdict_answer bare_answer full_answer
    verdict_sized out =
        let l = table_long after is in
        let z : length {A = ℕ} (replicate 161 0) ≡ 161 = length-replicate {A = ℕ} 161 0 in
        picked Sized _ _ _ (λ e. record { bank = l.0; software = l.1; message = z; closing = z })
        (λ e. record { bank = l.0; software = l.1; message = lm; closing = lc })

    granted_full : is_bare g.code ≡ false
        → verdict_answer (table_of after) o pte (outcome_of (Ok tt) g made) m closing
        ≡ full_answer (table_of after) o pte (outcome_of (Ok tt) g made) m closing
    unfolding outcome_of
    granted_full b = verdict_full (table_of after) o pte (outcome_of (Ok tt) g made) m closing b

    accepted_effect : {x : Answering} → x ≡ full_answer (table_of after) o pte (outcome_of (Ok tt) g made) m closing → is_accepted g.code
        ≡ true
        → Took (table_of w) (table_of after) m
        → Effect w (replies x u after)
    unfolding replies full_answer outcome_of
    accepted_effect e k q =
        let l = table_long after is in
        subst (λ (x : Answering). Effect w (replies x u after)) (sym e)
        (taken refl (record { bank = l.0; software = l.1; message = lm; closing = lc }) k refl is q)

    refused_effect : (c n : ℕ) (a : About) → after ≡ w → is_accepted c ≡ false
        → Effect w (replies (verdict_answer (table_of after) o pte (outcome_of (fault_at c n a) g made) m closing) u after)
    unfolding replies outcome_of
    refused_effect c n a t e =
        refused refl (verdict_sized _)
        (ap is_accepted (verdict_code (table_of after) o pte (outcome_of (fault_at c n a) g made) m closing) ∙ e)
        t

    by_verdict : (f : Result Unit Fault) → ((c n : ℕ) (a : About) → f ≡ fault_at c n a → (after ≡ w) × (is_accepted c ≡ false))
        → (f ≡ Ok tt → Took (table_of w) (table_of after) m) → is_accepted g.code ≡ true → is_bare g.code ≡ false
        → Effect w (replies (verdict_answer (table_of after) o pte (outcome_of f g made) m closing) u after)
    by_verdict (Ok _) p q k b = accepted_effect (granted_full b) k (q refl)
    by_verdict (Err fault) p q k b = let r = p fault.code fault.field fault.about refl in refused_effect fault.code fault.field fault.about r.0 r.1

  module _ (s : Session) (d : s.opening.today.yymmdd ≡ (table_of w).day) where
    abbrev t : Table
    t = table_of w

    abbrev o : Occasion
    o = occasion s.opening s.made

    same_day : o.today.yymmdd ≡ t.day
    unfolding occasion
    same_day = d

    real_day : real_date o.today.yymmdd ≡ true
    real_day = ap real_date same_day ∙ (parts t (is_written w e).sound).day

    left_is : (after : List ℕ) (u : Table) → (after ≡ written w u) × (sound_table u ≡ true) → (is_table after ≡ true) × (table_of after ≡ u)
    left_is after u k =
        let r = rewritten_is w u e k.1 in
        (ap is_table k.0 ∙ r.0, ap table_of k.0 ∙ r.1)

    effect_esi : (m : Collected) → length m.text ≡ 161 → Effect w (esi_done s w m)
    unfolding esi_done esi_outcome
    effect_esi m l =
        let k = left_is (esi_leaves w o m) (esi_table t o m) (esi_leaves_table w o m e real_day l) in
        by_verdict s.opening false (grant_to t o m.text m.text) o.made m.text m.text (esi_leaves w o m) _ l l k.0
        (first_failing (esi_checks t o.today m))
        (λ c n a q. (esi_e_leaves w o m c n a q, esi_e t o.today m c n a q))
        (λ q. subst (λ (u : Table). Took t u m.text) (sym k.1) (esi_took t o m same_day l q))
        (grants_k t o m.text m.text)
        (grants_full t o m.text m.text)

    effect_var : (m : Collected) → length m.text ≡ 161 → length s.batch.suo.text ≡ 161 → key_or0 s.batch.once < 2 ^ 64
        → Effect w (var_done s w m)
    unfolding var_done frame_outcome frame_by
    effect_var m l n b =
        let f = frame_by s m in
        let k = left_is (frame_leaves w o f) (frame_table t o f) (frame_leaves_table w o f e real_day n b) in
        by_verdict s.opening true (grant_to t o f.suo.text f.var.text) o.made f.suo.text f.var.text
        (frame_leaves w o f) _ n l k.0
        (first_failing (frame_checks t o.today o.kind f))
        (λ c n a q. (frame_e_leaves w o f c n a q, frame_e t o.today o.kind f c n a q))
        (λ q. subst (λ (u : Table). Took t u f.suo.text) (sym k.1) (frame_took t o f same_day n q))
        (grants_k t o f.suo.text f.var.text)
        (grants_full t o f.suo.text f.var.text)

-- ---- every turn

pub effect : (o : Opening) (made : ℕ) (w : List ℕ) (x : Turn) → is_table w ≡ true → o.today.yymmdd ≡ (table_of w).day
    → Turned o made w x → Effect w x
effect o made w x e d (quiet u a q) = subst (Effect w) (sym q) (effect_silent w e u)
effect o made w x e d (bare s pte code field chars u a n t q) =
    subst (Effect w) (sym q) (effect_bare w e s pte code field chars u (reading_e code n))
effect o made w x e d (esi s m a l q) =
    subst (Effect w) (sym q) (effect_esi w e s (ap (λ (p : Opening). p.today.yymmdd) a.opening ∙ d) m l)
effect o made w x e d (var s m a l q) =
    subst (Effect w) (sym q)
    (effect_var w e s (ap (λ (p : Opening). p.today.yymmdd) a.opening ∙ d) m l a.fits.suo_long_fact a.fits.key_fits)
