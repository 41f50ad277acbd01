-- The verdict is the first failing check's, or what acceptance grants where none fails;
-- every granted code is K and every check's code is E.
-- Assumes nothing.
use Rattle.std.specs.Prelude.{Err, Ok, Result}
use Prim.Native.Nat.{ℕ}
use mathlib.Core.Path.{◌≡◌, refl, sym, ap, ◌∙◌}
use mathlib.Core.List.{List, [], ◌∷◌}
use mathlib.Core.Bool.{true, false, false≢true}
use Rattle.ground.specs.Choice.{fails}
use Rattle.ground.proofs.Choices.{left, right, join, fails-true}
use Rattle.acceptance.specs.declared.Granted.{Granted}
use Rattle.table.specs.Table.{Table}
use Rattle.message.specs.declared.Fault.{Fault}
use Rattle.message.specs.declared.Check.{Check}
use Rattle.message.specs.Order.{first_failing, fault_at}
use Rattle.message.specs.declared.About.{About}
use Rattle.message.proofs.Order.{NoneFails, accepted_iff, found_first}
use Rattle.checks.specs.Checks.{esi_checks, frame_checks}
use Rattle.verdict.specs.Outcomes.{grant_to, outcome_of, table_by, esi_outcome, esi_table, frame_outcome, frame_table}
use Rattle.reply.specs.declared.Answering.{Answering}
use Rattle.answers.proofs.Made.{verdict_code, verdict_field}
use Rattle.whole_file.specs.WholeFile.{Step, replies, occasion, esi_ends, frame_of, var_ends}
use Rattle.law_history.proofs.Codes.{is_accepted, grants_k, esi_e, frame_e}
use Rattle.law_history.proofs.NoTwice
use Rattle.law_demands.specs.Demands.{none_fails, VerdictOf, Judges, EsiJudged, FrameJudged, NoStampTwice}

-- ---- no check fails, as a test

pub none_true : (cs : List Check) → NoneFails cs → none_fails cs ≡ true
unfolding none_fails fails
none_true [] n = refl
none_true (c ∷ cs) n = join _ _ (ap fails n.0) (none_true cs n.1)

pub true_none : (cs : List Check) → none_fails cs ≡ true → NoneFails cs
unfolding none_fails
true_none [] e = tt
true_none (c ∷ cs) e = (fails-true _ (left _ _ e), true_none cs (right _ _ e))

-- ---- a verdict

-- the answer's code and field are the outcome's, and the table after it is that of the verdict
module _ (checks : List Check) (g : Granted) (made : ℕ) (t u : Table) (k : is_accepted g.code ≡ true)
    (e : (code field : ℕ) (about : About) → first_failing checks ≡ fault_at code field about → is_accepted code ≡ false) where
  accepts : (f : Result Unit Fault) → first_failing checks ≡ f → is_accepted (outcome_of f g made).code ≡ true → none_fails checks ≡ true
  unfolding outcome_of
  accepts (Ok _) p a = none_true checks ((accepted_iff checks).0 p)
  accepts (Err fault) p a = absurd (false≢true (sym (e fault.code fault.field fault.about p) ∙ a))

  passed : first_failing checks ≡ Ok tt → is_accepted (outcome_of (first_failing checks) g made).code ≡ true
  unfolding outcome_of
  passed p = ap (λ (f : Result Unit Fault). is_accepted (outcome_of f g made).code) p ∙ k

  found : (code field : ℕ) (about : About) → first_failing checks ≡ fault_at code field about
      → ((outcome_of (first_failing checks) g made).code ≡ code) × ((outcome_of (first_failing checks) g made).field ≡ field)
  unfolding outcome_of
  found code field about p =
      (ap (λ (f : Result Unit Fault). (outcome_of f g made).code) p, ap (λ (f : Result Unit Fault). (outcome_of f g made).field) p)

  keeps : (f : Result Unit Fault) → is_accepted (outcome_of f g made).code ≡ false → table_by f t u ≡ t
  unfolding outcome_of table_by
  keeps (Ok _) a = absurd (false≢true (sym a ∙ k))
  keeps (Err fault) a = refl

  -- a reply with the outcome's code and field
  pub verdict_of : (r : Answering) → r.code ≡ (outcome_of (first_failing checks) g made).code
      → r.field ≡ (outcome_of (first_failing checks) g made).field → VerdictOf checks r
  verdict_of r code field =
      record {
        accepted = λ a. accepts (first_failing checks) refl (ap is_accepted (sym code) ∙ a);
        passes = λ n. ap is_accepted code ∙ passed ((accepted_iff checks).1 (true_none checks n));
        first = λ before here after order n fail.
            let p =
            found here.code here.field here.about
            (found_first checks here.code here.field here.about
            (record {
              before = before;
              here = here;
              after = after;
              order = order;
              passed = true_none before n;
              failed = fail;
              is = refl;
            })) in
            (code ∙ p.0, field ∙ p.1);
      }

  judged : (x : Step) (r : Answering) → x.says ≡ r ∷ [] → r.code ≡ (outcome_of (first_failing checks) g made).code
      → r.field ≡ (outcome_of (first_failing checks) g made).field → x.after.table ≡ table_by (first_failing checks) t u
      → Judges checks x t
  judged x r says code field table =
      record {
        reply = r;
        one_reply = says;
        verdict = verdict_of r code field;
        refused_keeps = λ a. table ∙ keeps (first_failing checks) (ap is_accepted (sym code) ∙ a);
      }

pub esi_judged : EsiJudged
unfolding esi_ends replies occasion esi_outcome esi_table
esi_judged o s m =
    let out = esi_outcome s.table (occasion o s.made) m in
    let t = esi_table s.table (occasion o s.made) m in
    judged (esi_checks s.table o.today m) (grant_to s.table (occasion o s.made) m.text m.text) s.made
    s.table _
    (grants_k s.table (occasion o s.made) m.text m.text)
    (esi_e s.table o.today m)
    (esi_ends o s m) _ refl (verdict_code t o false out m.text m.text) (verdict_field t o false out m.text m.text) refl

pub frame_judged : FrameJudged
unfolding var_ends replies occasion frame_outcome frame_table frame_of
frame_judged o s f m =
    let out = frame_outcome s.table (occasion o s.made) (frame_of f m) in
    let t = frame_table s.table (occasion o s.made) (frame_of f m) in
    judged (frame_checks s.table o.today o.kind (frame_of f m))
    (grant_to s.table (occasion o s.made) f.suo.text m.text) s.made s.table _
    (grants_k s.table (occasion o s.made) f.suo.text m.text)
    (frame_e s.table o.today o.kind (frame_of f m))
    (var_ends o s f m) _ refl (verdict_code t o true out f.suo.text m.text) (verdict_field t o true out f.suo.text m.text) refl

-- ---- over all calls

pub no_stamp_twice : NoStampTwice
no_stamp_twice = NoTwice.no_stamp_twice
