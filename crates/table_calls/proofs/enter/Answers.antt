-- A refused call returns before it writes, and the parts that a served one writes make up the table.
use Rattle.std.proofs.Common.{rules, ◌≡◌, length, ◌<◌, ◌^◌}
use mathlib.Core.Path.{refl, sym, ap, ◌∙◌}
use Rattle.refusals.specs.Numbers.{code_of}
use Rattle.refusals.proofs.Found.{not_served, served}
use Rattle.table_calls.specs.Calls.{entering_leaves}
use Rattle.table_calls.proofs.Rewritten.{refused_as}
use Rattle.table_calls.proofs.Served.{entering_there, entered_is}
use Rattle.table_calls.proofs.enter.Goals as goal

pub returns-in_err-entering_refusal : goal.returns-in_err-entering_refusal
unfolding entering_leaves
returns-in_err-entering_refusal c =
    let same : c.from_residual.result ≡ c.entering_refusal.result = search rules in
    let e = c.entering_refusal.ensures in
    record { answers = ap code_of same ∙ e; leaves = refused_as _ _ _ _ e (not_served _ _ c.in_err-entering_refusal.was) }

pub returns-in_default : goal.returns-in_default
returns-in_default c =
    absurd (entering_there _ c.args.e (sym c.entering_refusal.ensures ∙ served _ _ c.in_ok-entering_refusal.was)
    (sym c.find.ensures ∙ c.in_default.is))

pub returns : goal.returns
unfolding code_of
returns c =
    let z = sym c.entering_refusal.ensures ∙ served _ _ c.in_ok-entering_refusal.was in
    record {
      answers = sym z;
      leaves =
          entered_is _ c.args.e z _ _ _ _ _ _ (sym c.find.ensures ∙ c.in-Some.is) c.load.ensures c.combine-key.ensures
          c.with_transport-after.ensures c.store.ensures c.store_day.ensures;
    }
