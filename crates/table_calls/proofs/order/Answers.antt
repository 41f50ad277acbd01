-- A refused call returns before it writes, and the parts that a served one writes make up the table.
use Rattle.std.proofs.Common.{rules, ◌≡◌, length, ◌<◌, ◌^◌}
use mathlib.Core.Path.{refl, sym, ap, ◌∙◌}
use Rattle.refusals.specs.Numbers.{code_of}
use Rattle.refusals.proofs.Found.{not_served, served}
use Rattle.table_calls.specs.Calls.{ordering_leaves}
use Rattle.table_calls.proofs.Rewritten.{refused_as}
use Rattle.table_calls.proofs.Served.{ordering_there, ordered_is}
use Rattle.table_calls.proofs.order.Goals as goal

pub returns-in_err-ordering_refusal : goal.returns-in_err-ordering_refusal
unfolding ordering_leaves
returns-in_err-ordering_refusal c =
    let same : c.from_residual.result ≡ c.ordering_refusal.result = search rules in
    let e = c.ordering_refusal.ensures in
    record { answers = ap code_of same ∙ e; leaves = refused_as _ _ _ _ e (not_served _ _ c.in_err-ordering_refusal.was) }

pub returns-in_default : goal.returns-in_default
returns-in_default c =
    absurd (ordering_there _ c.args.o (sym c.ordering_refusal.ensures ∙ served _ _ c.in_ok-ordering_refusal.was)
    (sym c.find.ensures ∙ c.in_default.is))

pub returns : goal.returns
unfolding code_of
returns c =
    let z = sym c.ordering_refusal.ensures ∙ served _ _ c.in_ok-ordering_refusal.was in
    record {
      answers = sym z;
      leaves =
          ordered_is _ c.args.o z _ _ _ _ _ _ _ _ _ (sym c.find.ensures ∙ c.in-Some.is) c.load.ensures c.settings.ensures
          c.take_key-key.ensures c.with_working-after.ensures c.store.ensures c.store_seed.ensures c.store_day.ensures;
    }
