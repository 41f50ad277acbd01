-- A refused call returns before it writes, and the parts that a served one writes make up the table.
use Rattle.std.proofs.Common.{rules, ◌≡◌, length, ◌<◌, ◌^◌}
use mathlib.Core.Path.{refl, sym, ap, ◌∙◌}
use Rattle.refusals.specs.Numbers.{code_of}
use Rattle.refusals.proofs.Found.{not_served, served}
use Rattle.table_calls.specs.Calls.{adding_leaves}
use Rattle.table_calls.proofs.Rewritten.{refused_as}
use Rattle.table_calls.proofs.Served.{added_is}
use Rattle.table_calls.proofs.add.Goals as goal

pub returns-in_err-adding_refusal : goal.returns-in_err-adding_refusal
unfolding adding_leaves
returns-in_err-adding_refusal c =
    let same : c.from_residual.result ≡ c.adding_refusal.result = search rules in
    let e = c.adding_refusal.ensures in
    record { answers = ap code_of same ∙ e; leaves = refused_as _ _ _ _ e (not_served _ _ c.in_err-adding_refusal.was) }

pub returns : goal.returns
unfolding code_of
returns c =
    let z = sym c.adding_refusal.ensures ∙ served _ _ c.in_ok-adding_refusal.was in
    let who : length c.args.a.who ≡ 25 = search rules in
    record { answers = sym z; leaves = added_is _ c.args.a z who _ _ _ c.new_customer.ensures c.add.ensures c.store_day.ensures }
