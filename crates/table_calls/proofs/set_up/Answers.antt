-- A refused call returns before it writes, and the parts that a served one writes make up the table.
use Rattle.std.proofs.Common.{rules, ◌≡◌, length, ◌<◌, ◌^◌}
use mathlib.Core.Path.{refl, sym, ap, ◌∙◌}
use Rattle.refusals.specs.Numbers.{code_of}
use Rattle.refusals.proofs.Found.{not_served, served}
use Rattle.table_calls.specs.Calls.{setting_up_leaves}
use Rattle.table_calls.proofs.Rewritten.{refused_as}
use Rattle.table_calls.proofs.Served.{set_up_is}
use Rattle.table_calls.proofs.set_up.Goals as goal

pub returns-in_err-setting_up_refusal : goal.returns-in_err-setting_up_refusal
unfolding setting_up_leaves
returns-in_err-setting_up_refusal c =
    let same : c.from_residual.result ≡ c.setting_up_refusal.result = search rules in
    let e = c.setting_up_refusal.ensures in
    record { answers = ap code_of same ∙ e; leaves = refused_as _ _ _ _ e (not_served _ _ c.in_err-setting_up_refusal.was) }

pub returns : goal.returns
unfolding code_of
returns c =
    let z = sym c.setting_up_refusal.ensures ∙ served _ _ c.in_ok-setting_up_refusal.was in
    let bank : length c.args.s.bank ≡ 25 = search rules in
    let software : length c.args.s.software ≡ 16 = search rules in
    let key : c.args.s.key < 2 ^ 64 = search rules in
    let seed : c.args.s.seed < 2 ^ 64 = search rules in
    record { answers = sym z; leaves = set_up_is _ c.args.s _ z bank software key seed _ _ refl c.set_up.ensures }
