-- A refusal hands back zeros, and bytes of no length say that nothing was sent.
use mathlib.Core.Path.{sym, ap, ◌∙◌}
use Prim.Native.Nat.{ℕ}
use Rattle.ground.specs.Choice.{pick}
use Rattle.refusals.proofs.Found.{not_served, served}
use Rattle.desk_bytes.specs.Bytes.{sent_in}
use Rattle.build.specs.Building.{message_by}
use Rattle.build.proofs.Handed.{message_refused, message_served}
use Rattle.build.proofs.message_by.Goals as goal

pub returns-in-Err : goal.returns-in-Err
unfolding sent_in pick
returns-in-Err c =
    let a = c.args in
    let n = c.code-refusal.ensures in
    message_refused _ a.text a.sent _ (λ z. not_served _ _ c.in-Err.is (sym n ∙ z)) c.load_sent.ensures
    ∙ ap (λ (x : ℕ). message_by x a.text a.sent) n

pub returns-in-Ok : goal.returns-in-Ok
returns-in-Ok c =
    let a = c.args in
    let n = c.code-refusal.ensures in
    message_served _ a.text a.sent (n ∙ served _ _ c.in-Ok.is) ∙ ap (λ (x : ℕ). message_by x a.text a.sent) n
