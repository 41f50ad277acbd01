-- Where nothing refuses, the call is served.
use mathlib.Core.Path.{sym, ◌∙◌}
use Rattle.refusals.proofs.Found.{not_served, served}
use Rattle.desk.specs.Held.{opening}
use Rattle.desk.proofs.Desks.{given_refused, given_served}
use Rattle.desk.proofs.open.Goals as goal

pub returns-in-Err : goal.returns-in-Err
unfolding opening
returns-in-Err c =
    let n = c.code-refusal.ensures in
    given_refused _ _ _ _ _ (n ∙ c.opening_refusal-outcome.ensures) (λ z. not_served _ _ c.in-Err.is (sym n ∙ z)) c.no_desk.ensures

pub returns-in-Ok : goal.returns-in-Ok
unfolding opening
returns-in-Ok c =
    let n = c.code-refusal.ensures in
    given_served _ _ _ _ _ (n ∙ c.opening_refusal-outcome.ensures) (n ∙ served _ _ c.in-Ok.is) c.opened_desk.ensures
