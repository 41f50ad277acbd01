-- A read that is refused takes nothing, and one that is served takes what the scan took.
use mathlib.Core.Path.{sym, ◌∙◌}
use Rattle.refusals.proofs.Found.{not_served, served}
use Rattle.calls.proofs.Serving.{read_refused_lem, read_served_lem}
use Rattle.calls.proofs.read.Goals as goal

pub returns-in-Err : goal.returns-in-Err
returns-in-Err c =
    let n = c.code.ensures in
    read_refused_lem _ _ _ _ (n ∙ c.reading_refusal-outcome.ensures) (λ z. not_served _ _ c.in-Err.is (sym n ∙ z)) c.refused.ensures

pub returns : goal.returns
returns c =
    let x = c.scan-x.ensures in
    let y = c.put_reply-length.ensures in
    read_served_lem _ _ _ _ c.reading_refusal-outcome.ensures (served _ _ c.in_default.is)
    x.session_value x.t_after y.value y.room_after c.is_closed.ensures
