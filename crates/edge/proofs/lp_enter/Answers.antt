-- The call below is handed what the numbers and bytes say.
use mathlib.Core.Path.{◌∙◌}
use Rattle.calls.specs.Calls.{refusal_of, left_by}
use Rattle.edge.specs.Edge.{entering_by}
use Rattle.edge.proofs.Made.{enter_made}
use Rattle.edge.proofs.lp_enter.Goals as goal

pub returns : goal.returns
unfolding entering_by refusal_of left_by
returns c =
    let k = c.enter.ensures in
    enter_made (rw (← c.fixed.ensures) (c.code.ensures ∙ k.answers, k.leaves))
