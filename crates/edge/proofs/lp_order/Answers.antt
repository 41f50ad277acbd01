-- The call below is handed what the numbers and bytes say.
use mathlib.Core.Path.{◌∙◌}
use Rattle.calls.specs.Calls.{refusal_of, left_by}
use Rattle.edge.specs.Edge.{ordering_by}
use Rattle.edge.proofs.Made.{order_made}
use Rattle.edge.proofs.lp_order.Goals as goal

pub returns : goal.returns
unfolding ordering_by refusal_of left_by
returns c =
    let k = c.order.ensures in
    order_made (rw (← c.fixed.ensures) (c.code.ensures ∙ k.answers, k.leaves))
