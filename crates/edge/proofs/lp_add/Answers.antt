-- The call below is handed what the numbers and bytes say.
use mathlib.Core.Path.{◌∙◌}
use Rattle.calls.specs.Calls.{refusal_of, left_by}
use Rattle.edge.specs.Edge.{adding_by}
use Rattle.edge.proofs.Made.{add_made}
use Rattle.edge.proofs.lp_add.Goals as goal

pub returns : goal.returns
unfolding adding_by refusal_of left_by
returns c =
    let k = c.add.ensures in
    let who = c.fixed.ensures in
    let types = c.types_by.ensures in
    let length = c.length_by.ensures in
    add_made (rw (← who, ← types, ← length) (c.code.ensures ∙ k.answers, k.leaves))
