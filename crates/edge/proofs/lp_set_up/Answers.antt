-- The call below is handed what the numbers and bytes say.
use mathlib.Core.Path.{◌∙◌}
use Rattle.calls.specs.Calls.{refusal_of, left_by}
use Rattle.edge.specs.Edge.{setting_by}
use Rattle.edge.proofs.Made.{set_up_made}
use Rattle.edge.proofs.lp_set_up.Goals as goal

pub returns : goal.returns
unfolding setting_by refusal_of left_by
returns c =
    let k = c.set_up.ensures in
    let bank = c.fixed.ensures in
    let software = c.fixed-2.ensures in
    set_up_made (rw (← bank, ← software) (c.code.ensures ∙ k.answers, k.leaves))
