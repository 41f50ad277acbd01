-- The call below is handed what the numbers say, and its desk is stored where it is served.
use mathlib.Core.Path.{ap, ◌∙◌}
use Rattle.desk.specs.declared.Given.{Given}
use Rattle.desk_edge.specs.Calls.{held_after_call}
use Rattle.desk_edge.proofs.lp_held_enter.Goals as goal

pub returns : goal.returns
returns c = let e = c.entered-x.ensures in
    record {
      answers = ap (λ (x : Given). x.refusal) e;
      keeps = c.put_given.ensures ∙ ap (held_after_call _) e;
    }
