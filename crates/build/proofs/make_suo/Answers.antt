-- A refusal decides between the batch with the maker moved on, and none with the maker as it stood.
use mathlib.Core.Path.{sym, ◌∙◌}
use Rattle.refusals.proofs.Found.{not_served, served}
use Rattle.build.proofs.Handed.{suo_refused, suo_served}
use Rattle.build.proofs.make_suo.Goals as goal

pub returns-in-Err : goal.returns-in-Err
returns-in-Err c =
    let a = c.args in
    let n = c.code-refusal.ensures in
    suo_refused a.h a.maker a.clock a.g _ _ _ _ c.make-made.ensures c.suo_text-suo.ensures
    c.suo_breaks_rules.ensures (n ∙ c.building_refusal-outcome.ensures)
    (λ z. not_served _ _ c.in-Err.is (sym n ∙ z)) _ c.no_batch-batch.ensures

pub returns-in-Ok : goal.returns-in-Ok
returns-in-Ok c =
    let a = c.args in
    let n = c.code-refusal.ensures in
    suo_served a.h a.maker a.clock a.g _ _ _ _ c.make-made.ensures c.suo_text-suo.ensures
    c.suo_breaks_rules.ensures (n ∙ c.building_refusal-outcome.ensures) (n ∙ served _ _ c.in-Ok.is) _ c.start.ensures
