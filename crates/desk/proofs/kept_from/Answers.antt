-- The working keys are those with the key that is enclosed.
use mathlib.Core.Path.{ap, ap₂, ◌∙◌}
use Rattle.ground.specs.Choice.{pick}
use Rattle.message.specs.Layout.{field_text, offset_in, width_in}
use Rattle.message.specs.Fields.{working_generation_of}
use Rattle.checks.specs.Checks.{key_or0}
use Rattle.desk.specs.Desk.{with_enclosed, kept_from}
use Rattle.desk.proofs.Desks.{with_working}
use Rattle.desk.proofs.kept_from.Goals as goal

pub returns : goal.returns
unfolding kept_from working_generation_of field_text offset_in width_in pick
returns c =
    ap (with_working c.args.h) (c.with_enclosed.ensures
    ∙ ap₂ (with_enclosed _) c.generation_at.ensures
    (c.key_or_0-key.ensures ∙ ap key_or0 c.enclosed_in.ensures))
