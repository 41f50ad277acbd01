-- The stamp is compared.
use mathlib.Core.Path.{refl, ap, ◌∙◌}
use Rattle.ground.specs.Choice.{pick}
use Rattle.message.specs.Layout.{offset_in}
use Rattle.message.specs.Order.{first_failing}
use Rattle.message.specs.Fields.{stamp_text_of}
use Rattle.checks.proofs.Order.{made, more}
use Rattle.desk.specs.Desk.{stamp_sent_checks}
use Rattle.desk.proofs.stamp_faults.Goals as goal

pub returns : goal.returns
unfolding stamp_sent_checks stamp_text_of offset_in pick
returns c = c.first_failing.ensures ∙ ap first_failing (more (made c.new.ensures c.differs.ensures) refl)
