-- The fields are compared in their order.
use mathlib.Core.Path.{refl, ap, ◌∙◌}
use Rattle.ground.specs.Choice.{pick}
use Rattle.message.specs.Layout.{field_text, offset_in, width_in}
use Rattle.message.specs.Order.{first_failing}
use Rattle.message.specs.Fields.{receiver_of, sender_of, stamp_text_of}
use Rattle.checks.proofs.Order.{made, more}
use Rattle.desk.specs.Desk.{batch_sent_checks}
use Rattle.desk.proofs.batch_faults.Goals as goal

pub returns : goal.returns
unfolding batch_sent_checks receiver_of sender_of stamp_text_of field_text offset_in width_in pick
returns c =
    c.first_failing.ensures
    ∙ ap first_failing
    (more (made c.of_field.ensures c.differs.ensures)
    (more (made c.of_field-2.ensures c.differs-2.ensures)
    (more (made c.of_field-3.ensures c.differs-3.ensures)
    (more (made c.of_field-4.ensures c.differs-4.ensures)
    (more (made c.of_field-5.ensures c.differs-5.ensures)
    (more (made c.new.ensures c.differs-6.ensures) refl))))))
