-- The checks are made in their order.
use Rattle.std.specs.Prelude.{ℕ, Option}
use mathlib.Core.Path.{refl, ap, ◌∙◌}
use Rattle.ground.specs.Choice.{pick}
use Rattle.message.specs.Layout.{field_text, offset_in, width_in}
use Rattle.message.specs.Order.{first_failing}
use Rattle.message.specs.Fields.{working_generation_of}
use Rattle.checks.specs.Checks.{checksum_differs}
use Rattle.checks.proofs.Order.{made, more}
use Rattle.desk.specs.Held.{key_named}
use Rattle.desk.specs.Desk.{reply_key_checks}
use Rattle.desk.proofs.reply_key_faults.Goals as goal

pub returns : goal.returns
unfolding reply_key_checks working_generation_of field_text offset_in width_in pick
returns c =
    let key = c.named-key.ensures ∙ ap (key_named c.args.h.working) c.generation_at.ensures in
    c.first_failing.ensures
    ∙ ap first_failing
    (more (made c.of_field.ensures c.differs.ensures)
    (more (made c.of_field-2.ensures c.differs-2.ensures)
    (more (made c.new.ensures (c.checksum_differs.ensures ∙ ap (λ (k : Option ℕ). checksum_differs k c.args.r.now) key))
    (more (made c.new-2.ensures c.is_enclosed_even.ensures) refl))))
