-- Field 19 is deciphered under the transport key of field 10.
use mathlib.Core.Path.{ap, ap₂, ◌∙◌}
use Rattle.ground.specs.Choice.{pick}
use Rattle.message.specs.Layout.{field_text, offset_in, width_in}
use Rattle.message.specs.Fields.{transport_generation_of}
use Rattle.desk.specs.Held.{key_named}
use Rattle.desk.specs.Desk.{deciphering, enclosed_in}
use Rattle.desk.proofs.enclosed_in.Goals as goal

pub returns : goal.returns
unfolding enclosed_in transport_generation_of field_text offset_in width_in pick
returns c =
    c.deciphered_under.ensures
    ∙ ap₂ deciphering (c.named.ensures ∙ ap (key_named _) c.generation_at.ensures)
    c.block_at.ensures
