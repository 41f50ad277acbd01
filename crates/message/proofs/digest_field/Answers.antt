-- The span is the field, whose hex digits are read whole.
use lib.Dec.{lit≤}
use Rattle.ground.specs.Choice.{pick}
use Rattle.message.specs.Layout.{field_text, offset_in, width_in, total}
use Rattle.message.specs.Fields.{digest_field_of}
use Rattle.message.proofs.Places.{hexed}
use Rattle.message.proofs.digest_field.Goals as goal

pub returns : goal.returns
unfolding digest_field_of field_text offset_in width_in total pick
returns c = hexed 128 16 _ _ c.span.ensures _ (lit≤ tt) c.hex_number.ensures
