-- The span is the field, whose digits are read whole.
use lib.Dec.{lit≤}
use Rattle.ground.specs.Choice.{pick}
use Rattle.message.specs.Layout.{field_text, offset_in, width_in, total}
use Rattle.message.specs.Fields.{transport_generation_of}
use Rattle.message.proofs.Places.{numbered, fitting}
use Rattle.message.proofs.transport_generation.Goals as goal

pub overflow_cast-result : goal.overflow_cast-result
unfolding total
overflow_cast-result c = record { fits = fitting 85 1 _ _ c.span.ensures _ (lit≤ tt) c.number.ensures }

pub returns : goal.returns
unfolding transport_generation_of field_text offset_in width_in total pick
returns c = numbered 85 1 _ _ c.span.ensures _ (lit≤ tt) c.number.ensures
