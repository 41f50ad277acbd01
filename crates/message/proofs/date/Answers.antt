-- The span is the field, whose digits are read whole.
use mathlib.Core.Path.{ap}
use lib.Dec.{lit≤}
use Rattle.ground.specs.Choice.{pick}
use Rattle.calendar.specs.Dates.{dated}
use Rattle.message.specs.Layout.{field_text, offset_in, width_in, total}
use Rattle.message.specs.Fields.{date_of_stamp}
use Rattle.message.proofs.Places.{numbered, fitting}
use Rattle.message.proofs.date.Goals as goal

pub overflow_cast-result : goal.overflow_cast-result
unfolding total
overflow_cast-result c = record { fits = fitting 87 6 _ _ c.span.ensures _ (lit≤ tt) c.number.ensures }

pub returns : goal.returns
unfolding date_of_stamp field_text offset_in width_in total pick
returns c = ap dated (numbered 87 6 _ _ c.span.ensures _ (lit≤ tt) c.number.ensures)
