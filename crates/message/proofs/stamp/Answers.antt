-- The span is the stamp, whose digits are read whole.
use lib.Dec.{lit≤}
use Rattle.ground.specs.Choice.{pick}
use Rattle.message.specs.Layout.{offset_in, total}
use Rattle.message.specs.Fields.{stamp_of, stamp_text_of}
use Rattle.message.proofs.Places.{numbered}
use Rattle.message.proofs.stamp.Goals as goal

pub returns : goal.returns
unfolding stamp_of stamp_text_of offset_in total pick
returns c = numbered 87 15 _ _ c.span.ensures _ (lit≤ tt) c.number.ensures
