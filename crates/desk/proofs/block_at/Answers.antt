-- Sixteen digits are read whole.
use lib.Dec.{lit≤}
use Rattle.message.proofs.Places.{hexed}
use Rattle.desk.proofs.Replies.{span_of}
use Rattle.desk.proofs.block_at.Goals as goal

pub returns : goal.returns
returns c = hexed _ 16 _ _ (span_of _ 16 _ _ c.between.ensures) _ (lit≤ tt) c.hex_number.ensures
