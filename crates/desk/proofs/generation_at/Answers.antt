-- A character is read whole.
use lib.Dec.{lit≤}
use Rattle.message.proofs.Places.{numbered, fitting}
use Rattle.desk.proofs.Replies.{span_of}
use Rattle.desk.proofs.generation_at.Goals as goal

pub overflow_cast-result : goal.overflow_cast-result
overflow_cast-result c =
    record { fits = fitting _ 1 _ _ (span_of _ 1 _ _ c.between.ensures) _ (lit≤ tt) c.number.ensures }

pub returns : goal.returns
returns c = numbered _ 1 _ _ (span_of _ 1 _ _ c.between.ensures) _ (lit≤ tt) c.number.ensures
