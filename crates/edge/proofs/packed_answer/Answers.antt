-- Each part stands at its bits.
use Rattle.edge.specs.Edge.{packed}
use Rattle.edge.proofs.packed_answer.Goals as goal

pub returns : goal.returns
unfolding packed
returns c = rw (
  c.taken_bits-taken.ensures.0,
  c.length_bits-length.ensures.0,
  c.one_of-finished.ensures.0,
  c.refusal_bits-refusal.ensures.0,
)
