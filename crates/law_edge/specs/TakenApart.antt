-- What the number that lp_read or lp_end returned says, taken apart as include/lentilpot.h does.
-- Assumes nothing.
use Rattle.std.specs.Prelude.{ℕ, ◌≡◌}
use Rattle.calls.specs.declared.Answer.{Answer}
use Rattle.edge.specs.Edge.{taken_in, length_in, finished_in, refusal_in}

-- p says the answer a
pub record Apart (p : ℕ) (a : Answer) : Type 0 where
  pub taken_is : taken_in p ≡ a.taken
  pub length_is : length_in p ≡ a.length
  pub finished_is : finished_in p ≡ a.finished
  pub refusal_is : refusal_in p ≡ a.refusal
