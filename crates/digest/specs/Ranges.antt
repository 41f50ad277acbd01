-- The ranges of a digest's numbers.
-- Assumes nothing.
use Rattle.std.specs.Prelude.{◌^◌, ◌<◌}
use Rattle.digest.specs.declared.State.{State}
use Rattle.digest.specs.declared.Running.{Running}

-- the words of a digest's state fit eight bytes each
pub record StateFits (s : State) : Type 0 where
  pub chain_fits : s.chain < 2 ^ 64
  pub block_fits : s.block < 2 ^ 64
  pub count_fits : s.n < 2 ^ 64

pub record RunningFits (r : Running) : Type 0 where
  pub start_fits : StateFits r.start
  pub solid_fits : StateFits r.solid
  pub last_fits : StateFits r.last
