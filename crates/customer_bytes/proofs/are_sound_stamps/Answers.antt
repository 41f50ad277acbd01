-- Four runs of numbers are tested.
use Rattle.std.proofs.Common.{rules}
use Rattle.customer_bytes.proofs.Stamps.{stamps_run}
use Rattle.customer_bytes.proofs.are_sound_stamps.Goals as goal

pub returns-then-are_zero : goal.returns-then-are_zero
returns-then-are_zero c = rw (stamps_run _ _ _ c.requires.0) (search rules)

pub returns-else-are_zero : goal.returns-else-are_zero
returns-else-are_zero c = rw (stamps_run _ _ _ c.requires.0) (search rules)
