-- Both are tested.
use Rattle.std.proofs.Common.{rules}
use Rattle.ground.proofs.Std.{both_is}
use Rattle.table.specs.Tests.{ok_record}
use Rattle.table.proofs.tests.is_customer.Goals as goal

pub returns-then-is_sound_at : goal.returns-then-is_sound_at
unfolding ok_record
returns-then-is_sound_at c = rw both_is (search rules)

pub returns-else-is_sound_at : goal.returns-else-is_sound_at
unfolding ok_record
returns-else-is_sound_at c = rw both_is (search rules)
