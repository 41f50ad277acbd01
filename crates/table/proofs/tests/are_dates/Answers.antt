-- Both are tested.
use Rattle.std.proofs.Common.{rules}
use Rattle.ground.proofs.Std.{both_is}
use Rattle.table.specs.Tests.{ok_dates}
use Rattle.table.proofs.tests.are_dates.Goals as goal

pub returns-then-are_real : goal.returns-then-are_real
unfolding ok_dates
returns-then-are_real c = rw both_is (search rules)

pub returns-else-are_real : goal.returns-else-are_real
unfolding ok_dates
returns-else-are_real c = rw both_is (search rules)
