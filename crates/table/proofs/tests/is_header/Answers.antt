-- Each number of the header is tested.
use Rattle.std.proofs.Common.{rules}
use Rattle.table.proofs.Exact.{header_test}
use Rattle.table.proofs.tests.is_header.Goals as goal

pub returns-then-read4-holidays : goal.returns-then-read4-holidays
returns-then-read4-holidays c = rw (header_test c.args.t.now) (search rules)

pub returns-else-read4-holidays : goal.returns-else-read4-holidays
returns-else-read4-holidays c = rw (header_test c.args.t.now) (search rules)
