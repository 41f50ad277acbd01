-- The tests are made one after the other.
use Rattle.std.proofs.Common.{rules}
use Rattle.table.proofs.Exact.{table_test}
use Rattle.table.proofs.is_table.Goals as goal

pub returns-then-are_dates : goal.returns-then-are_dates
returns-then-are_dates c = rw (table_test c.args.t.now (λ k. (c.type_inv.t k).fits)) (search rules)

pub returns-else-are_dates : goal.returns-else-are_dates
returns-else-are_dates c = rw (table_test c.args.t.now (λ k. (c.type_inv.t k).fits)) (search rules)
