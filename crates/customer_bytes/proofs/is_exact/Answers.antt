-- Two flags and two previous keys are tested.
use Rattle.std.proofs.Common.{rules}
use Rattle.customer_bytes.proofs.Laws.{customer_test}
use Rattle.customer_bytes.proofs.is_exact.Goals as goal

pub returns-then-is_exact_previous : goal.returns-then-is_exact_previous
returns-then-is_exact_previous c = rw (customer_test c.args.at c.args.t.now) (search rules)

pub returns-else-is_exact_previous : goal.returns-else-is_exact_previous
returns-else-is_exact_previous c = rw (customer_test c.args.at c.args.t.now) (search rules)
