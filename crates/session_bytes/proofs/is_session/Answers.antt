-- The length, and the layout's tests, one after the other.
use Rattle.std.proofs.Common.{rules}
use Rattle.session_bytes.proofs.Tests.{session_test}
use Rattle.session_bytes.proofs.is_session.Goals as goal

pub returns-then-is_flag-6 : goal.returns-then-is_flag-6
returns-then-is_flag-6 c = rw (session_test c.args.b.now (λ k. (c.type_inv.b k).fits)) (search rules)

pub returns-else-is_flag-6 : goal.returns-else-is_flag-6
returns-else-is_flag-6 c = rw (session_test c.args.b.now (λ k. (c.type_inv.b k).fits)) (search rules)
