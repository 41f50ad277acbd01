-- Zero bytes say no customer; where there is room the bytes are exact or not, and then the customer's tests decide.
use Rattle.std.proofs.Common.{rules}
use Rattle.customer_bytes.proofs.Laws.{sound_at}
use Rattle.customer_bytes.proofs.is_sound_at.Goals as goal

pub returns-then-is_exact : goal.returns-then-is_exact
returns-then-is_exact c = rw (sound_at c.args.at c.args.t.now (λ k. (c.type_inv.t k).fits)) (search rules)

pub returns-else-is_exact : goal.returns-else-is_exact
returns-else-is_exact c = rw (sound_at c.args.at c.args.t.now (λ k. (c.type_inv.t k).fits)) (search rules)
