-- Three numbers of eight bytes and a byte are looked at.
use Rattle.std.proofs.Common.{rules}
use Rattle.table.proofs.Names.{names_same}
use Rattle.table.proofs.parts.are_same.Goals as goal

pub returns-then-are_same8-3 : goal.returns-then-are_same8-3
returns-then-are_same8-3 c = rw (names_same c.args.t.now (λ i. (c.type_inv.t i).fits) c.args.a c.args.b c.requires.0 c.requires.1) (search rules)

pub returns-else-are_same8-3 : goal.returns-else-are_same8-3
returns-else-are_same8-3 c = rw (names_same c.args.t.now (λ i. (c.type_inv.t i).fits) c.args.a c.args.b c.requires.0 c.requires.1) (search rules)
