-- By the number.
use mathlib.Core.Path.{sym, ap}
use native.Mathlib.Omega.{arith}
use Rattle.session_bytes.specs.Names.{extent_numbered}
use Rattle.session_bytes.proofs.Fields.{extent_rest}
use Rattle.session_bytes.proofs.extent_numbered.Goals as goal

pub returns-in-0 : goal.returns-in-0
unfolding extent_numbered
returns-in-0 c = sym (ap extent_numbered c.in-0.is)

pub returns-in-1 : goal.returns-in-1
unfolding extent_numbered
returns-in-1 c = sym (ap extent_numbered c.in-1.is)

pub returns-in-2 : goal.returns-in-2
unfolding extent_numbered
returns-in-2 c = sym (ap extent_numbered c.in-2.is)

pub returns-in-3 : goal.returns-in-3
unfolding extent_numbered
returns-in-3 c = sym (ap extent_numbered c.in-3.is)

pub returns-in_default : goal.returns-in_default
returns-in_default c = sym (extent_rest c.args.n (omega arith))
