-- By the number.
use mathlib.Core.Path.{sym, ap}
use native.Mathlib.Omega.{arith}
use Rattle.session_bytes.specs.Names.{place_numbered}
use Rattle.session_bytes.proofs.Fields.{place_rest}
use Rattle.session_bytes.proofs.place_numbered.Goals as goal

pub returns-in-0 : goal.returns-in-0
unfolding place_numbered
returns-in-0 c = sym (ap place_numbered c.in-0.is)

pub returns-in-1 : goal.returns-in-1
unfolding place_numbered
returns-in-1 c = sym (ap place_numbered c.in-1.is)

pub returns-in-2 : goal.returns-in-2
unfolding place_numbered
returns-in-2 c = sym (ap place_numbered c.in-2.is)

pub returns-in-3 : goal.returns-in-3
unfolding place_numbered
returns-in-3 c = sym (ap place_numbered c.in-3.is)

pub returns-in-4 : goal.returns-in-4
unfolding place_numbered
returns-in-4 c = sym (ap place_numbered c.in-4.is)

pub returns-in-5 : goal.returns-in-5
unfolding place_numbered
returns-in-5 c = sym (ap place_numbered c.in-5.is)

pub returns-in_default : goal.returns-in_default
returns-in_default c = sym (place_rest c.args.n (omega arith))
