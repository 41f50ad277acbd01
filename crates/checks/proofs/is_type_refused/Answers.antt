-- There is no type 0, past 32 bits there is none either, and else the type's bit is read.
use native.Mathlib.Omega.{arith}
use Rattle.checks.proofs.Faults.{type_zero, type_read, type_none}
use Rattle.checks.proofs.is_type_refused.Goals as goal

pub returns-then-n-eq0 : goal.returns-then-n-eq0
returns-then-n-eq0 c = rw c.if-n-eq0.true (type_zero _)

pub returns-then-n-gt32 : goal.returns-then-n-gt32
returns-then-n-gt32 c = type_none _ _ (omega arith) c.if-n-gt32.true

pub returns : goal.returns
returns c = type_read _ _ (omega arith)
