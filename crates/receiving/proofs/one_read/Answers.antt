-- A read takes no more than it was given, and its reply is noted at the place that it reached.
use native.Mathlib.Omega.{arith}
use Rattle.receiving.proofs.Calling.{called_read, read_fits}
use Rattle.receiving.proofs.one_read.Goals as goal

pub overflow_add-reached : goal.overflow_add-reached
overflow_add-reached c =
    let p = c.requires in
    omega (arith, (read_fits _ _ _ p.0 c.read-a.ensures).0, p.1)

pub note-more-requires : goal.note-more-requires
note-more-requires c =
    let p = c.requires in
    ((read_fits _ _ _ p.0 c.read-a.ensures).1, p.2)

pub returns : goal.returns
returns c =
    called_read _ _ _ _ _ c.read-a.ensures c.note-more.ensures
