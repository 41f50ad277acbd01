-- The first end is the last, or leaves one reply due, which the second gives.
use native.Mathlib.Omega.{arith}
use Rattle.receiving.proofs.Calling.{counts_one, ended_once, ended_good, ended_twice}
use Rattle.receiving.proofs.end_all.Goals as goal

pub returns-then-first : goal.returns-then-first
returns-then-first c =
    let all = ended_once _ _ c.requires.0 _ _ _ _ c.one_end-first.ensures c.if-first.true in
    record { adds = all.0; t_after = all.1 }

pub one_end-requires : goal.one_end-requires
one_end-requires c =
    let p = c.requires in (
      ended_good _ _ p.0 _ _ _ _ c.one_end-first.ensures c.if-first.false,
      omega (arith, counts_one c.one_end-first.ensures, p.1),
    )

pub returns : goal.returns
returns c =
    let all = ended_twice _ _ c.requires.0 _ _ _ _
    c.one_end-first.ensures c.one_end.ensures c.if-first.false in
    record { adds = all.0; t_after = all.1 }
