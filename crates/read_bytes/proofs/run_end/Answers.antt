-- Each byte passed is neither LF nor CR, and the size limit has room for them all.
use native.Mathlib.Omega.{arith}
use Rattle.read_bytes.proofs.Plainly.{none_yet, one_more, run_to, no_run}
use borrow.Author.Rules.{rules}
use Rattle.read_bytes.proofs.run_end.Goals as goal

pub returns-then-l : goal.returns-then-l
returns-then-l c = no_run c.args.input.now c.args.from c.args.l (search rules) (search rules)

pub loop-end-init : goal.loop-end-init
loop-end-init c = (search rules, search rules, none_yet c.args.input.now c.args.from, search rules)

pub loop-end-preserved : goal.loop-end-preserved
loop-end-preserved c =
    let a = c.args in
    let l = c.loop-end in (
      omega arith,
      omega arith,
      one_more a.input.now a.from l.end l.invariant.0 c.loop-end-test.true l.invariant.2
          c.if-c-eq10.false c.if-c-eq13.false,
      omega arith,
    )

pub returns-after-loop-end : goal.returns-after-loop-end
returns-after-loop-end c =
    let a = c.args in
    let i = c.loop-end.invariant in
    run_to a.input.now a.from _ i.0 a.l i.1 i.2 i.3 (omega arith) c.if-l.false

pub returns-then-c-eq10 : goal.returns-then-c-eq10
returns-then-c-eq10 c =
    let a = c.args in
    let i = c.loop-end.invariant in
    run_to a.input.now a.from _ i.0 a.l i.1 i.2 i.3 (omega arith)
    c.if-l.false

pub returns-then-c-eq13 : goal.returns-then-c-eq13
returns-then-c-eq13 c =
    let a = c.args in
    let i = c.loop-end.invariant in
    run_to a.input.now a.from _ i.0 a.l i.1 i.2 i.3 (omega arith)
    c.if-l.false

pub returns-then-room-end : goal.returns-then-room-end
returns-then-room-end c =
    let a = c.args in
    let i = c.loop-end.invariant in
    run_to a.input.now a.from _ i.0 a.l i.1 i.2 i.3 (omega arith)
    c.if-l.false
