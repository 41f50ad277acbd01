-- The count so far is the answer counted as often as it was asked.
use mathlib.Core.Path.{◌≡◌, sym, ap, ◌∙◌}
use native.Mathlib.Omega.{arith}
use Rattle.bench_table.specs.Counted.{counted}
use Rattle.bench_table.proofs.Steps.{none, held, failed}
use Rattle.bench_table.proofs.lp_bench_is_table.Goals.{else-is_table, then-is_table}
use Rattle.bench_table.proofs.lp_bench_is_table.Goals as goal

pub loop-init : goal.loop-init
loop-init c = (omega arith, none _)

pub loop-preserved : goal.loop-preserved
loop-preserved c = (
  elim c.if-is_table.branch [
    | then-is_table w ↦
        omega arith
    | else-is_table w ↦
        omega arith
  ],
  elim c.if-is_table.branch [
    | then-is_table w ↦
        w.n-is ∙ held _ _ _ (sym c.is_table.ensures ∙ w.if-is_table.true) c.loop.invariant.1
    | else-is_table w ↦
        w.n-is ∙ failed _ _ _ (sym c.is_table.ensures ∙ w.if-is_table.false) c.loop.invariant.1
  ],
)

pub returns : goal.returns
returns c =
    let e : c.loop.counter ≡ c.args.count = omega arith in
    c.loop.invariant.1 ∙ ap (counted _) e
