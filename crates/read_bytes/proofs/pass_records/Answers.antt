-- Each turn passes one whole record more.
use mathlib.Core.Path.{refl, ap, ◌∙◌}
use native.Mathlib.Omega.{arith}
use Rattle.ground.proofs.Bools.{passed}
use Rattle.digest.specs.Running.{ended}
use Rattle.digest.proofs.Batches.{ended_last}
use Rattle.read_bytes.specs.Passes.{Whole, none, more}
use Rattle.read_bytes.proofs.Passing.{whole_on}
use Rattle.read_bytes.proofs.pass_records.Lts as lts
use Rattle.read_bytes.proofs.pass_records.Reads as reads
use Rattle.read_bytes.proofs.pass_records.Tie as tie
use Rattle.read_bytes.proofs.pass_records.Goals as goal

abbrev Else1 : Type 0
Else1 = lts.Else1 tie.the-claims reads.Pre reads.Post goal.the-invariant-loop-at goal.the-decreases-loop-at

-- the record that was tested
whole : (c : Else1) → Whole c.args.input.now c.loop-at.at c.loop-at.size c.run_end-end.result
    c.lf_place-to.result
whole c = c.is_whole.ensures (passed refl c.if-not-is_whole.false-raw)

pub loop-at-init : goal.loop-at-init
loop-at-init c = (c.requires, none)

pub loop-at-preserved : goal.loop-at-preserved
loop-at-preserved c =
    let w = whole c.before.before.before.before in (
      omega (arith, w.within),
      more c.loop-at.invariant.1 _ _ w (c.end_record-running.ensures ∙ ap (ended _) c.run_last.ensures ∙ ended_last _ _ _ _) refl,
    )

pub lf_place-to-requires : goal.lf_place-to-requires
lf_place-to-requires c = c.run_end-end.ensures.within

pub is_whole-requires : goal.is_whole-requires
is_whole-requires c = (c.run_end-end.ensures, c.lf_place-to.ensures)

pub slice_bounds-run_last-count : goal.slice_bounds-run_last-count
slice_bounds-run_last-count c = omega (arith, (whole c.before).some)

pub slice_bounds-run_last-start : goal.slice_bounds-run_last-start
slice_bounds-run_last-start c = omega (arith, (whole c.before).some)

pub slice_bounds-run_last-end : goal.slice_bounds-run_last-end
slice_bounds-run_last-end c = omega (arith, (whole c.before).some, c.run_end-end.ensures.within)

pub overflow_sub-size : goal.overflow_sub-size
overflow_sub-size c = omega (arith, whole_on (whole c.before.before.before.before))

pub overflow_cast-size : goal.overflow_cast-size
overflow_cast-size c = omega (arith, (whole c.before.before.before.before).fits)

pub overflow_add-size : goal.overflow_add-size
overflow_add-size c = omega (arith, (whole c.before.before.before.before).fits)

pub overflow_add-size-in-loop-at : goal.overflow_add-size-in-loop-at
overflow_add-size-in-loop-at c = omega (arith, (whole c.before.before.before.before).fits)

pub overflow_add-at : goal.overflow_add-at
overflow_add-at c = omega (arith, (whole c.before.before.before.before).within, c.well_formed.1.1.1.1.1.0.1)

pub loop-at-smaller : goal.loop-at-smaller
loop-at-smaller c = omega (arith, whole_on (whole c.before.before.before.before), (whole c.before.before.before.before).within)

pub returns-after-loop-at : goal.returns-after-loop-at
returns-after-loop-at c = c.loop-at.invariant.1

pub returns-then-not-is_whole : goal.returns-then-not-is_whole
returns-then-not-is_whole c = c.loop-at.invariant.1
