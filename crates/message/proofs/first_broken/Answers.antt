-- The fields passed all hold, so the rest decides.
use mathlib.Core.Path.{refl, sym}
use Prim.Native.Nat.{◌<◌}
use native.Mathlib.Omega.{arith}
use borrow.Author.Tests.{not-true, not-false}
use Rattle.message.proofs.Places.{placed, narrow}
use Rattle.message.proofs.Tests.{few, lent_field, stops, goes_on, ends}
use Rattle.message.proofs.first_broken.Goals as goal

pub loop-i-init : goal.loop-i-init
loop-i-init c = (omega arith, refl)

pub number_of-number-requires : goal.number_of-number-requires
number_of-number-requires c =
    omega (arith, few c.args.k, c.count_of-count.ensures)

pub overflow_add-i : goal.overflow_add-i
overflow_add-i c =
    omega (arith, few c.args.k, c.count_of-count.ensures)

pub span-requires : goal.span-requires
span-requires c = (
  omega arith,
  omega (arith, few c.args.k, c.count_of-count.ensures),
)

pub passes-requires : goal.passes-requires
passes-requires c =
    let h : c.loop-i.i < 22 = omega (
      arith,
      few c.args.k,
      c.count_of-count.ensures,
    ) in
    rw (c.number_of-number.ensures, c.span.ensures, placed _ _ h) (narrow _ _)

pub returns-then-not-passes : goal.returns-then-not-passes
returns-then-not-passes c =
    let h : c.loop-i.i < 22 = omega (
      arith,
      few c.args.k,
      c.count_of-count.ensures,
    ) in
    stops _ _ _ _ _ _ c.count_of-count.ensures
    c.loop-i.invariant.1 c.loop-i-test.true _ _
    c.number_of-number.ensures
    (c.passes.ensures _ (lent_field _ _ _ _ h c.number_of-number.ensures c.span.ensures)
    (sym c.is_exact-exact.ensures))
    (not-true _ c.if-not-passes.true-raw)

pub loop-i-preserved : goal.loop-i-preserved
loop-i-preserved c =
    let h : c.loop-i.i < 22 = omega (
      arith,
      few c.args.k,
      c.count_of-count.ensures,
    ) in (
      omega arith,
      goes_on _ _ _ _ _ _ c.count_of-count.ensures
          c.loop-i.invariant.1 c.loop-i-test.true _ _
          c.number_of-number.ensures
          (c.passes.ensures _ (lent_field _ _ _ _ h c.number_of-number.ensures
          c.span.ensures)
          (sym c.is_exact-exact.ensures))
          (not-false _ c.if-not-passes.false-raw),
    )

pub returns : goal.returns
returns c = ends _ _ _ _ _ _ c.count_of-count.ensures c.loop-i.invariant.1 c.loop-i-test.false
