-- The fields passed are not broken, so the rest decides.
use mathlib.Core.Path.{refl, sym}
use native.Mathlib.Omega.{arith}
use Rattle.message.proofs.Places.{narrow}
use Rattle.desk_form.proofs.Places.{placed, lent_field}
use Rattle.desk_form.proofs.Tests.{within, numbered, stops, goes_on, ends}
use Rattle.desk_form.proofs.first_broken.Goals as goal

pub loop-i-init : goal.loop-i-init
loop-i-init c = (omega arith, refl)

pub number_of-number-requires : goal.number_of-number-requires
number_of-number-requires c = within _ _ _ c.count_of-count.ensures c.loop-i-test.true

pub span-requires : goal.span-requires
span-requires c =
    let h = within _ _ _ c.count_of-count.ensures c.loop-i-test.true in
    (omega arith, omega (arith, h))

pub is_broken-requires : goal.is_broken-requires
is_broken-requires c =
    let h = within _ _ _ c.count_of-count.ensures c.loop-i-test.true in
    rw (c.number_of-number.ensures, c.span.ensures, placed _ _ h) (narrow _ _)

pub returns-then-is_broken : goal.returns-then-is_broken
returns-then-is_broken c =
    let count = c.count_of-count.ensures in
    let here = c.loop-i-test.true in
    let text = lent_field _ _ _ _ (within _ _ _ count here) c.number_of-number.ensures c.span.ensures in
    stops _ _ _ _ _ _ count c.loop-i.invariant.1 here _ _ (numbered _ _ _ count here _ c.number_of-number.ensures)
    (c.is_broken.ensures _ text (sym c.encloses_key-enclosed.ensures) (sym c.is_blank_over-blank_over.ensures))
    c.if-is_broken.true

pub loop-i-preserved : goal.loop-i-preserved
loop-i-preserved c =
    let count = c.count_of-count.ensures in
    let here = c.loop-i-test.true in
    let text = lent_field _ _ _ _ (within _ _ _ count here) c.number_of-number.ensures c.span.ensures in (
      omega arith,
      goes_on _ _ _ _ _ _ count c.loop-i.invariant.1 here _ _ (numbered _ _ _ count here _ c.number_of-number.ensures)
          (c.is_broken.ensures _ text (sym c.encloses_key-enclosed.ensures)
          (sym c.is_blank_over-blank_over.ensures))
          c.if-is_broken.false,
    )

pub returns : goal.returns
returns c =
    ends _ _ _ _ _ _ c.count_of-count.ensures c.loop-i.invariant.1 c.loop-i-test.false
