-- Each answer by the tests that led to it; the length's digits stand before the cut.
use native.Mathlib.Omega.{arith}
use Rattle.ground.specs.Lists.{part}
use borrow.Author.Tests.{not-true, not-false}
use Rattle.read_messages.proofs.Kept.{under_eleven, letters_in_it, other_length, its_length}
use Rattle.read_messages.proofs.extent_in.Goals as goal

pub returns-then-n-lt11 : goal.returns-then-n-lt11
returns-then-n-lt11 c = under_eleven _ c.args.count c.args.text (omega (arith, c.kept_count-n.ensures.0))

pub returns-then-not-all_digits : goal.returns-then-not-all_digits
unfolding part
returns-then-not-all_digits c =
    letters_in_it _ c.args.count c.args.text (omega (arith, c.kept_count-n.ensures.0)) _
    c.all_digits.ensures (not-true _ c.if-not-all_digits.true-raw)

pub returns-then-not-is_between : goal.returns-then-not-is_between
unfolding part
returns-then-not-is_between c =
    other_length _ c.args.count c.args.text (omega (arith, c.kept_count-n.ensures.0)) _
    c.all_digits.ensures (not-false _ c.if-not-all_digits.false-raw) _ c.number.ensures _
    c.length_of.ensures _ c.is_between.ensures (not-true _ c.if-not-is_between.true-raw)

pub returns : goal.returns
unfolding part
returns c =
    its_length _ c.args.count c.args.text (omega (arith, c.kept_count-n.ensures.0)) _
    c.all_digits.ensures (not-false _ c.if-not-all_digits.false-raw) _ c.number.ensures _
    c.length_of.ensures _ c.is_between.ensures (not-false _ c.if-not-is_between.false-raw)
