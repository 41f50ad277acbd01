-- The dates kept so far and what the lines that are left say make the whole; at most 201 lines are looked at.
use Rattle.std.proofs.Common.{◌≡◌, ◌+◌, ◌<◌, length, sym, ◌∙◌, subst, arith, ℕ, List, refl, slice_set}
use Rattle.std.proofs.lemmas.Grind.{common_steps}
use Rattle.cli_words.specs.Forms.{holidays_of}
use Rattle.cli_words.proofs.Days.{rest, Sofar, one_more, one_bad, looked, ends, is_full, left_is}
use Rattle.cli_words.proofs.holidays.Goals as goal

pub returns-then-is_empty : goal.returns-then-is_empty
unfolding holidays_of
returns-then-is_empty c =
    let e : length c.loop-count.left.now ≡ 0 = grind (arith, common_steps) in
    ends _ _ _ _ e c.loop-count.invariant.0 c.loop-count.invariant.1

pub returns-in_default : goal.returns-in_default
unfolding holidays_of
returns-in_default c =
    let n : 0 < length c.loop-count.left.now = grind (arith, common_steps) in
    one_bad _ _ _ _ c.loop-count.invariant.0
    (looked _ _ _ _ _ _ _ n c.loop-count-test.true c.first_part.ensures.rest c.first_part.ensures.part
    (sym c.in_default.is ∙ c.date_in.ensures) c.loop-count.invariant.1)

pub loop-count-preserved : goal.loop-count-preserved
loop-count-preserved c =
    let n : 0 < length c.loop-count.left.now = grind (arith, common_steps) in (
      omega arith,
      subst (λ (l : List ℕ). Sofar (rest c.args.s.now 0) (rest l (c.loop-count.count + 1)) (slice_set c.loop-count.dates c.loop-count.count c.in-Some.date) (c.loop-count.count + 1))
          (left_is c.first_part.result.1 _ _ c.unwrap_or-left.ensures refl)
          (one_more _ _ _ _ _ c.loop-count-test.true
          (looked _ _ _ _ _ _ _ n c.loop-count-test.true c.first_part.ensures.rest c.first_part.ensures.part
          (sym c.in-Some.is ∙ c.date_in.ensures) c.loop-count.invariant.1)),
    )

pub returns : goal.returns
unfolding holidays_of
returns c = is_full _ _ _ _ c.loop-count.invariant.0 c.loop-count-test.false c.loop-count.invariant.1
