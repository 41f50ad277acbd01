-- The set so far and the types that are left give the whole.
use Rattle.std.proofs.Common.{refl, sym, ap, ◌∙◌, arith}
use Rattle.cli_words.specs.Forms.{with_types}
use Rattle.cli_words.proofs.Bits.{bits_left, to_go, takes_type, stops, shorter}
use Rattle.cli_words.proofs.listed.Goals as goal

pub loop-left-init : goal.loop-left-init
unfolding bits_left
loop-left-init c = refl

pub returns-in_err-set : goal.returns-in_err-set
unfolding bits_left
returns-in_err-set c =
    c.from_residual.ensures
    ∙ stops _ _ _ c.loop-left.set c.first_part.ensures.rest c.first_part.ensures.part (sym c.in_err-set.was ∙ c.type_bit.ensures.bit)
    ∙ sym (ap (λ x. with_types c.loop-left.set (bits_left x)) c.in-Some.is)
    ∙ c.loop-left.invariant

pub loop-left-smaller : goal.loop-left-smaller
unfolding to_go
loop-left-smaller c = omega (arith, ap to_go c.in-Some.is, shorter _ _ c.first_part.ensures.rest)

pub loop-left-preserved : goal.loop-left-preserved
unfolding bits_left
loop-left-preserved c =
    takes_type _ _ _ _ c.loop-left.set c.first_part.ensures.rest c.first_part.ensures.part
    (sym c.in_ok-set.was ∙ c.type_bit.ensures.bit) c.in_ok-set.ensures.small
    ∙ sym (ap (λ x. with_types c.loop-left.set (bits_left x)) c.in-Some.is)
    ∙ c.loop-left.invariant

pub returns : goal.returns
unfolding bits_left with_types
returns c =
    sym (ap (λ x. with_types c.loop-left.set (bits_left x)) c.in_default.is) ∙ c.loop-left.invariant
