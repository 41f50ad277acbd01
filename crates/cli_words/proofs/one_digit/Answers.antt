-- The digit lies in its range, or the text is no type.
use Rattle.std.proofs.Common.{Some, sym, ap, ◌∙◌, arith}
use Rattle.ground.proofs.Choices.{picks, skips, between_below, between_above, between_in}
use Rattle.cli_words.proofs.Bits.{counted, one_is}
use Rattle.cli_words.proofs.one_digit.Goals as goal

pub returns-in-49-to-57-clause-bit : goal.returns-in-49-to-57-clause-bit
unfolding counted
returns-in-49-to-57-clause-bit c =
    ap Some (omega arith) ∙ sym (one_is _ c.ranges.c.fits ∙ picks _ _ _ (between_in 0x31 0x39 c.args.c (omega arith) (omega arith)))

pub returns-in_default-clause-bit : goal.returns-in_default-clause-bit
unfolding counted
returns-in_default-clause-bit c = sym (one_is _ c.ranges.c.fits ∙ skips _ _ _ (between_below 0x31 0x39 c.args.c (omega arith)))

pub returns-in_default-2-clause-bit : goal.returns-in_default-2-clause-bit
unfolding counted
returns-in_default-2-clause-bit c = sym (one_is _ c.ranges.c.fits ∙ skips _ _ _ (between_above 0x31 0x39 c.args.c (omega arith)))
