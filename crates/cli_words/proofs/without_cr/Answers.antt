-- The last byte is tested; an empty line has none.
use Rattle.std.proofs.Common.{sym, arith, eq-eqb, ne_eqb}
use Rattle.ground.proofs.Choices.{picks, skips}
use Rattle.cli_words.specs.Forms.{without_cr}
use Rattle.cli_words.proofs.Lines.{empty_line}
use Rattle.cli_words.proofs.without_cr.Goals as goal

pub returns-in-13 : goal.returns-in-13
unfolding without_cr
returns-in-13 c = sym (picks _ _ _ (eq-eqb _ _ (omega arith)))

pub returns-in_default : goal.returns-in_default
returns-in_default c = sym (empty_line _ (omega arith))

pub returns-in_default-2 : goal.returns-in_default-2
unfolding without_cr
returns-in_default-2 c = sym (skips _ _ _ (ne_eqb _ _ (λ e. omega arith)))
