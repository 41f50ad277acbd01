-- Each test is one of the form, and the number is read where both hold.
use Rattle.std.proofs.Common.{Some, sym, ap, ◌∙◌, eq-eqb, ne_eqb}
use Rattle.ground.proofs.Choices.{picks, skips, join, fails_left, fails_right}
use Rattle.cli_words.specs.Forms.{block_of}
use Rattle.cli_words.proofs.hex_digits.Goals.{else-s-width-via-then-s-width+else-all_hex_digits, else-s-width-via-else-s-width}
use Rattle.cli_words.proofs.hex_digits.Goals as goal

pub returns-then-all_hex_digits : goal.returns-then-all_hex_digits
unfolding block_of
returns-then-all_hex_digits c =
    ap Some c.hex_number.ensures
    ∙ sym (picks _ _ _ (join _ _ (eq-eqb _ _ c.if-s-width.true) (sym c.all_hex_digits.ensures ∙ c.if-all_hex_digits.true)))

pub returns-else-s-width : goal.returns-else-s-width
unfolding block_of
returns-else-s-width c = elim c.else-s-width.branch [
  | else-s-width-via-then-s-width+else-all_hex_digits w ↦
      sym (skips _ _ _ (fails_right _ _ (sym w.all_hex_digits.ensures ∙ w.if-all_hex_digits.false)))
  | else-s-width-via-else-s-width w ↦
      sym (skips _ _ _ (fails_left _ _ (ne_eqb _ _ w.if-s-width.false)))
]
