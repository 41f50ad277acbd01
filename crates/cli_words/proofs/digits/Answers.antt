-- Each test is one of the form, and the number is read where all hold.
use Rattle.std.proofs.Common.{sym, ◌∙◌, arith}
use Rattle.std.proofs.lemmas.Grind.{common_steps}
use Rattle.cli_words.proofs.Numbers.{too_short, too_long, no_digits, too_big, is_number}
use Rattle.cli_words.proofs.digits.Goals.{else-contains-via-then-contains+else-all_digits, else-contains-via-else-contains}
use Rattle.cli_words.proofs.digits.Goals as goal

pub returns-then-all_digits : goal.returns-then-all_digits
returns-then-all_digits c =
    grind (arith, common_steps, too_big c.args.low c.args.high c.args.s.now, is_number c.args.low c.args.high c.args.s.now)

pub returns-else-contains : goal.returns-else-contains
returns-else-contains c = elim c.else-contains.branch [
  | else-contains-via-then-contains+else-all_digits w ↦
      sym (no_digits _ _ _ (sym w.all_digits.ensures ∙ w.if-all_digits.false))
  | else-contains-via-else-contains w ↦
      grind (arith, common_steps, too_short c.args.low c.args.high c.args.s.now, too_long c.args.low c.args.high c.args.s.now)
]
