-- The number is tested against both ends of its range.
use Rattle.std.proofs.Common.{sym, ◌∙◌, arith}
use Rattle.cli_words.proofs.Numbers.{no_number, too_low, too_high, within}
use Rattle.cli_words.proofs.read_size.Goals as goal

pub returns-in-Some-1-to-65536 : goal.returns-in-Some-1-to-65536
returns-in-Some-1-to-65536 c =
    within _ _ (sym c.digits.ensures ∙ c.in-Some-1-to-65536.is) (omega arith) (omega arith)

pub returns-in_default : goal.returns-in_default
returns-in_default c =
    let e = sym c.digits.ensures ∙ c.in_default.is in
    grind (arith, too_low _ _ e, too_high _ _ e)

pub returns-in_default-2 : goal.returns-in_default-2
returns-in_default-2 c =
    let e = sym c.digits.ensures ∙ c.in_default.is in
    grind (arith, too_low _ _ e, too_high _ _ e)

pub returns-in_default-3 : goal.returns-in_default-3
returns-in_default-3 c = no_number _ (sym c.digits.ensures ∙ c.in_default.is)
