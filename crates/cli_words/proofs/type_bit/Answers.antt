-- A text of no character, of two that don't begin with 1, or of more is no type.
use Rattle.std.proofs.Common.{sym, arith}
use Rattle.cli_words.proofs.Bits.{no_text, other_first, longer}
use Rattle.cli_words.proofs.type_bit.Goals as goal

pub returns-in_default-clause-bit : goal.returns-in_default-clause-bit
returns-in_default-clause-bit c = sym (no_text _ c.in_default.len_below)

pub returns-in_default-2-clause-bit : goal.returns-in_default-2-clause-bit
returns-in_default-2-clause-bit c = sym (other_first _ (omega arith) (λ e. omega arith))

pub returns-in_default-3-clause-bit : goal.returns-in_default-3-clause-bit
returns-in_default-3-clause-bit c = sym (longer _ c.in_default.len_at_least)
