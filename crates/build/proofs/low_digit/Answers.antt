-- The last decimal digit.
use mathlib.Core.Path.{refl}
use Rattle.text.specs.Numbers.{decimal_digits}
use Rattle.build.proofs.low_digit.Goals as goal

pub returns : goal.returns
unfolding decimal_digits
returns c = refl
