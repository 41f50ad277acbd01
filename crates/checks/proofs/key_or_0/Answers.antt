-- A key is itself, and none is 0.
use Rattle.std.specs.Prelude.{ℕ, Option, Some, None, unwrap_or}
use mathlib.Core.Path.{◌≡◌, refl, ◌∙◌}
use Rattle.checks.specs.Checks.{key_or0}
use Rattle.checks.proofs.key_or_0.Goals as goal

or_zero : (k : Option ℕ) → unwrap_or k 0 ≡ key_or0 k
unfolding key_or0
or_zero None = refl
or_zero (Some key) = refl

pub returns : goal.returns
returns c = c.unwrap_or.ensures ∙ or_zero c.args.k
