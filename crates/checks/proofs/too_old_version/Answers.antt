-- The floor decides, then 120, and below it only 110 is taken.
use mathlib.Core.Path.{sym, ◌∙◌}
use borrow.Author.Tests.{lt-ltb, le-ltb}
use Rattle.ground.proofs.Choices.{fails_left, decides, either_left, either_decides}
use Rattle.ground.proofs.Bools.{not-fails, either_none}
use Rattle.checks.specs.Checks.{too_old_version}
use Rattle.checks.proofs.too_old_version.Goals as goal

pub returns-then-version-floor : goal.returns-then-version-floor
unfolding too_old_version
returns-then-version-floor c = sym (either_left _ _ (lt-ltb _ _ c.if-version-floor.true))

pub returns-then-version-ge120 : goal.returns-then-version-ge120
unfolding too_old_version
returns-then-version-ge120 c = sym (either_none _ _ (le-ltb _ _ c.if-version-floor.false) (fails_left _ _ (le-ltb _ _ c.if-version-ge120.true)))

pub returns : goal.returns
unfolding too_old_version
returns c =
    not-fails _ ∙ sym (either_decides _ _ (le-ltb _ _ c.if-version-floor.false) ∙ decides _ _ (lt-ltb _ _ c.if-version-ge120.false))
