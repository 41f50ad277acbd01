-- The day is written where it stands, if the length is right.
use mathlib.Core.Path.{sym, ◌∙◌}
use borrow.Author.Tests.{ne_eqb, eq-eqb}
use Rattle.ground.proofs.Choices.{picks, skips}
use Rattle.table.specs.Stored.{day_stored}
use native.Mathlib.Omega.{arith}
use Rattle.table.proofs.Stores.{splice-put}
use Rattle.table.proofs.store_day.Goals as goal

pub returns-else-t-eq-SIZE : goal.returns-else-t-eq-SIZE
unfolding day_stored
returns-else-t-eq-SIZE c = sym (skips _ _ _ (ne_eqb _ _ c.if-t-eq-SIZE.false))

pub returns-then-t-eq-SIZE : goal.returns-then-t-eq-SIZE
unfolding day_stored
returns-then-t-eq-SIZE c = c.write4.ensures ∙ splice-put 4 4 _ _ (omega (arith, c.if-t-eq-SIZE.true))
    ∙ sym (picks _ _ _ (eq-eqb _ _ c.if-t-eq-SIZE.true))
