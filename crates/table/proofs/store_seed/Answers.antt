-- The seed is written where it stands, if the length is right.
use mathlib.Core.Path.{sym, ◌∙◌}
use borrow.Author.Tests.{ne_eqb, eq-eqb}
use Rattle.ground.proofs.Choices.{picks, skips}
use Rattle.table.specs.Stored.{seed_stored}
use native.Mathlib.Omega.{arith}
use Rattle.table.proofs.Stores.{splice-put}
use Rattle.table.proofs.store_seed.Goals as goal

pub returns-else-t-eq-SIZE : goal.returns-else-t-eq-SIZE
unfolding seed_stored
returns-else-t-eq-SIZE c = sym (skips _ _ _ (ne_eqb _ _ c.if-t-eq-SIZE.false))

pub returns-then-t-eq-SIZE : goal.returns-then-t-eq-SIZE
unfolding seed_stored
returns-then-t-eq-SIZE c = c.write8.ensures ∙ splice-put 8 74 _ _ (omega (arith, c.if-t-eq-SIZE.true))
    ∙ sym (picks _ _ _ (eq-eqb _ _ c.if-t-eq-SIZE.true))
