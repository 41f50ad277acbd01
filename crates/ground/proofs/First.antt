-- What the first that passes says: it is at the head or among the rest.
-- Assumes nothing.
use mathlib.Core.Path.{◌≡◌}
use mathlib.Core.Bool.{Bool, true, false}
use mathlib.Core.List.{List, ◌∷◌}
use Rattle.ground.specs.First.{first_that}
use Rattle.ground.proofs.Choices.{picks, skips}

module _ {A B : Type 0} (passes : A → Bool) (gives : A → B) (none : B) where
  pub first_here : (x : A) (l : List A) → passes x ≡ true → first_that passes gives none (x ∷ l) ≡ gives x
  unfolding first_that
  first_here x l e = picks _ _ _ e

  pub first_later : (x : A) (l : List A) → passes x ≡ false
      → first_that passes gives none (x ∷ l) ≡ first_that passes gives none l
  unfolding first_that
  first_later x l e = skips _ _ _ e
