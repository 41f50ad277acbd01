-- Each number of the list is a case, and no other is.
use mathlib.Core.Path.{refl, ◌∙◌}
use mathlib.Core.List.{List, [], ◌∷◌}
use Prim.Native.Nat.{ℕ}
use mathlib.Core.Logic.{⊎_elim, inl, inr}
use Rattle.ground.specs.Choice.{either}
use Rattle.ground.specs.Lists.{member}
use Rattle.message.proofs.Tests.{made, not_made}
use Rattle.message.proofs.digits_hold.Goals as goal

abbrev digits : List ℕ
digits = 2 ∷ 3 ∷ 5 ∷ 10 ∷ 11 ∷ 12 ∷ []

pub returns-in-2 : goal.returns-in-2
unfolding member either
returns-in-2 c =
    c.all_digits.ensures
    ∙ ⊎_elim (made digits _ refl _ _ 2 refl)
    (⊎_elim (made digits _ refl _ _ 5 refl) (⊎_elim (made digits _ refl _ _ 10 refl) (made digits _ refl _ _ 12 refl)))
    c.in-2.is

pub returns-in-3 : goal.returns-in-3
unfolding member either
returns-in-3 c = c.all_digits-in-3.ensures ∙ ⊎_elim (made digits _ refl _ _ 3 refl) (made digits _ refl _ _ 11 refl) c.in-3.is

pub returns-in_default : goal.returns-in_default
returns-in_default c =
    not_made digits _ refl _ _ (
      λ e. c.in_default.in_default-own.rest.0.1 (inl e),
      (
        λ e. c.in_default.in_default-own.rest.1 (inl e),
        (
          λ e. c.in_default.in_default-own.rest.0.1 (inr (inl e)),
          (
            λ e. c.in_default.in_default-own.rest.0.1 (inr (inr (inl e))),
            (
              λ e. c.in_default.in_default-own.rest.1 (inr e),
              (
                λ e. c.in_default.in_default-own.rest.0.1 (inr (inr (inr e))),
                tt,
              ),
            ),
          ),
        ),
      ),
    )
