-- Each number of the kind's list is a case, and no other is.
use mathlib.Core.Path.{refl, ap, ◌∙◌}
use mathlib.Core.Logic.{⊎_elim, inl, inr}
use Rattle.ground.specs.Choice.{either}
use Rattle.ground.specs.Lists.{member}
use Rattle.message.specs.Rules.{hex_fields}
use Rattle.message.proofs.Tests.{made, not_made}
use Rattle.message.proofs.hex_holds.Goals as goal

pub returns-in-170 : goal.returns-in-170
unfolding hex_fields member either
returns-in-170 c = c.all_hex_digits.ensures ∙ made _ _ (ap hex_fields c.in-Esi.is) _ _ 170 refl
    c.in-170.is

pub returns-in_default : goal.returns-in_default
unfolding hex_fields
returns-in_default c = not_made _ _ (ap hex_fields c.in-Esi.is) _ _ (c.in_default.in_default-own.rest.1, tt)

pub returns-in-150 : goal.returns-in-150
unfolding hex_fields member either
returns-in-150 c = c.all_hex_digits-in-150.ensures ∙ made _ _ (ap hex_fields c.in-Suo.is) _ _ 150 refl
    c.in-150.is

pub returns-in_default-number : goal.returns-in_default-number
unfolding hex_fields
returns-in_default-number c = not_made _ _ (ap hex_fields c.in-Suo.is) _ _ (c.in_default-number.in_default-number-own.rest.1, tt)

pub returns-in-150-number : goal.returns-in-150-number
unfolding hex_fields member either
returns-in-150-number c =
    c.all_hex_digits-in-150-number.ensures
    ∙ ⊎_elim (made _ _ (ap hex_fields c.in-Var.is) _ _ 150 refl)
    (⊎_elim (made _ _ (ap hex_fields c.in-Var.is) _ _ 160 refl)
    (made _ _ (ap hex_fields c.in-Var.is) _ _ 170 refl))
    c.in-150-number.is

pub returns-in_default-number-2 : goal.returns-in_default-number-2
unfolding hex_fields
returns-in_default-number-2 c =
    not_made _ _ (ap hex_fields c.in-Var.is) _ _
    (λ e. c.in_default-number-2.in_default-number-2-own.rest.1 (inl e), (λ e. c.in_default-number-2.in_default-number-2-own.rest.1 (inr (inl e)), (λ e. c.in_default-number-2.in_default-number-2-own.rest.1 (inr (inr e)), tt)))
