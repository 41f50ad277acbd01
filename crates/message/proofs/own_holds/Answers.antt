-- Each arm makes the test of the rule that names the field, and no rule names any other.
use mathlib.Core.Path.{refl, ◌∙◌}
use mathlib.Core.List.{[], ◌∷◌}
use mathlib.Core.Logic.{⊎_elim, inl, inr}
use Rattle.ground.specs.Choice.{both, either, fails}
use Rattle.text.specs.Characters.{all_blank}
use Rattle.text.specs.Letters.{letters}
use Rattle.message.specs.Rules.{one_of, own_rules, obeys}
use Rattle.message.proofs.Tests.{asked, unasked}
use Rattle.message.proofs.own_holds.Goals as goal

pub returns-in-130 : goal.returns-in-130
unfolding own_rules obeys both either fails
returns-in-130 c m q =
    c.all_blank.ensures
    ∙ ⊎_elim (λ e. asked own_rules _ _ _ m _ q c.in-Esi.is 130 all_blank e refl)
    (⊎_elim (λ e. asked own_rules _ _ _ m _ q c.in-Esi.is 150 all_blank e refl)
    (λ e. asked own_rules _ _ _ m _ q c.in-Esi.is 160 all_blank e refl))
    c.in-130.is

pub returns-in-180 : goal.returns-in-180
unfolding own_rules obeys both either fails
returns-in-180 c m q = c.request_holds.ensures ∙ asked own_rules _ _ _ m _ q c.in-Esi.is 180
    (one_of (letters "0" ∷ letters "1" ∷ letters "2" ∷ [])) c.in-180.is refl

pub returns-in_default : goal.returns-in_default
unfolding own_rules
returns-in_default c m q = unasked own_rules _ _ _ m c.in-Esi.is (
  λ e. c.in_default.in_default-own.rest.0.1 (inl e),
  (
    λ e. c.in_default.in_default-own.rest.0.1 (inr (inl e)),
    (
      λ e. c.in_default.in_default-own.rest.0.1 (inr (inr e)),
      (c.in_default.in_default-own.rest.1, tt),
    ),
  ),
)

pub returns-in-130-number : goal.returns-in-130-number
unfolding own_rules letters obeys both either fails
returns-in-130-number c m q =
    c.one_of.ensures
    ∙ asked own_rules _ _ _ m _ q c.in-Suo.is 130 (one_of (letters "S" ∷ letters "A" ∷ []))
    c.in-130-number.is refl

pub returns-in_default-number : goal.returns-in_default-number
unfolding own_rules
returns-in_default-number c m q = unasked own_rules _ _ _ m c.in-Suo.is (c.in_default-number.in_default-number-own.rest.1, tt)

pub returns-in-130-number-2 : goal.returns-in-130-number-2
unfolding own_rules letters obeys both either fails
returns-in-130-number-2 c m q =
    c.one_of-in-130-number-2.ensures
    ∙ asked own_rules _ _ _ m _ q c.in-Var.is 130 (one_of (letters "S" ∷ letters "A" ∷ []))
    c.in-130-number-2.is refl

pub returns-in-180-number : goal.returns-in-180-number
unfolding own_rules obeys both either fails
returns-in-180-number c m q = c.request_holds-in-180-number.ensures ∙ asked own_rules _ _ _ m _ q c.in-Var.is 180
    (one_of (letters "0" ∷ letters "1" ∷ letters "2" ∷ [])) c.in-180-number.is refl

pub returns-in_default-number-2 : goal.returns-in_default-number-2
unfolding own_rules
returns-in_default-number-2 c m q = unasked own_rules _ _ _ m c.in-Var.is (c.in_default-number-2.in_default-number-2-own.rest.0.1, (c.in_default-number-2.in_default-number-2-own.rest.1, tt))
