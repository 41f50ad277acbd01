-- Each arm makes the test of the rule that names the field, and no rule names any other.
use mathlib.Core.Path.{refl, ◌∙◌}
use mathlib.Core.List.{[], ◌∷◌}
use mathlib.Core.Logic.{⊎_elim, inl, inr}
use Rattle.ground.specs.Choice.{both, either, fails}
use Rattle.text.specs.Characters.{all_blank}
use Rattle.text.specs.Letters.{letters}
use Rattle.message.specs.Rules.{one_of, obeys}
use Rattle.desk_form.specs.Replies.{each_rules}
use Rattle.desk_form.proofs.Tests.{asked_in, unasked_in}
use Rattle.desk_form.proofs.each_holds.Goals as goal

pub returns-in-130 : goal.returns-in-130
unfolding each_rules obeys both either fails
returns-in-130 c r q =
    let esi = c.in-Esi.is in
    c.all_blank.ensures
    ∙ ⊎_elim (λ e. asked_in each_rules _ _ _ r _ q esi 130 all_blank e refl)
    (⊎_elim (λ e. asked_in each_rules _ _ _ r _ q esi 150 all_blank e refl) (λ e. asked_in each_rules _ _ _ r _ q esi 160 all_blank e refl))
    c.in-130.is

pub returns-in_default : goal.returns-in_default
unfolding each_rules
returns-in_default c r q =
    unasked_in each_rules _ _ _ r c.in-Esi.is
    (λ e. c.in_default.in_default-own.rest.1 (inl e), (λ e. c.in_default.in_default-own.rest.1 (inr (inl e)), (λ e. c.in_default.in_default-own.rest.1 (inr (inr e)), tt)))

pub returns-in-130-number : goal.returns-in-130-number
unfolding each_rules letters obeys both either fails
returns-in-130-number c r q =
    c.one_of.ensures
    ∙ asked_in each_rules _ _ _ r _ q c.in-Pte.is 130 (one_of (letters "S" ∷ letters "A" ∷ []))
    c.in-130-number.is refl

pub returns-in_default-number : goal.returns-in_default-number
unfolding each_rules
returns-in_default-number c r q = unasked_in each_rules _ _ _ r c.in-Pte.is (c.in_default-number.in_default-number-own.rest.1, tt)
