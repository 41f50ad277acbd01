-- Each field that is hex digits in some reply is a case, and no other is.
use mathlib.Core.Path.{sym, ◌∙◌}
use mathlib.Core.Logic.{inl, inr}
use Rattle.message.proofs.Tests.{tested}
use Rattle.desk_form.proofs.Tests.{checksum_hex, key_hex, pte_hex, esi_hex, no_hex}
use Rattle.desk_form.proofs.hex_holds.Goals as goal

pub returns-in-Esi : goal.returns-in-Esi
returns-in-Esi c = esi_hex _ _ _ _ c.in-Esi.is c.in-150.is

pub returns-in-Pte : goal.returns-in-Pte
returns-in-Pte c =
    c.all_hex_digits.ensures ∙ pte_hex _ _ _ _ c.in-Pte.is c.in-150.is

pub returns-in-170 : goal.returns-in-170
returns-in-170 c = c.all_hex_digits-in-170.ensures ∙ checksum_hex _ _ _ _ c.in-170.is

pub returns-in-190 : goal.returns-in-190
returns-in-190 c =
    sym (tested _ _ c.only_if.ensures c.all_hex_digits-in-190.ensures) ∙ key_hex _ _ _ _ c.in-190.is

pub returns-in_default : goal.returns-in_default
returns-in_default c =
    no_hex _ _ _ _
    (λ e. c.in_default.in_default-own.rest.0.0.1 (inl e), (λ e. c.in_default.in_default-own.rest.0.0.1 (inr e), (c.in_default.in_default-own.rest.0.1, (c.in_default.in_default-own.rest.1, tt))))
