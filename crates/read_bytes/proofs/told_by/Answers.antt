-- A CR that waited is heard before the byte, and a CR waits.
use mathlib.Core.Path.{◌∙◌}
use Rattle.read_bytes.proofs.Told.{hears, waits, none_waits, told_cr, both_told, one_told}
use Rattle.read_bytes.proofs.told_by.Goals as goal

pub returns-in-true-true : goal.returns-in-true-true
returns-in-true-true c =
    c.hear.ensures ∙ hears _ _ _ _ c.requires ∙ waits _ _ c.in-true-true.is-0 ∙ told_cr _ _ _ c.in-true-true.is-1

pub returns-in-true-false : goal.returns-in-true-false
returns-in-true-false c =
    c.hear-in-true-false.ensures ∙ hears _ _ _ _ c.requires ∙ both_told _ _ _ c.in-true-false.is-0 c.in-true-false.is-1

pub returns-in-false-true : goal.returns-in-false-true
returns-in-false-true c = none_waits _ _ c.in-false-true.is-0 ∙ told_cr _ _ _ c.in-false-true.is-1

pub returns-in-false-false : goal.returns-in-false-false
returns-in-false-false c =
    c.hear-in-false-false.ensures ∙ hears _ _ _ _ c.requires ∙ one_told _ _ _ c.in-false-false.is-0 c.in-false-false.is-1
