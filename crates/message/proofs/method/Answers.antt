-- The span is the field, and the test is the definition's.
use mathlib.Core.Path.{sym, ap, ◌∙◌}
use mathlib.Core.List.{List}
use Prim.Native.Nat.{ℕ}
use Rattle.ground.specs.Choice.{pick}
use Rattle.ground.specs.Lists.{same}
use Rattle.ground.proofs.Choices.{picks, skips}
use Rattle.text.specs.Letters.{letters}
use Rattle.message.specs.Layout.{field_text, offset_in, width_in, total}
use Rattle.message.specs.Fields.{method_of}
use Rattle.message.proofs.method.Goals as goal

pub returns-then-same_bytes : goal.returns-then-same_bytes
unfolding method_of letters field_text offset_in width_in total pick
returns-then-same_bytes c =
    sym
    (picks _ _ _
    (ap (λ (t : List ℕ). same t (letters "SKE")) (sym c.span.ensures) ∙ sym c.same_bytes.ensures
    ∙ c.if-same_bytes.true))

pub returns : goal.returns
unfolding method_of letters field_text offset_in width_in total pick
returns c =
    sym
    (skips _ _ _
    (ap (λ (t : List ℕ). same t (letters "SKE")) (sym c.span.ensures) ∙ sym c.same_bytes.ensures
    ∙ c.if-same_bytes.false))
