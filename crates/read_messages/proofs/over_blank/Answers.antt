-- What is over of those kept is a part of the text.
use mathlib.Core.Path.{ap, ◌∙◌}
use mathlib.Core.List.{List}
use Prim.Native.Nat.{ℕ}
use native.Mathlib.Omega.{arith}
use borrow.Author.Tests.{le-leb}
use Rattle.ground.proofs.Parts.{some_over}
use Rattle.text.specs.Characters.{all_blank}
use Rattle.read_messages.proofs.Kept.{none_over}
use borrow.Author.Rules.{rules}
use Rattle.read_messages.proofs.over_blank.Goals as goal

pub returns-then-n-from : goal.returns-then-n-from
returns-then-n-from c = le-leb _ _ c.if-n-from.true ∙ none_over c.args.from c.args.count c.args.text (omega (arith, c.kept_count-n.ensures.0))

pub returns-else-n-from : goal.returns-else-n-from
returns-else-n-from c = c.all_blank.ensures
    ∙ ap (λ (l : List ℕ). all_blank l)
    (some_over _ c.args.count _ _
    c.kept_count-n.ensures.0 (search rules))
