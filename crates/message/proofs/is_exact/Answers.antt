-- The version stands in the third place of the order, and is compared with both.
use mathlib.Core.Path.{ap, ◌∙◌}
use mathlib.Core.List.{[], ◌∷◌}
use lib.Dec.{lit≤}
use Rattle.text.specs.Letters.{letters}
use Rattle.message.specs.Rules.{one_of, is_exact}
use Rattle.message.proofs.Places.{placed}
use Rattle.message.proofs.is_exact.Goals as goal

pub returns : goal.returns
unfolding is_exact letters
returns c =
    c.one_of.ensures ∙ ap (one_of (letters "110" ∷ letters "120" ∷ [])) (c.span.ensures ∙ placed 2 _ (lit≤ tt))
