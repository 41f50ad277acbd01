-- Field 18 stands in the twenty-second place of the order.
use mathlib.Core.Path.{ap, ◌∙◌}
use lib.Dec.{lit≤}
use Rattle.ground.specs.Lists.{same}
use Rattle.text.specs.Letters.{letters}
use Rattle.desk_form.specs.Replies.{encloses}
use Rattle.desk_form.proofs.Places.{placed}
use Rattle.desk_form.proofs.encloses_key.Goals as goal

pub returns : goal.returns
unfolding encloses letters
returns c = c.same_bytes.ensures ∙ ap (same (letters "1")) (c.span.ensures ∙ placed 21 _ (lit≤ tt))
