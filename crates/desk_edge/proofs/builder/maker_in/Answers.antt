-- Its two numbers, K and V.
use mathlib.Core.Path.{refl}
use Rattle.desk_edge.specs.Builder.{maker_in}
use Rattle.desk_edge.proofs.builder.maker_in.Goals as goal

pub returns : goal.returns
unfolding maker_in
returns c = refl
