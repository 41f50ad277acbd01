-- What lies past the end of a reply is nothing.
use mathlib.Core.Path.{refl}
use Rattle.ground.proofs.Parts.{cut_part}
use Rattle.desk.proofs.between.Goals as goal

pub returns : goal.returns
returns c =
    cut_part _ _ _ c.requires refl refl c.min.ensures c.min-2.ensures
