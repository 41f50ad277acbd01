-- What the calls give is the law of a piece: the CR that waited is taken, then the piece without a CR at its end.
use Rattle.std.proofs.Common.{◌∙◌, arith}
use Rattle.std.proofs.lemmas.Grind.{common_steps}
use Rattle.bureau_records.proofs.Hearing.{piece_made, piece_none}
use Rattle.bureau_records.proofs.pieced.Goals as goal

pub returns-then-is_empty : goal.returns-then-is_empty
returns-then-is_empty c m = piece_none _ m _ _ (grind (arith, common_steps))

pub returns : goal.returns
returns c m =
    c.holding.ensures
    ∙ piece_made _ m _ _ (λ z. grind (arith, common_steps)) c.requires c.freed-now.ensures
    c.without_cr-solid.ensures c.took.ensures.0
