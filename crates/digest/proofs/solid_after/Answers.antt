-- Where blanks alone came the solid state stays, and else it is what the characters before the blanks lead to.
use Rattle.std.proofs.Common.{rules}
use Rattle.digest.proofs.Batches.{solid_blank, solid_fed}
use Rattle.digest.proofs.solid_after.Goals as goal

pub returns-in-0 : goal.returns-in-0
returns-in-0 c = solid_blank _ _ _ _ c.solid_length.ensures.1 c.in-0.is

pub returns-in_default : goal.returns-in_default
returns-in_default c =
    solid_fed _ c.args.r c.args.bytes.now _ c.solid_length.ensures.1 (search rules)
    c.solid_length.ensures.0 c.fed.ensures
