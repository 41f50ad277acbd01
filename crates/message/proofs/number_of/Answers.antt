-- The table agrees with the layout at each place, which is computed.
use mathlib.Core.Path.{refl}
use Rattle.ground.specs.Choice.{both}
use Rattle.ground.proofs.Table.{ruled}
use Rattle.message.proofs.Places.{number_at, numbers}
use Rattle.message.proofs.number_of.Goals as goal

pub returns : goal.returns
unfolding both
returns c = ruled number_at 22 c.args.i c.requires numbers refl tt
