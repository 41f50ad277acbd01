-- The table agrees with the layout at each place, which is computed.
use mathlib.Core.Path.{refl}
use lib.ListN.{take}
use Rattle.ground.specs.Choice.{both, pick}
use Rattle.ground.proofs.Table.{ruled}
use Rattle.message.specs.Layout.{fields, total, offset_in}
use Rattle.desk_form.proofs.Places.{starts}
use borrow.Author.Rules.{rules}
use Rattle.desk_form.proofs.start_of.Goals as goal

pub returns : goal.returns
unfolding both pick total offset_in
returns c = ruled (λ i. total (take i fields)) 26 c.args.i (search rules) starts refl tt
