-- The span is written over as much room.
use mathlib.Core.Path.{◌≡◌, refl}
use native.Mathlib.Omega.{arith}
use lib.ListN.{length}
use Rattle.ground.specs.Choice.{pick}
use Rattle.message.specs.Layout.{offset_in, total}
use Rattle.message.specs.Fields.{sender_of}
use Rattle.message.proofs.Places.{copied}
use borrow.Author.Rules.{rules}
use Rattle.message.proofs.sender.Goals as goal

pub returns : goal.returns
unfolding sender_of offset_in total pick
returns c =
    let e : length c.args.m ≡ 161 = search rules in
    copied 60 25 _ _ c.span.ensures _ _ c.copy.ensures refl (omega arith)
