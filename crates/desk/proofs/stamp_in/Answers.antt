-- The fifteen digits are copied.
use mathlib.Core.Path.{◌≡◌, refl}
use native.Mathlib.Omega.{arith}
use lib.ListN.{length}
use Rattle.ground.specs.Choice.{pick}
use Rattle.message.specs.Layout.{offset_in}
use Rattle.message.specs.Fields.{stamp_text_of}
use Rattle.message.proofs.Places.{copied}
use borrow.Author.Rules.{rules}
use Rattle.desk.proofs.stamp_in.Goals as goal

pub returns : goal.returns
unfolding stamp_text_of offset_in pick
returns c =
    let e : length c.args.m ≡ 161 = search rules in
    copied 87 15 _ _ c.between.ensures _ _ c.copy.ensures refl (omega arith)
