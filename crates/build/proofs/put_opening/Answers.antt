-- The tag, the version and the marks, software and method are written one after the other.
use mathlib.Core.Path.{◌≡◌}
use lib.ListN.{length}
use Rattle.text.specs.Letters.{letters}
use Rattle.build.proofs.Written.{opening_written}
use borrow.Author.Rules.{rules}
use Rattle.build.proofs.put_opening.Lts as lts
use Rattle.build.proofs.put_opening.Reads as reads
use Rattle.build.proofs.put_opening.Tie as tie
use Rattle.build.proofs.put_opening.Goals as goal

abbrev Start : Type 0
Start = lts.Start tie.the-claims reads.Pre reads.Post

sized : (c : Start) → (length c.args.software ≡ 16) × (length c.args.method ≡ 3)
sized c = search rules

pub returns : goal.returns
unfolding letters
returns c =
    let a = c.args in
    opening_written a.k a.software a.method (sized c.before.before.before.before.before.before.before.before.before.before.before.before.before.before.before.before.before.before.before.before.before.before.before.before).0 (sized c.before.before.before.before.before.before.before.before.before.before.before.before.before.before.before.before.before.before.before.before.before.before.before.before).1 a.out.now c.requires c.tag_of-tag.ensures
    c.write_bytes.ensures c.write_bytes-2.ensures c.write_bytes-3.ensures
    c.write_bytes-4.ensures
