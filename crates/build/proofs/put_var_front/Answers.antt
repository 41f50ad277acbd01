-- The SUO's fields stand in two runs of it, written between the fields that are the VAR's own.
use mathlib.Core.Path.{◌≡◌}
use lib.ListN.{length}
use Rattle.ground.specs.Lists.{part}
use Rattle.text.specs.Letters.{letters}
use Rattle.build.proofs.Written.{var_written}
use borrow.Author.Rules.{rules}
use Rattle.build.proofs.put_var_front.Lts as lts
use Rattle.build.proofs.put_var_front.Reads as reads
use Rattle.build.proofs.put_var_front.Tie as tie
use Rattle.build.proofs.put_var_front.Goals as goal

abbrev Start : Type 0
Start = lts.Start tie.the-claims reads.Pre reads.Post

sized : (c : Start) → length c.args.suo ≡ 128
sized c = search rules

pub returns : goal.returns
unfolding part letters
returns c =
    let a = c.args in
    var_written a.suo a.digest (sized c.before.before.before.before.before.before.before.before.before.before.before.before.before.before.before.before.before.before.before.before.before.before.before.before.before.before.before.before.before.before) a.out.now c.requires c.tag_of-tag.ensures c.hex_digits-digits.ensures
    c.write_bytes.ensures c.write_bytes-2.ensures c.write_bytes-3.ensures c.write_bytes-4.ensures
    c.write_bytes-5.ensures
