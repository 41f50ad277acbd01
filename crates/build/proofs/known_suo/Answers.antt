-- The SUO is written over zeros.
use mathlib.Core.Path.{◌≡◌, ◌∙◌}
use lib.ListN.{length}
use Rattle.build.proofs.Known.{suo_known}
use borrow.Author.Rules.{rules}
use Rattle.build.proofs.known_suo.Lts as lts
use Rattle.build.proofs.known_suo.Reads as reads
use Rattle.build.proofs.known_suo.Tie as tie
use Rattle.build.proofs.known_suo.Goals as goal

abbrev Start : Type 0
Start = lts.Start tie.the-claims reads.Pre reads.Post

sized : (c : Start) → length c.args.suo ≡ 128
sized c = search rules

pub returns : goal.returns
returns c =
    c.copy.ensures ∙ suo_known c.args.suo (sized c.before.before.before.before)
