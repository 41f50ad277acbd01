-- The checksum is over fields 1 to 16, which are written first.
use mathlib.Core.Path.{◌≡◌, refl}
use lib.ListN.{length, replicate}
use Rattle.build.specs.Messages.{var_front, var_built}
use Rattle.build.proofs.Written.{var-length, message_closed}
use borrow.Author.Rules.{rules}
use Rattle.build.proofs.var_text.Lts as lts
use Rattle.build.proofs.var_text.Reads as reads
use Rattle.build.proofs.var_text.Tie as tie
use Rattle.build.proofs.var_text.Goals as goal

abbrev Start : Type 0
Start = lts.Start tie.the-claims reads.Pre reads.Post

sized : (c : Start) → length c.args.suo ≡ 128
sized c = search rules

pub returns : goal.returns
unfolding var_built
returns c =
    let a = c.args in
    message_closed a.working a.request (var_front a.suo a.digest) (replicate 161 0)
    (var-length a.suo a.digest (sized c.before.before.before.before.before.before)) refl c.put_var_front.ensures c.put_closing.ensures
