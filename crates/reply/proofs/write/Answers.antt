-- A room that is too short is left as it was, and else the reply is written over its start.
use mathlib.Core.Path.{◌≡◌, sym, ap, ◌∙◌}
use Prim.Native.Nat.{◌≤◌, ◌<◌}
use native.Mathlib.Omega.{arith}
use borrow.Author.Tests.{le-leb, lt-leb}
use lib.ListN.{length}
use Rattle.ground.proofs.Choices.{picks, skips}
use Rattle.ground.specs.Lists.{overlay}
use Rattle.reply.specs.Reply.{reply_length, written_length, replied}
use Rattle.reply.proofs.write.Goals as goal

pub returns-then-out-length : goal.returns-then-out-length
unfolding written_length replied reply_length
returns-then-out-length c =
    let f : length c.args.out.now < reply_length c.args.a = omega (arith, c.length_of-length.ensures) in
    (sym (skips _ _ _ (lt-leb _ _ f)), sym (skips _ _ _ (lt-leb _ _ f)))

pub returns : goal.returns
unfolding written_length replied reply_length
returns c =
    let f : reply_length c.args.a ≤ length c.args.out.now = omega (arith, c.length_of-length.ensures) in (
      c.length_of-length.ensures ∙ sym (picks _ _ _ (le-leb _ _ f)),
      c.copy.ensures ∙ ap (λ x. overlay x c.args.out.now) (c.deref.ensures.0 ∙ c.composed.ensures) ∙ sym (picks _ _ _ (le-leb _ _ f)),
    )
