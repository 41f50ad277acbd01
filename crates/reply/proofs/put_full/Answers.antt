-- The fields of the message are parts of it by their places, put one after the other.
use mathlib.Core.List.{append_assoc}
use Rattle.ground.specs.Lists.{part}
use Rattle.reply.proofs.Widths.{full_joined}
use Rattle.reply.proofs.put_full.Goals as goal

pub returns-clause-items : goal.returns-clause-items
unfolding part
returns-clause-items c =
    rw (
      c.put-6.ensures.items,
      c.put-5.ensures.items,
      c.put-4.ensures.items,
      c.put-3.ensures.items,
      c.put-2.ensures.items,
      c.put.ensures.items,
      ← full_joined c.args.a.now,
    ) (simp append_assoc)
