-- Blanks, the bank, zeros and blanks are put one after the other.
use mathlib.Core.List.{append_assoc}
use Rattle.text.specs.Letters.{letters}
use Rattle.reply.proofs.Widths.{bare_joined}
use Rattle.reply.proofs.put_bare.Goals as goal

pub returns-clause-items : goal.returns-clause-items
unfolding letters
returns-clause-items c =
    rw (
      c.put-4.ensures.items,
      c.put-3.ensures.items,
      c.put-2.ensures.items,
      c.put.ensures.items,
      ← bare_joined c.args.a.now,
    ) (simp append_assoc)
