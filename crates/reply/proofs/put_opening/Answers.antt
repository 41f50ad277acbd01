-- The first five fields, the software and the method are put one after the other.
use mathlib.Core.List.{append_assoc}
use Rattle.text.specs.Letters.{letters}
use Rattle.reply.proofs.Widths.{opening-joined}
use Rattle.reply.proofs.put_opening.Goals as goal

pub returns-clause-items : goal.returns-clause-items
unfolding letters
returns-clause-items c =
    rw (
      c.put-5.ensures.items,
      c.put-4.ensures.items,
      c.put-3.ensures.items,
      c.put-2.ensures.items,
      c.put.ensures.items,
      c.tag_of.ensures,
      c.success.ensures,
      c.digits.ensures,
      ← opening-joined c.args.a.now,
    ) (simp append_assoc)
