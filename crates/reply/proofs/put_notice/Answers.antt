-- The clock and the text are put one after the other.
use mathlib.Core.Path.{refl}
use mathlib.Core.List.{append_assoc}
use Rattle.reply.proofs.Widths.{notice_filled}
use Rattle.reply.proofs.put_notice.Goals as goal

pub returns-clause-items : goal.returns-clause-items
returns-clause-items c =
    rw (c.put.ensures.items, c.put_clock.ensures.items, ← notice_filled c.args.a.now _ _ refl c.text.ensures) (simp append_assoc)
