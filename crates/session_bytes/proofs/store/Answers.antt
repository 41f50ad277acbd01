-- Bytes of another length stay, else a session is written over all of them.
use mathlib.Core.Path.{sym, ◌∙◌}
use Rattle.session_bytes.proofs.Laws.{stored, stays}
use Rattle.session_bytes.proofs.store.Goals as goal

pub returns-then-b-eq-SIZE : goal.returns-then-b-eq-SIZE
returns-then-b-eq-SIZE c = c.store_session.ensures ∙ sym (stored c.args.b.now c.args.s c.if-b-eq-SIZE.true)

pub returns-else-b-eq-SIZE : goal.returns-else-b-eq-SIZE
returns-else-b-eq-SIZE c = sym (stays c.args.b.now c.args.s c.if-b-eq-SIZE.false)
