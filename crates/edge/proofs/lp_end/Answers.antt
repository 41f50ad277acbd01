-- The call below answers for the session that the bytes say.
use Rattle.edge.specs.Edge.{session_after}
use Rattle.edge.proofs.Made.{end_made}
use mathlib.Core.List.{[]}
use Rattle.edge.proofs.lp_end.Goals as goal

pub returns : goal.returns
unfolding session_after
returns c =
    let k = c.end-a.ensures in end_made _ _ [] _ c.load-s.ensures (k.answers, (k.leaves, k.shows))
    c.put_session.ensures c.packed_answer.ensures
