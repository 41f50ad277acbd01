-- The call below is handed what the numbers say, and its session is stored where it is served.
use Rattle.edge.specs.Edge.{session_after_opening}
use Rattle.edge.proofs.Made.{asked_by, opening_made}
use Rattle.edge.proofs.lp_open.Goals as goal

pub returns : goal.returns
unfolding session_after_opening
returns c =
    let a = c.args in
    let d = c.open-a.ensures in
    let k = c.kind_asked.ensures in
    let o = asked_by _ a.today a.time a.kind a.clock k in
    opening_made _ _ a.today a.time a.kind a.clock o d.answers d.leaves c.put_session.ensures
