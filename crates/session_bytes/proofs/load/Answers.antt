-- Bytes that are no session say one that is not open, others what they say.
use mathlib.Core.Path.{sym, ◌∙◌}
use Rattle.ground.proofs.Choices.{skips}
use Rattle.ground.proofs.Bools.{passed, refused}
use Rattle.session.specs.Machine.{unopened}
use Rattle.session_bytes.specs.Session.{session_of, is_session, session_in}
use Rattle.session_bytes.proofs.Laws.{said, long}
use Rattle.session_bytes.proofs.load.Goals as goal

pub returns-then-not-is_session : goal.returns-then-not-is_session
unfolding session_in
returns-then-not-is_session c =
    let t = c.args.b.now in
    c.no_file.ensures ∙ sym (skips (is_session t) (session_of t) unopened
    (refused c.is_session.ensures c.if-not-is_session.true-raw))

pub session_in-requires : goal.session_in-requires
session_in-requires c = long c.args.b.now (passed c.is_session.ensures c.if-not-is_session.false-raw)

pub returns : goal.returns
returns c =
    c.session_in.ensures ∙ sym (said c.args.b.now (passed c.is_session.ensures c.if-not-is_session.false-raw))
