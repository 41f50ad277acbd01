-- The first failing check decides.
use Rattle.verdict.proofs.Judged.{frame_judged}
use Rattle.verdict.proofs.judge_frame.Goals as goal

pub returns : goal.returns
returns c =
    frame_judged _ _ _ _ _ _ _ c.key_or_0-once.ensures c.check_frame-fault.ensures
    c.conclude.ensures
