-- The first failing check decides.
use Rattle.verdict.proofs.Judged.{esi_judged}
use Rattle.verdict.proofs.judge_esi.Goals as goal

pub returns : goal.returns
returns c = esi_judged _ _ _ _ _ _ c.check_esi-fault.ensures c.conclude.ensures
