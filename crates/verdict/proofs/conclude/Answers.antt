-- The fault decides: what is granted is stored where there is none.
use Rattle.verdict.proofs.Judged.{accepted_so, refused_so}
use Rattle.verdict.proofs.conclude.Goals as goal

pub returns-in-Ok : goal.returns-in-Ok
returns-in-Ok c = accepted_so _ _ _ _ _ _ _ c.in-Ok.is c.accept.ensures

pub returns-in-Err : goal.returns-in-Err
returns-in-Err c = refused_so _ _ _ _ _ _ _ _ c.in-Err.is
