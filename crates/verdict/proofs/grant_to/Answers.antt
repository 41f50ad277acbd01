-- Each part of the grant is what its call says.
use Rattle.verdict.proofs.Judged.{granted_as}
use Rattle.verdict.proofs.grant_to.Goals as goal

pub returns : goal.returns
returns c =
    granted_as _ _ _ _ _ _ _ _ _ _ c.customer_of.ensures c.settings.ensures
    c.clock_value.ensures c.working_generation.ensures c.request.ensures
    c.grant.ensures
