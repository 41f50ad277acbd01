-- What is fed before the blanks at the end is the solid state, and the blanks bring it to the last one.
use Rattle.digest.proofs.Batches.{run_blank, run_solid}
use Rattle.digest.proofs.run.Goals as goal

pub returns-then-n-eq0 : goal.returns-then-n-eq0
returns-then-n-eq0 c =
    run_blank _ _ _ _ c.solid_length-n.ensures.1 c.if-n-eq0.true c.fed.ensures

pub returns : goal.returns
returns c =
    run_solid _ c.args.r c.args.bytes.now _ c.solid_length-n.ensures.1 c.if-n-eq0.false
    c.solid_length-n.ensures.0 c.fed-solid.ensures c.fed-2.ensures
