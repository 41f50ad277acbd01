-- The base looks at the known text.
use Rattle.build.proofs.Handed.{rules_broken}
use Rattle.build.proofs.breaks_rules.Goals as goal

pub returns : goal.returns
returns c = λ m e.
    rules_broken c.args.k c.args.known m c.fault_of.ensures c.is_fault.ensures e
