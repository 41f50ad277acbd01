-- One case for each of the two messages.
use mathlib.Core.Path.{sym, ap}
use Rattle.message.specs.Contents.{at_fault}
use Rattle.message.specs.declared.About.{About}
use Rattle.message.proofs.at_fault.Goals as goal

pub returns-in-Answered : goal.returns-in-Answered
unfolding at_fault
returns-in-Answered c =
    let a = c.args in
    sym (ap (λ (x : About). at_fault x a.answered a.closing) c.in-Answered.is)

pub returns-in-Closing : goal.returns-in-Closing
unfolding at_fault
returns-in-Closing c =
    let a = c.args in
    sym (ap (λ (x : About). at_fault x a.answered a.closing) c.in-Closing.is)
