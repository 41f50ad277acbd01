-- The code tells which form it is.
use mathlib.Core.Path.{◌≡◌, sym, ap, ◌∙◌}
use lib.ListN.{take}
use Rattle.ground.proofs.Choices.{picks, skips}
use Rattle.table.specs.Decode.{table_of}
use Rattle.message.specs.Contents.{at_fault}
use Rattle.answers.specs.Answers.{bare_answer, verdict_answer}
use Rattle.answers.proofs.Made.{fault_whole}
use borrow.Author.Rules.{rules}
use Rattle.answers.proofs.verdict_answer.Goals as goal

pub returns-then-is_bare : goal.returns-then-is_bare
unfolding verdict_answer
returns-then-is_bare c =
    let a = c.args in
    let e : take 161 c.at_fault-faulty.result ≡ at_fault a.out.about a.m a.closing =
    ap (take 161) c.at_fault-faulty.ensures
    ∙ fault_whole a.out.about a.m a.closing (search rules) (search rules) in
    c.bare_answer.ensures
    ∙ ap (bare_answer (table_of a.t.now) a.o a.pte a.out.code a.out.field) e
    ∙ sym (picks _ _ _ (sym c.is_bare.ensures ∙ c.if-is_bare.true))

pub returns-else-is_bare : goal.returns-else-is_bare
unfolding verdict_answer
returns-else-is_bare c = c.full_answer.ensures ∙ sym (skips _ _ _ (sym c.is_bare.ensures ∙ c.if-is_bare.false))
