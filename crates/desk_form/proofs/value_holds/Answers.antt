-- The rules of both replies decide where one fails, else the reply's own.
use mathlib.Core.Path.{sym, ◌∙◌}
use borrow.Author.Tests.{not-true, not-false}
use Rattle.ground.proofs.Choices.{fails_left, decides}
use Rattle.message.proofs.Tests.{obeys-append}
use Rattle.desk_form.proofs.value_holds.Goals as goal

pub returns-then-not-both_hold : goal.returns-then-not-both_hold
returns-then-not-both_hold c r q x =
    sym (obeys-append _ _ _ r ∙ fails_left _ _ (sym (c.both_hold.ensures r q x) ∙ not-true _ c.if-not-both_hold.true-raw))

pub returns : goal.returns
returns c r q x =
    c.each_holds.ensures r q
    ∙ sym
    (obeys-append _ _ _ r ∙ decides _ _ (sym (c.both_hold.ensures r q x) ∙ not-false _ c.if-not-both_hold.false-raw))
