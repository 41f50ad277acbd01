-- The rule on the length decides where it fails, then the common rules, else the kind's own.
use mathlib.Core.Path.{sym, ◌∙◌}
use borrow.Author.Tests.{not-true, not-false}
use Rattle.ground.proofs.Choices.{fails_left, decides}
use Rattle.message.proofs.Tests.{obeys-append}
use Rattle.message.proofs.value_holds.Goals as goal

pub returns-then-not-length_holds : goal.returns-then-not-length_holds
returns-then-not-length_holds c m q x =
    sym (obeys-append _ _ _ m ∙ fails_left _ _ (sym (c.length_holds.ensures m q x) ∙ not-true _ c.if-not-length_holds.true-raw))

pub returns-then-not-common_holds : goal.returns-then-not-common_holds
returns-then-not-common_holds c m q x =
    sym
    (obeys-append _ _ _ m
    ∙ decides _ _ (sym (c.length_holds.ensures m q x) ∙ not-false _ c.if-not-length_holds.false-raw)
    ∙ obeys-append _ _ _ m
    ∙ fails_left _ _ (sym (c.common_holds.ensures m q) ∙ not-true _ c.if-not-common_holds.true-raw))

pub returns : goal.returns
returns c m q x =
    c.own_holds.ensures m q
    ∙ sym
    (obeys-append _ _ _ m
    ∙ decides _ _ (sym (c.length_holds.ensures m q x) ∙ not-false _ c.if-not-length_holds.false-raw)
    ∙ obeys-append _ _ _ m
    ∙ decides _ _ (sym (c.common_holds.ensures m q) ∙ not-false _ c.if-not-common_holds.false-raw))
