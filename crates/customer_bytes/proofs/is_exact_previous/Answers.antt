-- Whatever is held is written as it is read; else all is zero.
use mathlib.Core.Path.{sym, ◌∙◌}
use borrow.Author.Tests.{eq-eqb}
use Rattle.ground.specs.Choice.{both}
use Rattle.codec.specs.Layout.{ok, width}
use Rattle.codec.proofs.Laws.{ok-none, ok-some}
use Rattle.customer_bytes.specs.Layout.{previous_held}
use Rattle.customer_bytes.proofs.is_exact_previous.Goals as goal

pub returns-then-read1-eq1 : goal.returns-then-read1-eq1
unfolding ok both
returns-then-read1-eq1 c =
    let a = c.args in
    eq-eqb _ _ c.if-read1-eq1.true
    ∙ sym (ok-some previous_held a.at a.t.now (sym c.read1.ensures ∙ c.if-read1-eq1.true))

pub returns-else-read1-eq1 : goal.returns-else-read1-eq1
unfolding width
returns-else-read1-eq1 c =
    let a = c.args in
    c.same_at.ensures ∙ sym (ok-none previous_held a.at a.t.now (λ e. c.if-read1-eq1.false (c.read1.ensures ∙ e)))
