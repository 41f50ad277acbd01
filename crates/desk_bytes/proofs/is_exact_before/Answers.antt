-- Whatever is there is written as it is read; else all is zero.
use mathlib.Core.Path.{sym, ◌∙◌}
use Rattle.ground.specs.Choice.{both}
use Rattle.codec.specs.Layout.{ok, width}
use Rattle.codec.proofs.Laws.{ok-none, ok-some}
use Rattle.desk_bytes.specs.Layout.{numbered_shape}
use Rattle.desk_bytes.proofs.is_exact_before.Goals as goal

pub returns-then-read1-eq1 : goal.returns-then-read1-eq1
unfolding ok both
returns-then-read1-eq1 c =
    let a = c.args in
    sym (ok-some numbered_shape a.at a.b.now (sym c.read1.ensures ∙ c.if-read1-eq1.true))

pub returns : goal.returns
unfolding width
returns c =
    let a = c.args in
    c.same_at.ensures ∙ sym (ok-none numbered_shape a.at a.b.now (λ e. c.if-read1-eq1.false (c.read1.ensures ∙ e)))
