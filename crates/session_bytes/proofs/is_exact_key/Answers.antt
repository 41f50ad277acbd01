-- Its flag decides; without a key all nine bytes are zero.
use mathlib.Core.Path.{sym, ◌∙◌}
use borrow.Author.Tests.{eq-eqb}
use Rattle.codec.specs.Layout.{number, ok, width}
use Rattle.codec.proofs.Laws.{ok-none, ok-some}
use Rattle.session_bytes.proofs.is_exact_key.Goals as goal

pub returns-then-read1-eq1 : goal.returns-then-read1-eq1
unfolding ok
returns-then-read1-eq1 c =
    eq-eqb _ _ c.if-read1-eq1.true ∙ sym (ok-some (number 8) 391 c.args.b.now (sym c.read1.ensures ∙ c.if-read1-eq1.true))

pub returns-else-read1-eq1 : goal.returns-else-read1-eq1
unfolding ok width
returns-else-read1-eq1 c =
    c.same_at.ensures ∙ sym (ok-none (number 8) 391 c.args.b.now
    (λ e. c.if-read1-eq1.false (c.read1.ensures ∙ e)))
