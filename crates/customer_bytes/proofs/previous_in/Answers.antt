-- What is read is the fields, one after the other; where the first byte is not 1 there is none.
use mathlib.Core.Path.{sym, ap, ◌∙◌}
use mathlib.Core.Option.{some}
use Rattle.std.proofs.Math.Nat.{add_assoc}
use Rattle.codec.specs.Layout.{dec, width}
use Rattle.codec.proofs.Laws.{dec-none, dec_some}
use Rattle.customer_bytes.specs.Layout.{previous_held, previous_from}
use Rattle.customer_bytes.proofs.previous_in.Goals as goal

pub returns-then-read1-ne1 : goal.returns-then-read1-ne1
returns-then-read1-ne1 c =
    let a = c.args in
    sym (ap previous_from (dec-none previous_held a.at a.t.now (λ e. c.if-read1-ne1.true (c.read1.ensures ∙ e))))

pub returns : goal.returns
unfolding dec width
returns c =
    let a = c.args in
    let e = sym c.read1.ensures ∙ c.if-read1-ne1.false in
    rw (ap previous_from (dec_some previous_held a.at a.t.now e))
    (simp add_assoc (λ i. previous_from (some (
      c.read1-2.ensures i,
      (c.read8.ensures i, (c.read4.ensures i, c.read4-2.ensures i)),
    ))))
