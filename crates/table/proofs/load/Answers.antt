-- The record at the place is the customer there, and elsewhere stands nobody.
use mathlib.Core.Path.{ap, ◌∙◌}
use Prim.Native.Nat.{ℕ, ◌+◌, ◌*◌}
use native.Mathlib.Omega.{arith}
use Rattle.customer_bytes.specs.Layout.{customer_at}
use Rattle.table.proofs.Loaded.{load_other, load_past, load_there}
use Rattle.table.proofs.load.Goals.{else-t-eq-SIZE-via-then-t-eq-SIZE+else-i-count_customers, else-t-eq-SIZE-via-else-t-eq-SIZE}
use Rattle.table.proofs.load.Goals as goal

pub returns-then-i-count_customers : goal.returns-then-i-count_customers
returns-then-i-count_customers c =
    let a = c.args in
    c.load_at.ensures
    ∙ ap (λ (p : ℕ). customer_at (p + 1109 * a.i) a.t.now) c.customers_start.ensures.0
    ∙ load_there a.t.now a.i c.if-t-eq-SIZE.true
    (omega (arith, c.count_customers.ensures.0, c.if-i-count_customers.true))

pub returns : goal.returns
returns c = elim c.else-t-eq-SIZE.branch [
  | else-t-eq-SIZE-via-then-t-eq-SIZE+else-i-count_customers w ↦ c.load_at-2.ensures
      ∙ load_past _ _ w.if-t-eq-SIZE.true (omega (arith, w.count_customers.ensures.0, w.if-i-count_customers.false))
  | else-t-eq-SIZE-via-else-t-eq-SIZE w ↦ c.load_at-2.ensures ∙ load_other _ _ w.if-t-eq-SIZE.false
]
