-- The record is written at the place, if the length is right and the place is the table's.
use mathlib.Core.Path.{sym, ap, ◌∙◌}
use Prim.Native.Nat.{ℕ, ◌+◌, ◌*◌}
use native.Mathlib.Omega.{arith}
use borrow.Author.Tests.{ne_eqb, eq-eqb, le-ltb, lt-ltb}
use Rattle.ground.proofs.Choices.{fails_left, fails_right, join, picks, skips}
use Rattle.splices.specs.Bytes.{put}
use Rattle.customer_bytes.specs.Layout.{customer_bytes}
use Rattle.table.specs.Decode.{customer_count}
use Rattle.table.specs.Stored.{customer_stored}
use Rattle.table.proofs.store.Goals.{else-t-eq-SIZE-via-then-t-eq-SIZE+else-i-count_customers, else-t-eq-SIZE-via-else-t-eq-SIZE}
use Rattle.table.proofs.store.Goals as goal

pub returns-then-i-count_customers : goal.returns-then-i-count_customers
unfolding customer_stored
returns-then-i-count_customers c =
    let a = c.args in
    c.store_at.ensures
    ∙ ap (λ (p : ℕ). put (p + 1109 * a.i) (customer_bytes a.c) a.t.now) c.customers_start-start.ensures.0
    ∙ sym (picks _ _ _ (join _ _ (eq-eqb _ _ c.if-t-eq-SIZE.true)
    (lt-ltb a.i (customer_count a.t.now) (omega (arith, c.count_customers.ensures.0, c.if-i-count_customers.true)))))

pub returns-else-t-eq-SIZE : goal.returns-else-t-eq-SIZE
unfolding customer_stored
returns-else-t-eq-SIZE c =
    let a = c.args in
    elim c.else-t-eq-SIZE.branch [
      | else-t-eq-SIZE-via-then-t-eq-SIZE+else-i-count_customers w ↦ sym (skips _ _ _ (fails_right _ _
          (le-ltb a.i (customer_count a.t.now) (omega (arith, w.count_customers.ensures.0, w.if-i-count_customers.false)))))
      | else-t-eq-SIZE-via-else-t-eq-SIZE w ↦ sym (skips _ _ _ (fails_left _ _ (ne_eqb _ _ w.if-t-eq-SIZE.false)))
    ]
