-- The record is written past the last, then the count and the total length, if there is room.
use mathlib.Core.Path.{sym, ap₂, ◌∙◌}
use Prim.Native.Nat.{ℕ, ◌+◌, ◌*◌}
use native.Mathlib.Omega.{arith}
use borrow.Author.Tests.{ne_eqb, eq-eqb, le-ltb, lt-ltb}
use Rattle.ground.proofs.Choices.{fails_left, fails_right, join, picks, skips}
use Rattle.splices.specs.Bytes.{bytes_of, put}
use Rattle.customer_bytes.specs.Layout.{customer_bytes}
use Rattle.table.specs.Decode.{customer_count}
use Rattle.table.specs.Stored.{customer_added}
use Rattle.table.proofs.Stores.{add_writes}
use Rattle.table.proofs.add.Goals as goal

pub returns-then-t-ne-SIZE : goal.returns-then-t-ne-SIZE
unfolding customer_added
returns-then-t-ne-SIZE c = sym (skips _ _ _ (fails_left _ _ (ne_eqb _ _ c.if-t-ne-SIZE.true)))

pub returns-then-n-ge32 : goal.returns-then-n-ge32
unfolding customer_added
returns-then-n-ge32 c =
    let b = c.args.t.now in
    sym (skips _ _ _ (fails_right _ _ (le-ltb (customer_count b) 32 (omega (arith, c.count_customers-n.ensures.0, c.if-n-ge32.true)))))

pub returns : goal.returns
unfolding customer_added
returns c =
    let a = c.args in
    let s = c.customers_start-start in
    let n = c.count_customers-n in
    add_writes a.t.now _ _ _ (customer_bytes a.c) (s.result + 1109 * n.result) (n.result + 1) (s.result + 1109 * (n.result + 1))
    c.if-t-ne-SIZE.false c.store_at.ensures c.write4.ensures
    c.write4-2.ensures
    ∙ ap₂ (λ (p m : ℕ). put 0 (bytes_of 4 (p + 1109 * (m + 1)))
    (put 16 (bytes_of 4 (m + 1)) (put (p + 1109 * m) (customer_bytes a.c) a.t.now))) s.ensures.0 n.ensures.0
    ∙ sym (picks _ _ _ (join _ _ (eq-eqb _ _ c.if-t-ne-SIZE.false)
    (lt-ltb (customer_count a.t.now) 32 (omega (arith, n.ensures.0, c.if-n-ge32.false)))))
