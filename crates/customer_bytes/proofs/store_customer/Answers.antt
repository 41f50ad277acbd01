-- The fields are written one after the other.
use mathlib.Core.Path.{◌≡◌}
use Rattle.std.proofs.Math.Nat.{add_assoc}
use lib.ListN.{length}
use borrow.Author.Rules.{rules}
use Rattle.codec.specs.Layout.{laid, enc, width}
use Rattle.codec.proofs.Laws.{laid_is}
use Rattle.customer_bytes.specs.Layout.{customer_shape, customer_to, customer_bytes}
use Rattle.customer_bytes.proofs.Laws.{customer_sized}
use Rattle.customer_bytes.proofs.store_customer.Goals as goal

pub returns : goal.returns
unfolding customer_bytes laid enc width
returns c =
    let s = c.args.c in
    let n : length s.who ≡ 25 = search rules in
    let m : length s.stamps ≡ 64 = search rules in
    let q : length s.once ≡ 64 = search rules in
    rw (c.write_numbers-2.ensures, c.write_numbers.ensures, c.store_terms.ensures, c.write_bytes.ensures)
    (simp add_assoc at (laid_is customer_shape (customer_to s) (customer_sized s n m q) c.args.at c.args.t.now c.requires))
