-- The fields are written one after the other.
use mathlib.Core.Path.{sym, ◌∙◌}
use Prim.Native.Nat.{◌+◌}
use Rattle.std.proofs.Math.Nat.{add_assoc}
use native.Mathlib.Omega.{arith}
use Rattle.codec.specs.Layout.{laid, enc, width}
use Rattle.codec.proofs.Laws.{laid_is, sized}
use Rattle.customer_bytes.specs.Layout.{pair_shape, pair_to, terms_shape, terms_to}
use Rattle.customer_bytes.proofs.Laws.{pair_scalar, terms_scalar}
use Rattle.customer_bytes.proofs.store_terms.Goals as goal

pub returns : goal.returns
unfolding laid enc width
returns c =
    let s = c.args.c in
    let v = terms_to s in
    let k = pair_to s.transport in
    let j = pair_to s.working in
    let transport = simp add_assoc at (c.store_pair.ensures ∙ sym (laid_is pair_shape k (sized pair_shape pair_scalar k) (c.args.at + 5) c.write1-3.new.t (omega arith))) in
    let working = simp add_assoc at (c.store_pair-2.ensures ∙ sym (laid_is pair_shape j (sized pair_shape pair_scalar j) (c.args.at + 32) c.store_pair.new.t (omega arith))) in
    rw (
      c.write1-4.ensures,
      working,
      transport,
      c.write1-3.ensures,
      c.write1-2.ensures,
      c.write1.ensures,
      c.write_number.ensures,
      c.from.ensures,
      c.flag_number.ensures,
      c.flag_number-2.ensures,
    )
    (simp add_assoc at (laid_is terms_shape v (sized terms_shape terms_scalar v) c.args.at c.args.t.now (omega arith)))
