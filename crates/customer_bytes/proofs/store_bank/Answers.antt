-- The fields are written one after the other.
use mathlib.Core.Path.{◌≡◌}
use Rattle.std.proofs.Math.Nat.{add_assoc}
use lib.ListN.{length}
use borrow.Author.Rules.{rules}
use Rattle.codec.specs.Layout.{Sized, laid, enc, width}
use Rattle.codec.proofs.Laws.{laid_is}
use Rattle.customer_bytes.specs.Layout.{settings_shape, settings_to, settings_bytes}
use Rattle.customer_bytes.proofs.store_bank.Goals as goal

pub returns : goal.returns
unfolding settings_bytes laid enc width
returns c =
    let s = c.args.s in
    let n : length s.bank ≡ 25 = search rules in
    let m : length s.software ≡ 16 = search rules in
    let z : Sized settings_shape (settings_to s) = (n, (m, (tt, (tt, tt)))) in
    rw (
      c.write8-2.ensures,
      c.write8.ensures,
      c.write1.ensures,
      c.write_bytes-2.ensures,
      c.write_bytes.ensures,
    )
    (simp add_assoc at (laid_is settings_shape (settings_to s) z c.args.at c.args.t.now c.requires))
