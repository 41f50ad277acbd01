-- The fields are written one after the other.
use mathlib.Core.Path.{◌≡◌}
use Prim.Native.Nat.{◌≤◌}
use native.Mathlib.Omega.{arith}
use lib.ListN.{length}
use Rattle.codec.specs.Layout.{Sized, laid, width}
use Rattle.codec.proofs.Laws.{laid_is}
use Rattle.session_bytes.specs.Session.{suo_shape, suo_to}
use borrow.Author.Rules.{rules}
use Rattle.session_bytes.proofs.store_suo.Goals as goal

pub returns : goal.returns
unfolding laid width
returns c = let m = c.args.c in
    let t = c.args.b.now in
    let h : 391 ≤ length t = omega (arith, c.requires) in
    let n : length m.text ≡ 161 = search rules in
    let z : Sized suo_shape (suo_to m) = (tt, (tt, n)) in
    record {
      written = rw (
        c.write_bytes.ensures,
        c.write1-2.ensures,
        c.flag_number.ensures,
        c.write1.ensures,
        c.extent_number.ensures,
      )
          (laid_is suo_shape (suo_to m) z 228 t h);
      sizes = z;
    }
