-- The fields are written one after the other.
use mathlib.Core.Path.{◌≡◌}
use Prim.Native.Nat.{◌≤◌}
use native.Mathlib.Omega.{arith}
use lib.ListN.{length}
use Rattle.codec.specs.Layout.{Sized, laid, width}
use Rattle.codec.proofs.Laws.{laid_is}
use Rattle.session_bytes.specs.Session.{gathered_shape, gathered_to}
use borrow.Author.Rules.{rules}
use Rattle.session_bytes.proofs.store_gathered.Goals as goal

pub returns : goal.returns
unfolding laid width
returns c = let g = c.args.g in
    let t = c.args.b.now in
    let h : 228 ≤ length t = omega (arith, c.requires) in
    let n : length g.text ≡ 161 = search rules in
    let z : Sized gathered_shape (gathered_to g) = (tt, (tt, n)) in
    record {
      written = rw (
        c.write_bytes.ensures,
        c.write1.ensures,
        c.flag_number.ensures,
        c.write_number.ensures,
      )
          (laid_is gathered_shape (gathered_to g) z 62 t h);
      sizes = z;
    }
