-- The fields are written one after the other.
use mathlib.Core.Path.{◌≡◌}
use Prim.Native.Nat.{◌≤◌}
use native.Mathlib.Omega.{arith}
use lib.ListN.{length}
use Rattle.codec.specs.Layout.{Sized, laid, width}
use Rattle.codec.proofs.Laws.{laid_is}
use Rattle.desk_bytes.specs.Layout.{names_shape, names_to}
use borrow.Author.Rules.{rules}
use Rattle.desk_bytes.proofs.put_names.Goals as goal

pub returns : goal.returns
unfolding laid width
returns c = let s = c.args.s in
    let t = c.args.b.now in
    let h : 52 ≤ length t = omega (arith, c.requires) in
    let n : length s.receiver ≡ 25 = search rules in
    let m : length s.sender ≡ 25 = search rules in
    let z : Sized names_shape (names_to s) = (n, (m, (tt, tt))) in
    record {
      written = rw (c.write1-2.ensures, c.write1.ensures, c.write_bytes-2.ensures, c.write_bytes.ensures)
          (laid_is names_shape (names_to s) z 0 t h);
      sizes = z;
    }
