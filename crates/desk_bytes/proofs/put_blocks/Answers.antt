-- The fields are written one after the other.
use mathlib.Core.Path.{◌≡◌}
use Prim.Native.Nat.{◌≤◌}
use native.Mathlib.Omega.{arith}
use lib.ListN.{length}
use Rattle.codec.specs.Layout.{Sized, laid, width}
use Rattle.codec.proofs.Laws.{laid_is}
use Rattle.desk_bytes.specs.Layout.{blocks_shape, blocks_to}
use borrow.Author.Rules.{rules}
use Rattle.desk_bytes.proofs.put_blocks.Goals as goal

pub returns : goal.returns
unfolding laid width
returns c = let s = c.args.s in
    let t = c.args.b.now in
    let h : 100 ≤ length t = omega (arith, c.requires) in
    let n : length s.stamp ≡ 15 = search rules in
    let m : length s.once ≡ 16 = search rules in
    let p : length s.digest ≡ 16 = search rules in
    let z : Sized blocks_shape (blocks_to s) = (n, (tt, (m, p))) in
    record {
      written = rw (c.write_bytes-3.ensures, c.write_bytes-2.ensures, c.write1.ensures, c.write_bytes.ensures)
          (laid_is blocks_shape (blocks_to s) z 52 t h);
      sizes = z;
    }
