-- Each number is the one at its place.
use mathlib.Core.Path.{refl}
use Prim.Native.Nat.{◌*◌}
use native.Mathlib.Omega.{arith}
use lib.ListN.{length}
use Rattle.splices.proofs.Chunks.{filled_nums}
use Rattle.codec.proofs.read_numbers.Goals as goal

pub returns : goal.returns
returns c =
    let l = c.loop-i in
    let n = length c.args.out.now in
    filled_nums 8 c.args.t.now l.out c.args.at n (8 * n) refl c.requires (omega arith) (λ k h. l.invariant k (omega arith))
