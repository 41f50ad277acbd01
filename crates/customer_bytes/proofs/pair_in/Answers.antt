-- What is read is the fields, one after the other.
use mathlib.Core.Path.{◌≡◌}
use Prim.Native.Nat.{◌+◌}
use native.Mathlib.Omega.{arith}
use Rattle.codec.specs.Layout.{dec, width}
use Rattle.customer_bytes.proofs.pair_in.Goals as goal

pub returns : goal.returns
unfolding dec width
returns c =
    let e : c.args.at + 1 + 8 ≡ c.args.at + 9 = omega arith in cc
