-- What is read is the fields, one after the other.
use mathlib.Core.Path.{◌≡◌}
use mathlib.Core.List.{List}
use Prim.Native.Nat.{ℕ, ◌+◌, ◌≤◌}
use native.Mathlib.Omega.{arith}
use lib.ListN.{length, get_or}
use Rattle.ground.specs.Lists.{part}
use Rattle.ground.proofs.Parts.{part1}
use Rattle.splices.specs.Bytes.{num}
use Rattle.codec.specs.Layout.{dec, width}
use Rattle.desk_bytes.specs.Bytes.{sent_of}
use Rattle.desk_bytes.proofs.sent_in.Goals as goal

-- one byte as a number
one_byte : (l : List ℕ) (at : ℕ) → at + 1 ≤ length l → get_or l at 0 ≡ num (part at 1 l)
unfolding num
one_byte l at h = rw (part1 l at h) (omega arith)

pub returns : goal.returns
unfolding sent_of dec width
returns c =
    let l = c.args.b.now in
    let n : length l ≡ 100 = c.requires in
    let t = one_byte l 50 (omega arith) in
    let w = one_byte l 51 (omega arith) in
    let r = one_byte l 67 (omega arith) in
    λ i. record {
      receiver = c.read_bytes.ensures i;
      sender = c.read_bytes-2.ensures i;
      transport = t i;
      working = w i;
      stamp = c.read_bytes-3.ensures i;
      area = r i;
      once = c.read_bytes-4.ensures i;
      digest = c.read_bytes-5.ensures i;
    }
