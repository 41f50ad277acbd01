use mathlib.Core.Path.{◌≡◌}
use Prim.Native.Nat.{◌<◌, ◌^◌}
use lib.ListN.{drop}
use Rattle.des.specs.Joined.{joined_rounds, between_by}
use Rattle.des.proofs.between.Given as goal

abbrev pub invariant-loop-k : goal.invariant-loop-k
invariant-loop-k l =
    (l.l < 2 ^ 32) × (l.r < 2 ^ 32) × (joined_rounds l.t (drop l.k-index l.fn.ks) l.l l.r ≡ between_by l.t l.fn.ks l.halves)
