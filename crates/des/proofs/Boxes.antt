-- The rule of the eight boxes' table, by one test that antt computes over the whole of it: each entry is below 16, the entry stands
-- once in its row of sixteen, and so does the number of its column. So each row holds 0 to 15 once.
-- Assumes nothing.
use mathlib.Core.Path.{◌≡◌}
use mathlib.Core.Bool.{Bool}
use Prim.Native.Nat.{ℕ, ◌+◌, ◌*◌, ◌/◌, ◌%◌, ◌<◌}
use native.Mathlib.Omega.{arith}
use lib.Dec.{T, ltb, eqb, ltb→lt, eqb→eq}
use lib.ListN.{get_or}
use Rattle.des.specs.Tables.{boxes}
use Rattle.des.specs.Des.{box, box_at, row, times}
use Rattle.ground.specs.Choice.{both, one}
use Rattle.ground.proofs.Table.{at, both_left, both_right}

-- the number stands once in row i
once : ℕ → ℕ → Bool
once i v = eqb (times v (row i)) 1

test : ℕ → ℕ → Bool
test k x = both (ltb x 16) (both (once (k / 16) x) (once (k / 16) (k % 16)))

passes : (k : ℕ) → k < 512 → T (test k (get_or boxes k 0))
unfolding test once row times both one
passes k h = at test boxes tt k h

-- each entry is a number of four bits
pub entry_lt : (k : ℕ) → k < 512 → get_or boxes k 0 < 16
unfolding test
entry_lt k h = ltb→lt (get_or boxes k 0) 16 (both_left (ltb (get_or boxes k 0) 16) (rest k) (passes k h))
  where
    rest : ℕ → Bool
    rest k = both (once (k / 16) (get_or boxes k 0)) (once (k / 16) (k % 16))

module _ (k : ℕ) (h : k < 512) where
  onces : T (both (once (k / 16) (get_or boxes k 0)) (once (k / 16) (k % 16)))
  unfolding test
  onces = both_right (ltb (get_or boxes k 0) 16) (both (once (k / 16) (get_or boxes k 0)) (once (k / 16) (k % 16))) (passes k h)

  -- and stands once in its row
  pub entry_once : times (get_or boxes k 0) (row (k / 16)) ≡ 1
  unfolding once
  entry_once =
      eqb→eq (times (get_or boxes k 0) (row (k / 16))) 1
      (both_left (once (k / 16) (get_or boxes k 0)) (once (k / 16) (k % 16)) onces)

  column_once : times (k % 16) (row (k / 16)) ≡ 1
  unfolding once
  column_once =
      eqb→eq (times (k % 16) (row (k / 16))) 1
      (both_right (once (k / 16) (get_or boxes k 0)) (once (k / 16) (k % 16)) onces)

-- row i holds each number below 16 once
pub row_once : (i v : ℕ) → i < 32 → v < 16 → times v (row i) ≡ 1
row_once i v hi hv =
    let q : (16 * i + v) / 16 ≡ i = omega arith in
    let m : (16 * i + v) % 16 ≡ v = omega arith in
    rw (m, q) at (column_once (16 * i + v) (omega arith))

pub box-lt : (i v : ℕ) → i < 8 → v < 64 → box boxes i v < 16
unfolding box
box-lt i v hi hv = entry_lt (box_at i v) (omega arith)
