-- Dates in an array of 200: one more at each turn.
-- Assumes nothing.
use mathlib.Core.Path.{◌≡◌, sym, ap, ◌∙◌}
use mathlib.Core.List.{List, ◌++◌}
use mathlib.Core.Logic.{⊎_elim}
use Prim.Native.Nat.{ℕ, ◌+◌, ◌-◌, ◌*◌, ◌≤◌, ◌<◌}
use native.Mathlib.Omega.{arith}
use lib.ListN.{length, get_or, set, replicate, length-append, length-take, length-set, length-replicate, get_or-replicate}
use lib.ListN.{get_or-append}
use lib.Seq.{ext_get_or, get_or-take, get_or-append-add, get_or-set_other}
use Rattle.ground.specs.Lists.{part}
use Rattle.ground.proofs.Numbers.{below}
use Rattle.ground.proofs.Lists.{filled_more}
use Rattle.splices.specs.Bytes.{num}
use Rattle.table.specs.Tests.{dates_at, filled}
use Rattle.table.proofs.Turns

-- ---- dates that are read

-- the first i are there, and the room after them is zero
pub record Some (at n i : ℕ) (b out : List ℕ) : Type 0 where
  pub within : i ≤ n
  pub long : length out ≡ 200
  pub these : (k : ℕ) → k < i → get_or out k 0 ≡ num (part (at + 4 * k) 4 b)
  pub zeros : (k : ℕ) → i ≤ k → k < 200 → get_or out k 0 ≡ 0

pub some_none : (at n : ℕ) (b : List ℕ) → Some at n 0 b (replicate 200 0)
some_none at n b =
    record {
      within = omega arith;
      long = length-replicate {A = ℕ} 200 0;
      these = λ k h. absurd (omega arith);
      zeros = λ k h j. get_or-replicate 200 k 0 0 j;
    }

pub some_more : (at n i : ℕ) (b out : List ℕ) (v : ℕ) → n ≤ 200 → i < n → v ≡ num (part (at + 4 * i) 4 b) → Some at n i b out
    → Some at n (i + 1) b (set out i v)
some_more at n i b out v m h e s =
    record {
      within = omega arith;
      long = length-set out i v ∙ s.long;
      these = filled_more (λ (k : ℕ). num (part (at + 4 * k) 4 b)) out i v (omega (arith, s.long)) e s.these;
      zeros = λ k j q. get_or-set_other out i k v 0 (λ x. omega arith) ∙ s.zeros k (omega arith) q;
    }

pub some_all : (at n i : ℕ) (b out : List ℕ) → n ≤ 200 → n ≤ i → Some at n i b out → out ≡ filled (dates_at at n b)
some_all at n i b out m h s =
    ext_get_or 0 out (filled (dates_at at n b)) (s.long ∙ sym long) (λ k q. each k (omega (arith, s.long)))
  where
    room : length (dates_at at n b ++ replicate 200 0) ≡ n + 200
    room = length-append (dates_at at n b) (replicate 200 0) ∙ ap (λ (k : ℕ). k + 200) (Turns.dates_length at n b)

    long : length (filled (dates_at at n b)) ≡ 200
    long = length-take 200 (dates_at at n b ++ replicate 200 0) ∙ omega (arith, room)

    each : (k : ℕ) → k < 200 → get_or out k 0 ≡ get_or (filled (dates_at at n b)) k 0
    each k q =
        ⊎_elim
        (λ (j : k < n).
        s.these k (omega (arith, s.within))
        ∙ sym (get_or-take 200 (dates_at at n b ++ replicate 200 0) k 0 q
        ∙ get_or-append (dates_at at n b) (replicate 200 0) 0 k (omega (arith, Turns.dates_length at n b))
        ∙ sym (Turns.get_or_dates n at b k j)))
        (λ (j : n ≤ k).
        let x : k ≡ length (dates_at at n b) + (k - n) = omega (arith, Turns.dates_length at n b) in
        s.zeros k (omega (arith, s.within)) q
        ∙ sym (get_or-take 200 (dates_at at n b ++ replicate 200 0) k 0 q
        ∙ ap (λ (y : ℕ). get_or (dates_at at n b ++ replicate 200 0) y 0) x
        ∙ get_or-append-add (dates_at at n b) (replicate 200 0) (k - n) 0
        ∙ get_or-replicate 200 (k - n) 0 0 (omega arith)))
        (below k n)
