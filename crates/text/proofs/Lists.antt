-- A text laid over blanks is that text padded, by induction over the places.
-- Assumes nothing.
use mathlib.Core.Path.{◌≡◌, ap}
use mathlib.Core.List.{List, [], ◌∷◌, ◌++◌}
use Prim.Native.Nat.{ℕ, zero, suc, ◌≤◌}
use native.Mathlib.Nat.{not-suc-le-zero, le_of_suc-le-suc, le_refl, le_of_lt}
use lib.ListN.{length, take, drop, replicate, length-replicate}
use lib.Seq.{take-nil, drop-nil}
use Rattle.ground.specs.Lists.{overlay}
use Rattle.text.specs.Characters.{blank, padded}

pad_within : (n k : ℕ) (l : List ℕ) → n ≤ k → take n l ++ drop (length l) (replicate n blank) ≡ take n (l ++ replicate k blank)
pad_within zero k l h = drop-nil (length l)
pad_within (suc n) zero l h = absurd (not-suc-le-zero h)
pad_within (suc n) (suc k) [] h = ap (λ (t : List ℕ). blank ∷ t) (rw (take-nil {A = ℕ} n) at (pad_within n k [] (le_of_suc-le-suc h)))
pad_within (suc n) (suc k) (x ∷ l) h = ap (λ (t : List ℕ). x ∷ t) (pad_within n (suc k) l (le_of_lt h))

pub overlay-padded : (n : ℕ) (l : List ℕ) → overlay l (replicate n blank) ≡ padded n l
unfolding overlay padded
overlay-padded n l = rw (length-replicate n blank) (pad_within n n l (le_refl n))
