-- A text filled with blanks is its start and the rest filled with blanks, since blanks past the end are cut.
-- Assumes nothing.
use mathlib.Core.Path.{◌≡◌, refl, sym, ap, ◌∙◌}
use mathlib.Core.List.{List, [], ◌∷◌, ◌++◌, append_assoc}
use Prim.Native.Nat.{ℕ, zero, suc, ◌+◌, ◌-◌, ◌≤◌}
use native.Mathlib.Omega.{arith}
use lib.ListN.{length, take, replicate, replicate-append-replicate}
use lib.Seq.{take_at, take-take, take-append-add}
use Rattle.text.specs.Characters.{blank, padded}

-- as many blanks as the field is wide are enough
pub enough : (n k : ℕ) (l : List ℕ) → n ≤ k → take n (l ++ replicate k blank) ≡ padded n l
unfolding padded
enough zero k l h = refl
enough (suc n) zero l h = absurd (omega arith)
enough (suc n) (suc k) [] h = ap (λ (t : List ℕ). blank ∷ t) (enough n k [] (omega arith))
enough (suc n) (suc k) (x ∷ l) h =
    ap (λ (t : List ℕ). x ∷ t) (enough n (suc k) l (omega arith) ∙ sym (enough n (suc n) l (omega arith)))

-- what comes after the first text is filled by itself
pub after : (k n : ℕ) (v w : List ℕ) → length v ≡ k → padded (k + n) (v ++ w) ≡ v ++ padded n w
unfolding padded
after k n v w e =
    ap (λ (j : ℕ). take (j + n) (v ++ w ++ replicate (k + n) blank)) (sym e)
    ∙ ap (take (length v + n)) (append_assoc v w (replicate (k + n) blank))
    ∙ take-append-add v (w ++ replicate (k + n) blank) n
    ∙ ap (λ (r : List ℕ). v ++ r) (enough n (k + n) w (omega arith))

-- a text and another after it, each filled with blanks, are both filled with blanks
pub joined_is : (size n : ℕ) (v w : List ℕ) → length v ≡ n → n ≤ size
    → take n (padded size v) ++ take (size - n) (padded size w) ≡ padded size (v ++ w)
unfolding padded
joined_is size n v w e h =
    let m : n + (size - n) ≡ size = omega arith in
    ap (λ (r : List ℕ). r ++ take (size - n) (padded size w)) (take-take n size (v ++ replicate size blank) h
    ∙ take_at v (replicate size blank) n e)
    ∙ ap (λ (r : List ℕ). v ++ r) (take-take (size - n) size (w ++ replicate size blank) (omega arith)
    ∙ enough (size - n) size w (omega arith))
    ∙ sym (after n (size - n) v w e)
    ∙ ap (λ (j : ℕ). padded j (v ++ w)) m

-- a text that was filled may be filled again
pub filled_again : (size n : ℕ) (v : List ℕ) → length v ≤ n → padded size (padded n v) ≡ padded size v
unfolding padded
filled_again size n v h =
    let m : length v + (n - length v) ≡ n = omega arith in
    let k : ℕ = n - length v in
    ap (padded size) (ap (λ (j : ℕ). take j (v ++ replicate n blank)) (sym m) ∙ take-append-add v (replicate n blank) k)
    ∙ ap (λ (r : List ℕ). padded size (v ++ r)) (enough k n [] (omega arith) ∙ blanks k)
    ∙ ap (take size) (append_assoc v (replicate k blank) (replicate size blank))
    ∙ ap (λ (r : List ℕ). take size (v ++ r)) (replicate-append-replicate k size blank)
    ∙ enough size (k + size) v (omega arith)
  where
    blanks : (j : ℕ) → take j (replicate j blank) ≡ replicate j blank
    blanks zero = refl
    blanks (suc j) = ap (λ (t : List ℕ). blank ∷ t) (blanks j)
