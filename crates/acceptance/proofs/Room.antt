-- Lists in 64 places: what is held of them, and one element more at the end.
-- Assumes nothing.
use mathlib.Core.Path.{◌≡◌, refl, sym, ap, ◌∙◌}
use mathlib.Core.List.{List, [], ◌∷◌, ◌++◌, append_assoc}
use Prim.Native.Nat.{ℕ, suc, ◌+◌, ◌-◌, ◌≤◌, ◌<◌}
use native.Mathlib.Omega.{arith}
use lib.ListN.{length, take, set, replicate, length-append}
use lib.Seq.{take-append-le, take-append-add, take_at, length-take-le, set_at}
use Rattle.ground.proofs.Parts.{take_zeros}
use Rattle.acceptance.specs.Stamps.{in_places}

-- a list and zeros after it
pub in_places_lem : (l : List ℕ) → length l ≤ 64 → in_places l ≡ l ++ replicate (64 - length l) 0
in_places_lem l h =
    let s : length l + (64 - length l) ≡ 64 = omega arith in
    ap (λ (n : ℕ). take n (l ++ replicate 64 0)) (sym s)
    ∙ take-append-add l (replicate 64 0) (64 - length l)
    ∙ ap (◌++◌ l) (take_zeros (64 - length l) 64 (omega arith))

pub length-in_places : (l : List ℕ) → length (in_places l) ≡ 64
length-in_places l = length-take-le 64 (l ++ replicate 64 0) (rw (length-append l (replicate 64 0)) (omega arith))

-- one more at the end, and one that finds no place
pub one_more : (l : List ℕ) (x : ℕ) → length l < 64 → set (in_places l) (length l) x ≡ in_places (l ++ (x ∷ []))
one_more l x h =
    let s : 64 - length l ≡ suc (64 - length (l ++ (x ∷ []))) = rw (length-append l (x ∷ [])) (omega arith) in
    let k : length (l ++ (x ∷ [])) ≤ 64 = rw (length-append l (x ∷ [])) (omega arith) in
    ap (λ (m : List ℕ). set m (length l) x) (in_places_lem l (omega arith) ∙ ap (λ (n : ℕ). l ++ replicate n 0) s)
    ∙ set_at l 0 (replicate (64 - length (l ++ (x ∷ []))) 0) x (length l) refl
    ∙ sym (append_assoc l (x ∷ []) (replicate (64 - length (l ++ (x ∷ []))) 0))
    ∙ sym (in_places_lem (l ++ (x ∷ [])) k)

pub no_more : (l : List ℕ) (x : ℕ) → length l ≡ 64 → in_places l ≡ in_places (l ++ (x ∷ []))
no_more l x h =
    take-append-le 64 l (replicate 64 0) (omega arith)
    ∙ sym (take-append-le 64 l ((x ∷ []) ++ replicate 64 0) (omega arith))
    ∙ ap (take 64) (sym (append_assoc l (x ∷ []) (replicate 64 0)))

-- what is held of a list in its places is the list
pub all_held : (l : List ℕ) (n : ℕ) → length l ≡ n → n ≤ 64 → take n (in_places l) ≡ l
all_held l n e h = ap (take n) (in_places_lem l (omega arith)) ∙ take_at l (replicate (64 - length l) 0) n e
