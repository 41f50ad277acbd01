-- Two parts written side by side into one field are the two joined.
-- Assumes nothing.
use mathlib.Core.Path.{◌≡◌, refl, ap, ◌∙◌}
use mathlib.Core.List.{List, [], ◌∷◌, ◌++◌, append-nil}
use Prim.Native.Nat.{ℕ, ◌+◌, ◌≤◌}
use native.Mathlib.Omega.{arith}
use borrow.Rule.Slice.PartMut.{put_mid}
use lib.ListN.{length, take, drop, length-append, drop_of_length-le}
use lib.Seq.{take_at, drop_at, take_all}
use Rattle.text.specs.Characters.{padded}
use Rattle.text.proofs.Laws.{padded-length}
use Rattle.cli_words.specs.Forms.{who_of}

module _ (p z : List ℕ) (n m : ℕ) (e : length p ≡ n) (f : length z ≡ m) where
  pub joined_length : n + m ≤ length (p ++ z)
  joined_length = omega (arith, length-append p z)

  joined : (q : List ℕ) → put_mid n m (p ++ z) q ≡ p ++ q
  joined q =
      ap (λ (x : List ℕ). x ++ (q ++ drop m (drop n (p ++ z)))) (take_at p z n e)
      ∙ ap (λ (x : List ℕ). p ++ (q ++ drop m x)) (drop_at p z n e)
      ∙ ap (λ (x : List ℕ). p ++ (q ++ x)) (drop_of_length-le z {i = m} (omega arith))
      ∙ ap (λ (x : List ℕ). p ++ x) (append-nil q)

  lent : length (take m (drop n (p ++ z))) ≡ m
  lent =
      ap (λ (x : List ℕ). length (take m x)) (drop_at p z n e)
      ∙ ap length (take_all m z (omega arith))
      ∙ f

abbrev zeros : List ℕ
zeros = 0 ∷ 0 ∷ 0 ∷ 0 ∷ 0 ∷ 0 ∷ 0 ∷ 0 ∷ []

pub identity_length : (p identity : List ℕ) → p ≡ padded 17 identity → 25 ≤ length (p ++ zeros)
identity_length p identity e = joined_length p zeros 17 8 (ap length e ∙ padded-length 17 identity) refl

pub sides : (p q identity qualifier : List ℕ) → p ≡ padded 17 identity → q ≡ padded (length (take 8 (drop 17 (p ++ zeros)))) qualifier
    → put_mid 17 8 (p ++ zeros) q ≡ who_of identity qualifier
unfolding who_of
sides p q identity qualifier e f =
    let k : length p ≡ 17 = ap length e ∙ padded-length 17 identity in
    joined p zeros 17 8 k refl q
    ∙ ap (λ (x : List ℕ). x ++ q) e
    ∙ ap (λ (x : List ℕ). padded 17 identity ++ x) (f ∙ ap (λ (n : ℕ). padded n qualifier) (lent p zeros 17 8 k refl))
