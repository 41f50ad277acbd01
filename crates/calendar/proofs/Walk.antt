-- A walk over lengths that are laid end to end, as months in a year and years in the century: where a place lies.
-- Assumes nothing.
use mathlib.Core.Path.{◌≡◌, ap, ◌∙◌, subst}
use mathlib.Core.Logic.{⊎_elim}
use Prim.Native.Nat.{ℕ, zero, suc, ◌+◌, ◌-◌, ◌*◌, ◌≤◌, ◌<◌}
use native.Mathlib.Nat.{mul-suc, add-zero}
use native.Mathlib.Omega.{arith}
use borrow.Author.Tests.{lt-ltb, le-ltb}
use lib.Dec.{ltb}
use Rattle.ground.specs.Choice.{pick}
use Rattle.ground.proofs.Choices.{picks, skips}
use Rattle.ground.proofs.Numbers.{below}

-- the leaf of place k counted from the start of length m, of n lengths that are left; past them `last`
unfoldable pub walk : (ℕ → ℕ) → (ℕ → ℕ → ℕ) → ℕ → ℕ → ℕ → ℕ → ℕ
walk w leaf last m k zero = last
walk w leaf last m k (suc n) = pick (ltb k (w m)) (leaf m k) (walk w leaf last (m + 1) (k - w m) n)

module _ (w : ℕ → ℕ) (leaf : ℕ → ℕ → ℕ) (last : ℕ) where
  pub here : (m k e : ℕ) → m < e → k < w m → walk w leaf last m k (e - m) ≡ leaf m k
  unfolding walk
  here m k e h p =
      let s : e - m ≡ suc (e - (m + 1)) = omega arith in rw s (picks _ _ _ (lt-ltb k (w m) p))

  pub on : (m k e : ℕ) → m < e → w m ≤ k → walk w leaf last m k (e - m) ≡ walk w leaf last (m + 1) (k - w m) (e - (m + 1))
  unfolding walk
  on m k e h p =
      let s : e - m ≡ suc (e - (m + 1)) = omega arith in rw s (skips _ _ _ (le-ltb k (w m) p))

  pub over : (m k e : ℕ) → e ≤ m → walk w leaf last m k (e - m) ≡ last
  unfolding walk
  over m k e h = let s : e - m ≡ zero = omega arith in rw s

-- S m is what lies before length m, from b on
module _ (w S : ℕ → ℕ) (b : ℕ) (step : (m : ℕ) → b ≤ m → S (m + 1) ≡ S m + w m) where
  pub rises : (j m : ℕ) → b ≤ m → S m ≤ S (m + j)
  rises zero m h = rw (add-zero m) (omega arith)
  rises (suc j) m h =
      let s : S (m + j + 1) ≡ S (m + j) + w (m + j) = step (m + j) (omega arith) in
      let e : m + suc j ≡ m + j + 1 = omega arith in rw e (omega (arith, rises j m h))

  pub mono : (m i : ℕ) → b ≤ m → m ≤ i → S m ≤ S i
  mono m i h p = let e : m + (i - m) ≡ i = omega arith in rw e at (rises (i - m) m h)

  -- lengths of at most c
  pub most : (c : ℕ) → S b ≡ 0 → ((m : ℕ) → w m ≤ c) → (n : ℕ) → S (b + n) ≤ c * n
  most c z l zero = rw (add-zero b) (omega arith)
  most c z l (suc n) =
      let s : S (b + n + 1) ≡ S (b + n) + w (b + n) = step (b + n) (omega arith) in
      let e : b + suc n ≡ b + n + 1 = omega arith in
      rw (e, mul-suc c n) (omega (arith, l (b + n), most c z l n))

  -- each place lies in some length
  pub found : (n k : ℕ) → S b ≤ k → k < S (b + n) → (i : ℕ) × (b ≤ i) × (i < b + n) × (S i ≤ k) × (k < S (i + 1))
  found zero k p q = absurd (let h : k < S b = rw (add-zero b) at q in omega arith)
  found (suc n) k p q =
      let e : b + suc n ≡ b + n + 1 = omega arith in
      ⊎_elim (λ h.
      let f = found n k p h in (f.0, f.1, omega (arith, f.2), f.3, f.4))
      (λ h. (b + n, omega arith, omega arith, h, rw e at q))
      (below k (S (b + n)))

  module _ (leaf : ℕ → ℕ → ℕ) (last : ℕ) where
    -- and the walk ends there
    lands_by : (j m k e : ℕ) → b ≤ m → m + j < e → S (m + j) ≤ k → k < S (m + j + 1)
        → walk w leaf last m (k - S m) (e - m) ≡ leaf (m + j) (k - S (m + j))
    lands_by zero m k e h l p q =
        let z : m + zero ≡ m = add-zero m in
        let q' : k < S (m + 1) = rw z at q in
        let p' : S m ≤ k = rw z at p in
        let s : S (m + 1) ≡ S m + w m = step m h in rw z (here w leaf last m (k - S m) e (omega arith) (omega arith))
    lands_by (suc j) m k e h l p q =
        let a : m + suc j ≡ m + 1 + j = omega arith in
        let s : S (m + 1) ≡ S m + w m = step m h in
        let p' : S (m + 1 + j) ≤ k = rw a at p in
        let q' : k < S (m + 1 + j + 1) = rw a at q in
        let r : k - S m - w m ≡ k - S (m + 1) = omega arith in
        rw a
        (on w leaf last m (k - S m) e (omega arith) (omega (arith, rises j (m + 1) (omega arith)))
        ∙ ap (λ (x : ℕ). walk w leaf last (m + 1) x (e - (m + 1))) r
        ∙ lands_by j (m + 1) k e (omega arith) (omega arith) p' q')

    pub lands : (i k e : ℕ) → S b ≡ 0 → b ≤ i → i < e → S i ≤ k → k < S (i + 1) → walk w leaf last b k (e - b) ≡ leaf i (k - S i)
    lands i k e z h l p q =
        let a : b + (i - b) ≡ i = omega arith in
        let r : k - S b ≡ k = omega arith in
        subst (λ (x : ℕ). walk w leaf last b x (e - b) ≡ leaf i (k - S i)) r
        (subst (λ (x : ℕ). walk w leaf last b (k - S b) (e - b) ≡ leaf x (k - S x)) a
        (lands_by (i - b) b k e (omega arith) (omega arith) (rw a p) (rw a q)))

    past_by : (j m k : ℕ) → b ≤ m → S (m + j) ≤ k → walk w leaf last m (k - S m) (m + j - m) ≡ last
    past_by zero m k h p = over w leaf last m (k - S m) (m + zero) (omega arith)
    past_by (suc j) m k h p =
        let a : m + suc j ≡ m + 1 + j = omega arith in
        let s : S (m + 1) ≡ S m + w m = step m h in
        let p' : S (m + 1 + j) ≤ k = rw a at p in
        let r : k - S m - w m ≡ k - S (m + 1) = omega arith in
        rw a
        (on w leaf last m (k - S m) (m + 1 + j) (omega arith) (omega (arith, rises j (m + 1) (omega arith)))
        ∙ ap (λ (x : ℕ). walk w leaf last (m + 1) x (m + 1 + j - (m + 1))) r
        ∙ past_by j (m + 1) k (omega arith) p')

    -- past the end it finds the last
    pub past : (k e : ℕ) → S b ≡ 0 → b ≤ e → S e ≤ k → walk w leaf last b k (e - b) ≡ last
    past k e z h p =
        let a : b + (e - b) ≡ e = omega arith in
        let r : k - S b ≡ k = omega arith in
        subst (λ (x : ℕ). walk w leaf last b x (e - b) ≡ last) r
        (subst (λ (x : ℕ). walk w leaf last b (k - S b) (x - b) ≡ last) a (past_by (e - b) b k (omega arith) (rw a p)))
