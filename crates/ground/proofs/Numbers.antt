-- Laws of numbers: two are equal, or one is below the other, and what a test of two says.
-- Assumes nothing.
use mathlib.Core.Path.{◌≡◌, refl, sym, subst, ◌∙◌}
use mathlib.Core.Bool.{Bool, true, false, not}
use mathlib.Core.Logic.{◌⊎◌, inl, inr}
use Prim.Native.Nat.{ℕ, suc, ◌+◌, ◌*◌, ◌≤◌, ◌<◌}
use native.Mathlib.Nat.{add_comm, mul-suc}
use borrow.Author.Tests.{eq-eqb, ne_eqb, eqb-true, eqb-false, ltb-true, ltb-false, leb-true, leb-false}
use lib.Dec.{eqb, ltb, leb}
use Rattle.ground.proofs.Bools.{passed, refused}

-- one number is below another, or not
pub below : (a b : ℕ) → (a < b) ⊎ (b ≤ a)
below a b = go (ltb a b) refl
  where
    go : (t : Bool) → ltb a b ≡ t → (a < b) ⊎ (b ≤ a)
    go true e = inl (ltb-true a b e)
    go false e = inr (ltb-false a b e)

-- what holds of a number and of all others holds of each
pub each_place : (P : ℕ → Type 0) (i : ℕ) → P i → ((j : ℕ) → (i ≡ j → ⊥) → P j) → (j : ℕ) → P j
each_place P i p q j = by (eqb i j) refl
  where
    by : (b : Bool) → eqb i j ≡ b → P j
    by true e = subst P (eqb-true i j e) p
    by false e = q j (eqb-false i j e)

pub eqb_turned : (a b : ℕ) → eqb a b ≡ eqb b a
eqb_turned a b = go (eqb b a) refl
  where
    go : (t : Bool) → eqb b a ≡ t → eqb a b ≡ t
    go true e = eq-eqb a b (sym (eqb-true b a e))
    go false e = ne_eqb a b (λ p. eqb-false b a e (sym p))

-- a call's answer r is whether m is at most n: what fits, and what does not
pub room : (m n : ℕ) (r : Bool) → r ≡ leb m n → not r ≡ false → m ≤ n
room m n r e h = leb-true m n (passed e h)

pub no_room : (m n : ℕ) (r : Bool) → r ≡ leb m n → not r ≡ true → n < m
no_room m n r e h = leb-false m n (refused e h)

-- w for one, and for those past it
pub one_and : (w n : ℕ) → w * suc n ≡ w + w * n
one_and w n = mul-suc w n ∙ add_comm (w * n) w
