-- Laws of tests alone: what follows from a test that holds or fails, and how code that turns a test round or stops early says the same.
-- Assumes nothing.
use mathlib.Core.Path.{◌≡◌, refl, sym, ap, subst, ◌∙◌}
use mathlib.Core.Bool.{Bool, true, false, not}
use mathlib.Core.Logic.{◌⊎◌, inl, inr}
use Prim.Native.Nat.{ℕ, ◌≤◌, ◌<◌}
use native.Mathlib.Omega.{arith}
use borrow.Author.Tests.{eq-eqb, ne_eqb, not-true, not-false}
use lib.Dec.{T, eqb}
use Rattle.ground.specs.Choice.{both, either, fails, pick, one}
use Rattle.ground.proofs.Choices.{left, right, join, fails_left, fails_right, decides, either_left, either_decides, picks, skips}

-- ---- a test that holds, fails, or can do neither

pub outcome : (t : Bool) → (t ≡ true) ⊎ (t ≡ false)
outcome true = inl refl
outcome false = inr refl

pub tested : (t : Bool) → T t → t ≡ true
tested true h = refl
tested false h = absurd h

-- a test that cannot hold fails, and one that cannot fail holds
pub refuted : (t : Bool) → (t ≡ true → ⊥) → t ≡ false
refuted true n = absurd (n refl)
refuted false n = refl

pub unless : (t : Bool) → (t ≡ false → true ≡ false) → t ≡ true
unless true f = refl
unless false f = sym (f refl)

pub clash : (t : Bool) → t ≡ true → t ≡ false → ⊥
clash t p q = let z : ◌≡◌ {A = ℕ} 0 1 = cc in omega arith

-- two tests that decide the same, and two that choose the same
pub decided : (t u : Bool) → (t ≡ true → u ≡ true) → (u ≡ true → t ≡ true) → t ≡ u
decided true u f g = sym (f refl)
decided false u f g = sym (refuted u (λ e. clash false (g e) refl))

pub agreed : (a b : Bool) → pick a b (fails b) ≡ true → a ≡ b
unfolding pick fails
agreed true b e = sym e
agreed false true e = cc
agreed false false e = refl

-- what holds of both choices where each is made holds of the choice
pub picked : {A : Type 0} (P : A → Type 0) (t : Bool) (a b : A) → (t ≡ true → P a) → (t ≡ false → P b) → P (pick t a b)
unfolding pick
picked P true a b p q = p refl
picked P false a b p q = q refl

pub picked_each : {A : Type 0} (P : A → Type 0) (t : Bool) (a b : A) → P a → P b → P (pick t a b)
picked_each P t a b p q = picked P t a b (λ e. p) (λ e. q)

-- the same, where a call's answer r is the test
module _ {A : Type 0} (P : A → Type 0) (x y : A) where
  pub chosen : (t r : Bool) → r ≡ t → r ≡ true → P x → P (pick t x y)
  chosen t r e h p = subst P (sym (picks t x y (sym e ∙ h))) p

  pub skipped : (t r : Bool) → r ≡ t → r ≡ false → P y → P (pick t x y)
  skipped t r e h p = subst P (sym (skips t x y (sym e ∙ h))) p

-- ---- a test turned round

pub fails_of : (t : Bool) → t ≡ false → fails t ≡ true
unfolding fails
fails_of t e = ap fails e

pub not_failed : (t : Bool) → t ≡ true → fails t ≡ false
unfolding fails
not_failed t e = ap fails e

pub not-fails : (t : Bool) → not t ≡ fails t
unfolding fails
not-fails true = refl
not-fails false = refl

-- a call's answer r is the test a, or the test a turned round
pub said : {r a v : Bool} → r ≡ a → r ≡ v → a ≡ v
said e p = sym e ∙ p

pub turned : {r a : Bool} → r ≡ a → not r ≡ fails a
turned {r} e = not-fails r ∙ ap fails e

pub turned_pick : (r a : Bool) → r ≡ a → not r ≡ pick a false true
unfolding pick fails
turned_pick r true e = turned e
turned_pick r false e = turned e

pub unsaid : {r a v : Bool} → r ≡ a → not r ≡ v → fails a ≡ v
unsaid e p = sym (turned e) ∙ p

pub refused : {r a : Bool} → r ≡ a → not r ≡ true → a ≡ false
refused {r} e p = sym e ∙ not-true r p

pub passed : {r a : Bool} → r ≡ a → not r ≡ false → a ≡ true
passed {r} e p = sym e ∙ not-false r p

pub denied : {r a : Bool} → r ≡ a → r ≡ true → fails a ≡ false
denied {r} {a} e p = not_failed a (sym e ∙ p)

pub granted : {r a : Bool} → r ≡ a → r ≡ false → fails a ≡ true
granted {r} {a} e p = fails_of a (sym e ∙ p)

pub differ : (x y : ℕ) → (x ≡ y → ⊥) → fails (eqb x y) ≡ true
differ x y h = fails_of _ (ne_eqb x y h)

pub agree : (x y : ℕ) → x ≡ y → fails (eqb x y) ≡ false
agree x y h = not_failed _ (eq-eqb x y h)

-- ---- chains of tests, as code answers them: the first that fails, or holds, decides, and past those that do not the rest

pub stop : (a b : Bool) → a ≡ false → false ≡ both a b
stop a b p = sym (fails_left a b p)

pub later : (a b : Bool) → false ≡ b → false ≡ both a b
later a b p = sym (fails_right a b (sym p))

pub past : (r a b : Bool) → a ≡ true → r ≡ b → r ≡ both a b
past r a b p q = q ∙ sym (decides a b p)

pub holds : (a b : Bool) → a ≡ true → true ≡ either a b
holds a b p = sym (either_left a b p)

pub rests : (r a b : Bool) → a ≡ false → r ≡ b → r ≡ either a b
rests r a b p q = q ∙ sym (either_decides a b p)

pub neither : (a b : Bool) → either a b ≡ false → (a ≡ false) × (b ≡ false)
unfolding either
neither true b e = (e, cc)
neither false b e = (refl, e)

pub either_none : (a b : Bool) → a ≡ false → b ≡ false → either a b ≡ false
either_none a b p q = either_decides a b p ∙ q

-- the rest of a chain of tests, replaced
pub under : (a b d : Bool) → (b ≡ true → d ≡ true) → both a b ≡ true → both a d ≡ true
under a b d f e = join a d (left a b e) (f (right a b e))

pub both_true : (t : Bool) → both t true ≡ t
unfolding both
both_true true = refl
both_true false = refl

pub both_false : (t : Bool) → both t false ≡ false
unfolding both
both_false true = refl
both_false false = refl

pub either-false : (t : Bool) → either t false ≡ t
unfolding either
either-false true = refl
either-false false = refl

pub both_assoc : (a b c : Bool) → both (both a b) c ≡ both a (both b c)
unfolding both
both_assoc true b c = refl
both_assoc false b c = refl

pub both_turn : (a b c d : Bool) → both (both a b) (both c d) ≡ both a (both c (both b d))
unfolding both
both_turn false b c d = refl
both_turn true true c d = refl
both_turn true false true d = refl
both_turn true false false d = refl

-- ---- a test as a number

pub one-le : (t : Bool) → one t ≤ 1
unfolding one
one-le true = omega arith
one-le false = omega arith

pub one_small : (t : Bool) → one t < 2
unfolding one
one_small true = omega arith
one_small false = omega arith

pub one-read : (t : Bool) → eqb (one t) 1 ≡ t
unfolding one
one-read true = refl
one-read false = refl
