-- The first condition that holds, as a search finds it, and what a call does with its refusal.
-- Assumes nothing.
use Rattle.std.specs.Prelude.{Result, Ok, Err, Option, Some, None, find, cond, map, not}
use mathlib.Core.Path.{◌≡◌, refl, sym, ap, ap₂, ◌∙◌}
use mathlib.Core.Bool.{Bool, true, false}
use mathlib.Core.List.{List, [], ◌∷◌}
use Prim.Native.Nat.{ℕ}
use native.Mathlib.Omega.{arith}
use Rattle.ground.specs.Choice.{fails, pick}
use Rattle.ground.specs.First.{first_that}
use Rattle.refusals.specs.Refusals.{Refusal as Condition, refusal, lowest}
use Rattle.refusals.specs.Numbers.{number_of, code_of, condition_of}
use Rattle.refusals.specs.declared.Refusal.{Refusal}
use Rattle.refusals.specs.declared.Refusal.TheVariants.{NoRoom, NoTable, NoSession, BadDate, TableFull, AlreadyThere, Unknown, EvenPart}
use Rattle.refusals.specs.declared.Refusal.TheVariants.{OtherCheck, NotNext, OutOfLimits, StillChanging, OtherForm}

abbrev Held : Type 0
Held = Bool × Refusal

abbrev or_this : Held → Option Held → Held
or_this d None = d
or_this d (Some c) = c

pub found_none : (cs : List Held) → find (λ (c : Held). c.0) cs ≡ None → 0 ≡ lowest (map condition_of cs)
unfolding lowest first_that pick
found_none [] e = refl
found_none (c ∷ cs) e = by c.0 e (found_none cs)
  where
    by : (t : Bool) → cond t (Some c) (find (λ (d : Held). d.0) cs) ≡ None
        → (find (λ (d : Held). d.0) cs ≡ None → 0 ≡ lowest (map condition_of cs)) → 0 ≡ pick t (number_of c.1) (lowest (map condition_of cs))
    by true p r = absurd (let z : ◌≡◌ {A = ℕ} 0 1 = cc in omega arith)
    by false p r = r p

pub found_some : (cs : List Held) (x : Held) → find (λ (c : Held). c.0) cs ≡ Some x → number_of x.1 ≡ lowest (map condition_of cs)
unfolding lowest first_that pick
found_some [] x e = absurd (let z : ◌≡◌ {A = ℕ} 0 1 = cc in omega arith)
found_some (c ∷ cs) x e = by c.0 e (found_some cs x)
  where
    by : (t : Bool) → cond t (Some c) (find (λ (d : Held). d.0) cs) ≡ Some x
        → (find (λ (d : Held). d.0) cs ≡ Some x → number_of x.1 ≡ lowest (map condition_of cs))
        → number_of x.1 ≡ pick t (number_of c.1) (lowest (map condition_of cs))
    by true p r = ap (λ (o : Option Held). number_of (or_this x o).1) (sym p)
    by false p r = r p

-- ---- the conditions of a list, as the code makes them

-- one condition, where its test is known by another name
pub held : {a b : Bool} (n : ℕ) → a ≡ b → refusal n a ≡ refusal n b
held n e = ap (refusal n) e

-- and then the others
pub more : {x y : Condition} {xs ys : List Condition} → x ≡ y → xs ≡ ys → x ∷ xs ≡ y ∷ ys
more p q = ap₂ (λ (c : Condition) (cs : List Condition). c ∷ cs) p q

-- a test that was turned twice
pub turned_back : (r t : Bool) → r ≡ fails t → not r ≡ t
unfolding fails
turned_back r true e = ap not e
turned_back r false e = ap not e

-- ---- what is told of a refusal

pub not_served : {A : Type 0} (o : Result A Refusal) (r : Refusal) → o ≡ Err r → code_of o ≡ 0 → ⊥
unfolding code_of number_of
not_served o NoRoom e z = let q : ◌≡◌ {A = ℕ} 1 0 = sym (ap code_of e) ∙ z in absurd (omega arith)
not_served o NoTable e z = let q : ◌≡◌ {A = ℕ} 2 0 = sym (ap code_of e) ∙ z in absurd (omega arith)
not_served o NoSession e z = let q : ◌≡◌ {A = ℕ} 3 0 = sym (ap code_of e) ∙ z in absurd (omega arith)
not_served o BadDate e z = let q : ◌≡◌ {A = ℕ} 4 0 = sym (ap code_of e) ∙ z in absurd (omega arith)
not_served o TableFull e z = let q : ◌≡◌ {A = ℕ} 5 0 = sym (ap code_of e) ∙ z in absurd (omega arith)
not_served o AlreadyThere e z = let q : ◌≡◌ {A = ℕ} 6 0 = sym (ap code_of e) ∙ z in absurd (omega arith)
not_served o Unknown e z = let q : ◌≡◌ {A = ℕ} 7 0 = sym (ap code_of e) ∙ z in absurd (omega arith)
not_served o EvenPart e z = let q : ◌≡◌ {A = ℕ} 8 0 = sym (ap code_of e) ∙ z in absurd (omega arith)
not_served o OtherCheck e z = let q : ◌≡◌ {A = ℕ} 9 0 = sym (ap code_of e) ∙ z in absurd (omega arith)
not_served o NotNext e z = let q : ◌≡◌ {A = ℕ} 10 0 = sym (ap code_of e) ∙ z in absurd (omega arith)
not_served o OutOfLimits e z = let q : ◌≡◌ {A = ℕ} 11 0 = sym (ap code_of e) ∙ z in absurd (omega arith)
not_served o StillChanging e z = let q : ◌≡◌ {A = ℕ} 12 0 = sym (ap code_of e) ∙ z in absurd (omega arith)
not_served o OtherForm e z = let q : ◌≡◌ {A = ℕ} 13 0 = sym (ap code_of e) ∙ z in absurd (omega arith)

pub served : {A : Type 0} (o : Result A Refusal) (x : A) → o ≡ Ok x → code_of o ≡ 0
unfolding code_of
served o x e = ap code_of e
