-- A run of bytes is zero where their `|` is, and then each number in it is.
-- Assumes nothing.
use Rattle.std.specs.Prelude.{◌&&◌}
use Rattle.std.specs.List.{fold, list_all}
use Rattle.std.specs.Int.Bits.{bit_or, or_zero_l}
use Rattle.std.proofs.Math.Bool.{and-true, and_assoc}
use Rattle.std.proofs.lemmas.Nat.{le_or_l}
use Rattle.std.proofs.lemmas.List.Folds.{list_all-append}
use mathlib.Core.Path.{◌≡◌, refl, sym, ap, ap₂, ◌∙◌}
use mathlib.Core.Bool.{Bool, false}
use mathlib.Core.List.{List, [], ◌∷◌}
use Prim.Native.Nat.{ℕ, zero, suc, ◌+◌, ◌*◌}
use native.Mathlib.Omega.{arith}
use borrow.Author.Tests.{ne_eqb, eq-eqb, eqb-true}
use lib.Dec.{eqb}
use Rattle.ground.specs.Lists.{part}
use Rattle.ground.proofs.Bools.{decided}
use Rattle.ground.proofs.Parts.{part-zero, part-add}
use Rattle.ground.proofs.Std.{both_is}
use Rattle.splices.specs.Bytes.{num}
use Rattle.codec.specs.Layout.{every}
use Rattle.customer_bytes.specs.Tests.{zero_at}

abbrev pub zeros : List ℕ → Bool
zeros l = list_all (λ (b : ℕ). eqb b 0) l

not_zero : (a : ℕ) → eqb (suc a) 0 ≡ false
not_zero a = ne_eqb (suc a) 0 (λ e. omega (arith, e))

or_zero : (a b : ℕ) → eqb (bit_or a b) 0 ≡ (eqb a 0 && eqb b 0)
or_zero zero b = ap (λ (x : ℕ). eqb x 0) (or_zero_l b)
or_zero (suc a) b =
    ne_eqb (bit_or (suc a) b) 0 (λ e. omega (arith, le_or_l (suc a) b, e))
    ∙ sym (ap (λ (t : Bool). t && eqb b 0) (not_zero a))

pub fold_zero : (a : ℕ) (l : List ℕ) → eqb (fold bit_or a l) 0 ≡ (eqb a 0 && zeros l)
fold_zero a [] = sym (and-true (eqb a 0))
fold_zero a (x ∷ l) = fold_zero (bit_or a x) l ∙ ap (λ (t : Bool). t && zeros l) (or_zero a x) ∙ and_assoc (eqb a 0) (eqb x 0) (zeros l)

sum_zero : (x n : ℕ) → eqb (x + 256 * n) 0 ≡ (eqb x 0 && eqb n 0)
sum_zero zero n =
    decided (eqb (0 + 256 * n) 0) (eqb n 0) (λ e. eq-eqb n 0 (omega (arith, eqb-true (0 + 256 * n) 0 e)))
    (λ e. eq-eqb (0 + 256 * n) 0 (omega (arith, eqb-true n 0 e)))
sum_zero (suc x) n =
    ne_eqb (suc x + 256 * n) 0 (λ e. omega (arith, e)) ∙ sym (ap (λ (t : Bool). t && eqb n 0) (not_zero x))

num_zero : (l : List ℕ) → eqb (num l) 0 ≡ zeros l
unfolding num
num_zero [] = refl
num_zero (x ∷ l) = sum_zero x (num l) ∙ ap (λ (t : Bool). eqb x 0 && t) (num_zero l)

pub zeros_run : (l : List ℕ) (n p : ℕ) → zeros (part p (8 * n) l) ≡ every (zero_at l) 8 n p
unfolding every
zeros_run l zero p = ap zeros (part-zero l p)
zeros_run l (suc n) p =
    let e : 8 * suc n ≡ 8 + 8 * n = omega arith in
    ap (λ (k : ℕ). zeros (part p k l)) e
    ∙ ap zeros (part-add l p 8 (8 * n))
    ∙ list_all-append (λ (b : ℕ). eqb b 0) (part p 8 l) (part (p + 8) (8 * n) l)
    ∙ ap₂ ◌&&◌ (sym (num_zero (part p 8 l))) (zeros_run l n (p + 8))
    ∙ sym (both_is (zero_at l p) (every (zero_at l) 8 n (p + 8)))
