-- The blanks at a record's end are left out one by one from the end, up to the first character that is none.
-- Assumes nothing.
use Rattle.std.proofs.Common.{◌≡◌, ℕ, ◌+◌, ◌≤◌, Bool, true, false, eqb, List, [], ◌∷◌, ◌++◌, length, get_or, take, sym, refl, ap, ◌∙◌, add-one, arith, take-suc, ne_eqb}
use Rattle.ground.specs.Choice.{both, pick}
use Rattle.text.specs.Characters.{blank}
use Rattle.digest.specs.Kept.{is_empty, stripped}

-- a blank behind is left out
strips_blank : (l : List ℕ) → stripped (l ++ (blank ∷ [])) ≡ stripped l
unfolding stripped pick both is_empty
strips_blank [] = refl
strips_blank (x ∷ l) = ap (λ (q : List ℕ). pick (both (eqb x blank) (is_empty q)) [] (x ∷ q)) (strips_blank l)

not_empty : (x : ℕ) (t : Bool) (l : List ℕ) (b : ℕ) → pick (both t (is_empty (l ++ (b ∷ [])))) [] (x ∷ (l ++ (b ∷ []))) ≡ x ∷ (l ++ (b ∷ []))
unfolding pick both is_empty
not_empty x true [] b = refl
not_empty x false [] b = refl
not_empty x true (y ∷ l) b = refl
not_empty x false (y ∷ l) b = refl

stays : (b : ℕ) → pick (both false (is_empty [])) [] (b ∷ []) ≡ b ∷ []
unfolding pick both is_empty
stays b = refl

-- before any other character everything stays
keeps_other : (l : List ℕ) (b : ℕ) → (b ≡ blank → ⊥) → stripped (l ++ (b ∷ [])) ≡ l ++ (b ∷ [])
unfolding stripped
keeps_other [] b h = ap (λ (t : Bool). pick (both t (is_empty [])) [] (b ∷ [])) (ne_eqb b blank h) ∙ stays b
keeps_other (x ∷ l) b h =
    ap (λ (q : List ℕ). pick (both (eqb x blank) (is_empty q)) [] (x ∷ q)) (keeps_other l b h) ∙ not_empty x (eqb x blank) l b

pub none_solid : (l : List ℕ) (n : ℕ) → n ≤ 0 → take n l ≡ stripped (take n l)
unfolding stripped
none_solid l n h = let e : n ≡ 0 = omega arith in rw e

module _ (l : List ℕ) (n m : ℕ) (e : n ≡ m + 1) (h : n ≤ length l) where
  snoc : take n l ≡ take m l ++ (get_or l m 0 ∷ [])
  snoc = ap (λ (k : ℕ). take k l) (e ∙ add-one m) ∙ take-suc l m 0 (omega arith)

  pub one_less : get_or l m 0 ≡ blank → stripped (take m l) ≡ stripped (take n l)
  one_less b = sym (ap stripped (snoc ∙ ap (λ (x : ℕ). take m l ++ (x ∷ [])) b) ∙ strips_blank (take m l))

  pub solid_end : (get_or l m 0 ≡ blank → ⊥) → take n l ≡ stripped (take n l)
  solid_end b = snoc ∙ sym (keeps_other (take m l) (get_or l m 0) b) ∙ ap stripped (sym snoc)

pub ruleset solid = (one_less, solid_end, none_solid)
