-- Four values, one after the other; a check value has 24 bits.
use mathlib.Core.Path.{◌≡◌, refl, ap₂, ◌∙◌}
use mathlib.Core.List.{List, [], ◌∷◌}
use Prim.Native.Nat.{ℕ}
use native.Mathlib.Omega.{arith}
use lib.ListN.{length, set}
use Rattle.keys.proofs.Laws.{check_value-lt}
use Rattle.desk_edge.specs.Calls.{values_of}
use Rattle.desk_edge.proofs.put_values.Goals as goal

-- four words written over four
four : (l : List ℕ) (a b d e : ℕ) → length l ≡ 4 → set (set (set (set l 0 a) 1 b) 2 d) 3 e ≡ a ∷ b ∷ d ∷ e ∷ []
four (x ∷ y ∷ z ∷ w ∷ []) a b d e h = refl
four [] a b d e h = absurd (omega arith)
four (x ∷ []) a b d e h = absurd (omega arith)
four (x ∷ y ∷ []) a b d e h = absurd (omega arith)
four (x ∷ y ∷ z ∷ []) a b d e h = absurd (omega arith)
four (x ∷ y ∷ z ∷ w ∷ v ∷ l) a b d e h = absurd (omega arith)

pub overflow_cast-values : goal.overflow_cast-values
overflow_cast-values c =
    let h = c.args.h in
    let w = check_value-lt h.transport.key in
    omega (arith, c.check_value.ensures, w)

pub overflow_cast-values-2 : goal.overflow_cast-values-2
overflow_cast-values-2 c =
    let h = c.args.h in
    let w = check_value-lt h.working.key in
    omega (arith, c.check_value-2.ensures, w)

pub returns : goal.returns
unfolding values_of
returns c =
    let h = c.args.h in
    four c.args.values.now _ _ _ _ c.requires
    ∙ ap₂ (λ (x y : ℕ). h.transport.generation ∷ x ∷ h.working.generation ∷ y ∷ []) c.check_value.ensures c.check_value-2.ensures
