-- The checks as the code makes them are those of the definitions, in their order.
-- Assumes nothing.
use mathlib.Core.Path.{◌≡◌, ap, ap₂, ◌∙◌}
use mathlib.Core.Bool.{Bool}
use mathlib.Core.List.{List, ◌∷◌}
use Prim.Native.Nat.{ℕ}
use Rattle.message.specs.declared.Check.{Check}
use Rattle.checks.specs.Checks.{check_field}

-- one check, where its test is known by another name
pub made : {code field : ℕ} {x : Check} {v f : Bool} → x ≡ check_field code field v → v ≡ f → x ≡ check_field code field f
made {code} {field} p e = p ∙ ap (check_field code field) e

-- and then the others
pub more : {x y : Check} {xs ys : List Check} → x ≡ y → xs ≡ ys → x ∷ xs ≡ y ∷ ys
more p q = ap₂ (λ (c : Check) (cs : List Check). c ∷ cs) p q
