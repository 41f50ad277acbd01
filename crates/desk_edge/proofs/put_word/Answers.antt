-- Three words, one after the other.
use mathlib.Core.Path.{◌≡◌, refl, ap, ◌∙◌}
use mathlib.Core.List.{List, [], ◌∷◌}
use Prim.Native.Nat.{ℕ}
use native.Mathlib.Omega.{arith}
use lib.ListN.{length, set}
use Rattle.desk_edge.proofs.put_word.Goals as goal

-- three words written over three
three : (l : List ℕ) (a b d : ℕ) → length l ≡ 3 → set (set (set l 0 a) 1 b) 2 d ≡ a ∷ b ∷ d ∷ []
three (x ∷ y ∷ z ∷ []) a b d e = refl
three [] a b d e = absurd (omega arith)
three (x ∷ []) a b d e = absurd (omega arith)
three (x ∷ y ∷ []) a b d e = absurd (omega arith)
three (x ∷ y ∷ z ∷ w ∷ l) a b d e = absurd (omega arith)

pub returns : goal.returns
returns c =
    three c.args.word.now _ _ _ c.requires ∙ ap (λ (n : ℕ). n ∷ c.args.x.letter ∷ c.args.x.code ∷ []) c.field_of.ensures
