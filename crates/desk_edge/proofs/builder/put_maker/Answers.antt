-- Only a served call writes.
use mathlib.Core.Path.{◌≡◌, refl, sym, ◌∙◌}
use mathlib.Core.List.{List, [], ◌∷◌}
use Prim.Native.Nat.{ℕ}
use native.Mathlib.Omega.{arith}
use borrow.Author.Tests.{eq-eqb, ne_eqb}
use lib.ListN.{length, set}
use Rattle.ground.proofs.Choices.{picks, skips}
use Rattle.desk_edge.proofs.builder.put_maker.Goals as goal

-- two numbers written over two
both-set : (l : List ℕ) (a b : ℕ) → length l ≡ 2 → set (set l 0 a) 1 b ≡ a ∷ b ∷ []
both-set (x ∷ y ∷ []) a b e = refl
both-set [] a b e = absurd (omega arith)
both-set (x ∷ []) a b e = absurd (omega arith)
both-set (x ∷ y ∷ z ∷ l) a b e = absurd (omega arith)

pub returns-then-refusal-eq0 : goal.returns-then-refusal-eq0
returns-then-refusal-eq0 c =
    let n : c.args.refusal ≡ 0 = omega arith in
    both-set c.args.maker.now _ _ c.requires ∙ sym (picks _ _ _ (eq-eqb _ _ n))

pub returns-else-refusal-eq0 : goal.returns-else-refusal-eq0
returns-else-refusal-eq0 c = sym (skips _ _ _ (ne_eqb _ _ c.if-refusal-eq0.false))
