-- A field's contents are kept whole, since there is room for the longest.
-- Assumes nothing.
use mathlib.Core.Path.{◌≡◌, refl, ap, ◌∙◌}
use mathlib.Core.List.{List, ◌++◌}
use Prim.Native.Nat.{ℕ, ◌≤◌}
use native.Mathlib.Omega.{arith}
use lib.ListN.{length, take, drop, replicate}
use lib.Seq.{take_all, take_at}
use Rattle.ground.specs.Lists.{overlay}
use Rattle.message.specs.Layout.{fields, width_in, field_text}
use Rattle.message.specs.Contents.{contents_as, held_in}
use Rattle.message.proofs.Places.{narrow}

held_whole : (l : List ℕ) → length l ≤ 17 → held_in (contents_as l) ≡ l
unfolding held_in contents_as overlay
held_whole l h =
    ap (λ (k : List ℕ). take (length k) (k ++ drop (length l) (replicate 17 0))) (take_all 17 l h)
    ∙ take_at l (drop (length l) (replicate 17 0)) (length l) refl

pub held_field : (n : ℕ) (m : List ℕ) → width_in n fields ≤ 17 → held_in (contents_as (field_text n m)) ≡ field_text n m
held_field n m h = held_whole (field_text n m) (omega (arith, narrow n m))
