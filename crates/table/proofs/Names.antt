-- Two names of 25 bytes are the same just when the numbers are that three eights of them and the byte between are.
-- Assumes nothing.
use Rattle.std.specs.Prelude.{◌&&◌}
use Rattle.ground.proofs.Std.{both_is}
use mathlib.Core.Path.{◌≡◌, sym, ap, ap₂, ◌∙◌}
use mathlib.Core.Bool.{Bool, true, false}
use mathlib.Core.List.{List}
use Prim.Native.Nat.{ℕ, ◌+◌, ◌≤◌}
use native.Mathlib.Omega.{arith}
use borrow.Author.Tests.{eqb-true, eq-eqb}
use lib.Dec.{eqb}
use lib.ListN.{length}
use Rattle.ground.specs.Choice.{both}
use Rattle.ground.specs.Lists.{part, same}
use Rattle.ground.proofs.Bools.{both_true, both_false, both_assoc}
use Rattle.ground.proofs.Lists.{same-append, same_decided}
use Rattle.ground.proofs.Parts.{part_length, part-add}
use Rattle.splices.specs.Bytes.{num, bytes_of}
use Rattle.splices.proofs.Splice.{AllBytes, bytes_part}
use Rattle.splices.proofs.Chunks.{bytes_num_at}

last_first : (x y z w : Bool) → both (both (both x y) z) w ≡ both w (both x (both y z))
unfolding both
last_first x y z true = both_true (both (both x y) z) ∙ both_assoc x y z
last_first x y z false = both_false (both (both x y) z)

module _ (l : List ℕ) (bs : AllBytes l) where
  abbrev pub equal : (w a b : ℕ) → Bool
  equal w a b = eqb (num (part a w l)) (num (part b w l))

  back : (w a : ℕ) → a + w ≤ length l → bytes_of w (num (part a w l)) ≡ part a w l
  back w a h = bytes_num_at w (part a w l) (part_length l a w h) (bytes_part a w l bs)

  word : (w a b : ℕ) → a + w ≤ length l → b + w ≤ length l → same (part a w l) (part b w l) ≡ equal w a b
  word w a b h k =
      sym (same_decided (equal w a b) (part a w l) (part b w l)
      (λ e. sym (back w a h) ∙ ap (bytes_of w) (eqb-true _ _ e) ∙ back w b k) (λ e. eq-eqb _ _ (ap num e)))

  cut : (n m a b : ℕ) → a + n ≤ length l → b + n ≤ length l → same (part a (n + m) l) (part b (n + m) l)
      ≡ both (same (part a n l) (part b n l)) (same (part (a + n) m l) (part (b + n) m l))
  cut n m a b h k =
      ap₂ same (part-add l a n m) (part-add l b n m)
      ∙ same-append (part a n l) _ (part b n l) _ (part_length l a n h ∙ sym (part_length l b n k))

  pub names_same : (a b : ℕ) → a + 25 ≤ length l → b + 25 ≤ length l → same (part a 25 l) (part b 25 l)
      ≡ (equal 8 (a + 17) (b + 17) && (equal 8 a b && (equal 8 (a + 8) (b + 8) && equal 1 (a + 16) (b + 16))))
  names_same a b h k =
      let eights = cut 8 8 a b (omega arith) (omega arith)
      ∙ ap₂ both (word 8 a b (omega arith) (omega arith)) (word 8 (a + 8) (b + 8) (omega arith) (omega arith)) in
      let names = cut 16 1 a b (omega arith) (omega arith) ∙ ap₂ both eights (word 1 (a + 16) (b + 16) (omega arith) (omega arith)) in
      cut 17 8 a b (omega arith) (omega arith)
      ∙ ap₂ both names (word 8 (a + 17) (b + 17) (omega arith) (omega arith))
      ∙ last_first _ _ _ _
      ∙ simp both_is
