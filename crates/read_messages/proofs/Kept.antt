-- What is kept of a text: whether what is over is blank, its known fields, what the first record tells; field 2 ends before any cut.
-- Assumes nothing.
use mathlib.Core.Path.{◌≡◌, sym, ap, ap₂, ◌∙◌}
use mathlib.Core.Bool.{Bool, true, false}
use mathlib.Core.List.{List}
use Prim.Native.Nat.{ℕ, ◌≤◌, ◌<◌, min}
use native.Mathlib.Nat.{min-le_left, le_trans}
use native.Mathlib.Omega.{arith}
use borrow.Author.Tests.{lt-ltb, le-ltb}
use lib.Dec.{ltb}
use lib.ListN.{length, take, drop, replicate, length-take, drop_of_length-le}
use lib.Seq.{take_all}
use Rattle.ground.specs.Choice.{fails, pick, between}
use Rattle.ground.specs.Lists.{all, part, overlay}
use Rattle.ground.proofs.Choices.{picks, skips}
use Rattle.ground.proofs.Parts.{take_least, over_zeros, part-take}
use Rattle.text.specs.Characters.{digit, all_blank}
use Rattle.text.specs.Numbers.{decimal}
use Rattle.message.specs.Layout.{layout_length}
use Rattle.message.specs.declared.Kind.{Kind}
use Rattle.message.specs.declared.Extent.TheVariants.{Whole, TooShort, LengthNotDigits, OtherLength}
use Rattle.message.proofs.Places.{length-field}
use Rattle.whole_file.specs.Messages.{stated_length, extent_of, known_text}

-- ---- what is over

pub none_over : (from n : ℕ) (l : List ℕ) → length (take n l) ≤ from → true ≡ all_blank (drop from (take n l))
unfolding all
none_over from n l h = rw (drop_of_length-le (take n l) h)

-- ---- the known fields

pub known_is : (kind : Kind) (count : ℕ) (l : List ℕ) (n : ℕ) → n ≡ min (layout_length kind) count
    → overlay (take n l) (replicate 161 0) ≡ known_text kind (take count l)
unfolding overlay known_text
known_is kind count l n e =
    ap (λ (v : List ℕ). overlay v (replicate 161 0)) (ap (λ (k : ℕ). take k l) e ∙ sym (take_least (layout_length kind) count l))
    ∙ over_zeros (take (layout_length kind) (take count l)) 161 161 (omega arith)

-- ---- what the first record tells

module _ (kind : Kind) (n : ℕ) (l : List ℕ) where
  pub under_eleven : length (take n l) < 11 → TooShort ≡ extent_of kind (take n l)
  unfolding extent_of
  under_eleven h = sym (picks _ _ _ (lt-ltb _ _ h))

  module _ (h : 11 ≤ length (take n l)) where
    whole_part : stated_length (take n l) ≡ part 5 3 l
    whole_part =
        let e : length (take n l) ≡ min n (length l) = length-take n l in
        let m : 8 ≤ n = omega (arith, min-le_left n (length l)) in
        length-field (take n l) ∙ part-take l 5 3 n m

    past_eleven : {A : Type 0} (a b : A) → pick (ltb (length (take n l)) 11) a b ≡ b
    past_eleven a b = skips _ a b (le-ltb _ _ h)

    pub letters_in_it : (b : Bool) → b ≡ all digit (part 5 3 l) → b ≡ false → LengthNotDigits ≡ extent_of kind (take n l)
    unfolding extent_of fails
    letters_in_it b d f =
        sym (past_eleven _ _ ∙ picks _ _ _ (ap (λ (p : List ℕ). fails (all digit p)) whole_part ∙ ap fails (sym d ∙ f)))

    module _ (b : Bool) (d : b ≡ all digit (part 5 3 l)) (t : b ≡ true) (r : ℕ) (e : r ≡ decimal (take 19 (part 5 3 l))) (len : ℕ)
        (g : len ≡ layout_length kind) where
      digits_in_it : {A : Type 0} (x y : A) → pick (fails (all digit (stated_length (take n l)))) x y ≡ y
      unfolding fails
      digits_in_it x y = skips _ x y (ap (λ (p : List ℕ). fails (all digit p)) whole_part ∙ ap fails (sym d ∙ t))

      read : r ≡ decimal (stated_length (take n l))
      unfolding part
      read =
          let s : length (take 3 (drop 5 l)) ≤ 19 = simp length-take (le_trans (min-le_left 3 (length (drop 5 l))) (omega arith)) in
          e ∙ ap decimal (take_all 19 (take 3 (drop 5 l)) s) ∙ ap decimal (sym whole_part)

      module _ (w : Bool) (i : w ≡ between len 500 r) where
        ranged : w ≡ between (layout_length kind) 500 (decimal (stated_length (take n l)))
        ranged = i ∙ ap₂ (λ (x y : ℕ). between x 500 y) g read

        pub other_length : w ≡ false → OtherLength ≡ extent_of kind (take n l)
        unfolding extent_of fails
        other_length q = sym (past_eleven _ _ ∙ digits_in_it _ _ ∙ picks _ _ _ (ap fails (sym ranged ∙ q)))

        pub its_length : w ≡ true → Whole ≡ extent_of kind (take n l)
        unfolding extent_of fails
        its_length q = sym (past_eleven _ _ ∙ digits_in_it _ _ ∙ skips _ _ _ (ap fails (sym ranged ∙ q)))
