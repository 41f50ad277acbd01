-- What a session gathers is its record's or message's characters, kept up to 161 and counted up to 500.
-- Assumes nothing.
use Prim.Native.Nat.{ℕ, ◌+◌, ◌≤◌, ◌<◌, min, max}
use Prim.Native.String.{String}
use mathlib.Core.Path.{◌≡◌, refl, sym, ap, ap₂, ◌∙◌}
use mathlib.Core.Bool.{Bool, true, false}
use mathlib.Core.List.{List, [], ◌∷◌, ◌++◌, append-nil, append_assoc}
use native.Mathlib.Omega.{arith}
use borrow.Author.Tests.{ltb-true, ltb-false, lt-ltb, le-ltb}
use lib.Dec.{eqb, ltb}
use lib.ListN.{length, take, drop, set, length-append, drop_of_length-le}
use lib.Seq.{drop-append-le, take-append-le}
use Rattle.ground.specs.Choice.{both, either}
use Rattle.ground.specs.Lists.{all}
use Rattle.ground.proofs.Choices.{picks, skips, either_left, either_decides}
use Rattle.ground.proofs.Lists.{all_append, all_one}
use Rattle.text.specs.Characters.{blank, all_blank}
use Rattle.message.specs.Layout.{field, field_text}
use Rattle.message.specs.declared.Extent.{Extent}
use Rattle.message.specs.declared.Kind.{Kind}
use Rattle.message.specs.declared.Collected.{Collected}
use Rattle.whole_file.specs.Messages.{begins, extent_of, wanted_length, wants_more, known_text, collected_as}
use Rattle.whole_file.proofs.Known.{known_length}
use Rattle.session.specs.Events.{gathered_with, gathered_all, nothing, held, wants, collected_by}
use Rattle.session.specs.declared.Gathered.{Gathered}
use Rattle.law_refinement.specs.Stands.{kept_text, gathered_of}
use Rattle.law_refinement.proofs.Chars

-- ---- one character more

gathered_eq : {n m : ℕ} {a b : Bool} {t u : List ℕ} → n ≡ m → a ≡ b → t ≡ u
    → ◌≡◌ {A = Gathered} (record { count = n; blank = a; text = t }) (record { count = m; blank = b; text = u })
gathered_eq p q r = rw (p, q, r)

module _ (l : List ℕ) (c : ℕ) where
  long : length (l ++ (c ∷ [])) ≡ length l + 1
  long = simp length-append (omega arith)

  -- the stated length stands among the first characters
  stated : 161 ≤ length l → wanted_length (l ++ (c ∷ [])) ≡ wanted_length l
  stated h =
      sym (Chars.wanted_kept (l ++ (c ∷ [])))
      ∙ ap wanted_length (take-append-le 161 l (c ∷ []) h)
      ∙ Chars.wanted_kept l

  room : length l < 161 → gathered_with (gathered_of l) c ≡ gathered_of (l ++ (c ∷ []))
  unfolding gathered_with gathered_of all
  room h =
      let k : List ℕ = l ++ (c ∷ []) in
      let n : min (length l) 500 ≡ length l = omega arith in
      let n' : min (length l) 500 + 1 ≡ min (length k) 500 = omega (arith, long) in
      let d : drop (max 161 (wanted_length l)) l ≡ [] = drop_of_length-le l {i = max 161 (wanted_length l)} (omega arith) in
      let d' : drop (max 161 (wanted_length k)) k ≡ [] = drop_of_length-le k {i = max 161 (wanted_length k)} (omega (arith, long)) in
      picks _ _ _ (lt-ltb (min (length l) 500) 161 (omega arith))
      ∙ gathered_eq n' (ap all_blank (d ∙ sym d')) (ap (λ (i : ℕ). set (kept_text l) i c) n ∙ Chars.text_more l c h)

  -- of a character past the room it counts whether it must be blank, and is
  module _ (h : 161 ≤ length l) where
    abbrev from : ℕ
    from = max 161 (wanted_length l)

    most : wanted_length l ≤ 500
    most = Chars.wanted_most l

    passed : length l < from
        → both (all_blank (drop from l)) (either (ltb (min (length l) 500) (wanted_length l)) (eqb c blank))
        ≡ all_blank (drop from (l ++ (c ∷ [])))
    unfolding all both
    passed b =
        let d : drop from l ≡ [] = drop_of_length-le l {i = from} (omega arith) in
        let d' : drop from (l ++ (c ∷ [])) ≡ [] = drop_of_length-le (l ++ (c ∷ [])) {i = from} (omega (arith, long)) in
        let t : either (ltb (min (length l) 500) (wanted_length l)) (eqb c blank) ≡ true =
        either_left _ _ (lt-ltb (min (length l) 500) (wanted_length l) (omega (arith, most))) in
        rw (d, d', t)

    asked : from ≤ length l
        → both (all_blank (drop from l)) (either (ltb (min (length l) 500) (wanted_length l)) (eqb c blank))
        ≡ all_blank (drop from (l ++ (c ∷ [])))
    asked b =
        ap (both (all_blank (drop from l)))
        (either_decides _ _ (le-ltb (min (length l) 500) (wanted_length l) (omega (arith, most))) ∙ sym (all_one blank c))
        ∙ sym (ap all_blank (drop-append-le from l (c ∷ []) b) ∙ all_append (eqb blank) (drop from l) (c ∷ []))

    over : both (all_blank (drop from l)) (either (ltb (min (length l) 500) (wanted_length (kept_text l))) (eqb c blank))
        ≡ all_blank (drop (max 161 (wanted_length (l ++ (c ∷ [])))) (l ++ (c ∷ [])))
    over =
        ap (λ (n : ℕ). both (all_blank (drop from l)) (either (ltb (min (length l) 500) n) (eqb c blank)))
        (ap wanted_length (Chars.text_long l h) ∙ Chars.wanted_kept l)
        ∙ go (ltb (length l) from) refl
        ∙ ap (λ (n : ℕ). all_blank (drop (max 161 n) (l ++ (c ∷ [])))) (sym (stated h))
      where
        go : (t : Bool) → ltb (length l) from ≡ t
            → both (all_blank (drop from l)) (either (ltb (min (length l) 500) (wanted_length l)) (eqb c blank))
            ≡ all_blank (drop from (l ++ (c ∷ [])))
        go true e = passed (ltb-true _ _ e)
        go false e = asked (ltb-false _ _ e)

  full : 161 ≤ length l → gathered_with (gathered_of l) c ≡ gathered_of (l ++ (c ∷ []))
  unfolding gathered_with gathered_of
  full h =
      let n : min (min (length l) 500 + 1) 500 ≡ min (length (l ++ (c ∷ []))) 500 = omega (arith, long) in
      skips _ _ _ (le-ltb (min (length l) 500) 161 (omega arith)) ∙ gathered_eq n (over h) (Chars.text_full l (c ∷ []) h)

  with_one : gathered_with (gathered_of l) c ≡ gathered_of (l ++ (c ∷ []))
  with_one = go (ltb (length l) 161) refl
    where
      go : (t : Bool) → ltb (length l) 161 ≡ t → gathered_with (gathered_of l) c ≡ gathered_of (l ++ (c ∷ []))
      go true e = room (ltb-true _ _ e)
      go false e = full (ltb-false _ _ e)

pub gathered_more : (l k : List ℕ) → gathered_all (gathered_of l) k ≡ gathered_of (l ++ k)
unfolding gathered_all
gathered_more l [] = ap gathered_of (sym (append-nil l))
gathered_more l (c ∷ k) =
    ap (λ (g : Gathered). gathered_all g k) (with_one l c)
    ∙ gathered_more (l ++ (c ∷ [])) k
    ∙ ap gathered_of (append_assoc l (c ∷ []) k)

pub gathered_none : nothing ≡ gathered_of []
unfolding nothing gathered_of kept_text all
gathered_none =
    gathered_eq refl (ap all_blank (sym (drop_of_length-le [] {i = max 161 (wanted_length [])} (omega arith)))) refl

-- ---- what it says of them

module _ (g : Gathered) (l : List ℕ) (e : g ≡ gathered_of l) where
  held_is : held g ≡ take 161 l
  unfolding held gathered_of
  held_is = ap (λ (x : Gathered). take x.count x.text) e ∙ Chars.text_held l

  pub begins_is : (s : String) → begins s (held g) ≡ begins s l
  begins_is s = ap (begins s) held_is ∙ Chars.begins_kept s l

  -- field 1 is within what is kept
  pub tag_is : field_text (field 1) (held g) ≡ field_text (field 1) l
  tag_is = ap (field_text (field 1)) held_is ∙ Chars.tag_kept l

  wanted_is : wanted_length (held g) ≡ wanted_length l
  wanted_is = ap wanted_length held_is ∙ Chars.wanted_kept l

  pub count_is : g.count ≡ min (length l) 500
  unfolding gathered_of
  count_is = ap (λ (x : Gathered). x.count) e

  pub wants_is : wants g ≡ wants_more l
  unfolding wants wants_more
  wants_is = ap₂ ltb count_is wanted_is ∙ Chars.wants_counted l

  pub extent_is : (kind : Kind) → extent_of kind (held g) ≡ extent_of kind l
  extent_is kind = ap (extent_of kind) held_is ∙ Chars.extent_kept kind l

  blank_is : both (all_blank (drop (wanted_length (held g)) (held g))) g.blank ≡ all_blank (drop (wanted_length l) l)
  unfolding gathered_of
  blank_is =
      ap₂ both (ap₂ (λ (n : ℕ) (x : List ℕ). all_blank (drop n x)) wanted_is held_is) (ap (λ (x : Gathered). x.blank) e)
      ∙ Chars.blank_kept (wanted_length l) l

  known_is : (kind : Kind) → known_text kind (held g) ≡ known_text kind l
  known_is kind = ap (known_text kind) held_is ∙ Chars.known_kept kind l

  pub collected_is : (kind : Kind) (a b : Extent) → a ≡ b → collected_by kind a g ≡ collected_as kind b l
  unfolding collected_by collected_as
  collected_is kind a b p = collected_eq p blank_is (known_is kind)
    where
      collected_eq : {a b : Extent} {x y : Bool} {t u : List ℕ} → a ≡ b → x ≡ y → t ≡ u
          → ◌≡◌ {A = Collected} (record { extent = a; blank = x; text = t }) (record { extent = b; blank = y; text = u })
      collected_eq p q r = rw (p, q, r)

pub collected_long : (kind : Kind) (a : Extent) (l : List ℕ) → length (collected_as kind a l).text ≡ 161
unfolding collected_as
collected_long kind a l = known_length kind l
