-- Characters kept up to 161: the first of them, and whether those past them are blank, say all that a message asks.
-- Assumes nothing.
use Prim.Native.Nat.{ℕ, suc, ◌+◌, ◌-◌, ◌≤◌, ◌<◌, min, max}
use Prim.Native.String.{String}
use mathlib.Core.Path.{◌≡◌, refl, sym, ap, ap₂, ◌∙◌}
use mathlib.Core.Bool.{Bool, true, false}
use mathlib.Core.List.{List, [], ◌∷◌, ◌++◌, append_assoc}
use native.Mathlib.Omega.{arith}
use borrow.Author.Tests.{ltb-true, ltb-false, lt-ltb, le-ltb}
use lib.Dec.{eqb, ltb}
use lib.ListN.{length, take, drop, set, replicate, length-append, length-take, length-replicate, drop_of_length-le}
use lib.Seq.{take_all, take-append-le, take-append-add, set-append_seam, take-take, take-append_seam}
use Rattle.ground.specs.Choice.{both, pick, fails, between}
use Rattle.ground.specs.Lists.{all, same}
use Rattle.ground.proofs.Lists.{all_append}
use Rattle.ground.proofs.Parts.{drop_split, part-take, take_zeros}
use Rattle.text.specs.Characters.{blank, digit, all_blank}
use Rattle.text.specs.Numbers.{decimal}
use Rattle.text.specs.Letters.{letters}
use Rattle.message.specs.Layout.{field, layout_length, offset_in, width_in, field_text}
use Rattle.message.specs.declared.Extent.{Extent}
use Rattle.message.specs.declared.Extent.TheVariants.{Whole, TooShort, LengthNotDigits, OtherLength}
use Rattle.message.specs.declared.Kind.{Kind}
use Rattle.whole_file.specs.Records.{cr, without_cr}
use Rattle.message.proofs.Places.{length-field, layout_within}
use Rattle.whole_file.specs.Messages.{begins, head_length, most_length, extent_of, wanted_length, known_text}
use Rattle.law_refinement.specs.Stands.{kept_text}

-- ---- one CR at the end

pub without_cr_lem : (l : List ℕ) → without_cr (l ++ (cr ∷ [])) ≡ l
unfolding without_cr pick
without_cr_lem [] = refl
without_cr_lem (x ∷ []) = refl
without_cr_lem (x ∷ y ∷ l) = ap (λ (k : List ℕ). x ∷ k) (without_cr_lem (y ∷ l))

pub without_other : (l : List ℕ) (c : ℕ) → eqb c cr ≡ false → without_cr (l ++ (c ∷ [])) ≡ l ++ (c ∷ [])
unfolding without_cr pick
without_other [] c e = rw e
without_other (x ∷ []) c e = rw e
without_other (x ∷ y ∷ l) c e = ap (λ (k : List ℕ). x ∷ k) (without_other (y ∷ l) c e)

-- ---- the text: zeros after the last character

pub text_short : (l : List ℕ) → length l ≤ 161 → kept_text l ≡ l ++ replicate (161 - length l) 0
unfolding kept_text
text_short l h =
    let e : 161 ≡ length l + (161 - length l) = omega arith in
    ap (λ (n : ℕ). take n (l ++ replicate 161 0)) e
    ∙ take-append-add l (replicate 161 0) (161 - length l)
    ∙ ap (λ (k : List ℕ). l ++ k) (take_zeros (161 - length l) 161 (omega arith))

pub text_long : (l : List ℕ) → 161 ≤ length l → kept_text l ≡ take 161 l
unfolding kept_text
text_long l h = take-append-le 161 l (replicate 161 0) h

pub text_length : (l : List ℕ) → length (kept_text l) ≡ 161
unfolding kept_text
text_length l = simp (length-take, length-append, length-replicate) (omega arith)

-- one more character stands after the last
pub text_more : (l : List ℕ) (c : ℕ) → length l < 161 → set (kept_text l) (length l) c ≡ kept_text (l ++ (c ∷ []))
text_more l c h =
    let m : ℕ = 161 - (length l + 1) in
    let z : 161 - length l ≡ suc m = omega arith in
    let n : length (l ++ (c ∷ [])) ≡ length l + 1 = simp length-append (omega arith) in
    ap (λ (t : List ℕ). set t (length l) c) (text_short l (omega arith) ∙ ap (λ (k : ℕ). l ++ replicate k 0) z)
    ∙ set-append_seam l 0 (replicate m 0) c
    ∙ sym (text_short (l ++ (c ∷ [])) (omega arith) ∙ ap (λ (k : ℕ). (l ++ (c ∷ [])) ++ replicate (161 - k) 0) n
    ∙ append_assoc l (c ∷ []) (replicate m 0))

-- and past the room it stays
pub text_full : (l k : List ℕ) → 161 ≤ length l → kept_text l ≡ kept_text (l ++ k)
text_full l k h =
    let n : 161 ≤ length (l ++ k) = simp length-append (omega arith) in
    text_long l h ∙ sym (text_long (l ++ k) n ∙ take-append-le 161 l k h)

-- what is kept
pub text_held : (l : List ℕ) → take (min (length l) 500) (kept_text l) ≡ take 161 l
text_held l = go (ltb (length l) 161) refl
  where
    go : (t : Bool) → ltb (length l) 161 ≡ t → take (min (length l) 500) (kept_text l) ≡ take 161 l
    go true e =
        let h : length l < 161 = ltb-true _ _ e in
        let m : min (length l) 500 ≡ length l = omega arith in
        ap₂ take m (text_short l (omega arith)) ∙ take-append_seam l _ ∙ sym (take_all 161 l (omega arith))
    go false e =
        let h : 161 ≤ length l = ltb-false _ _ e in
        let n : length (take 161 l) ≡ min 161 (length l) = length-take 161 l in
        ap (take (min (length l) 500)) (text_long l h) ∙ take_all (min (length l) 500) (take 161 l) (omega arith)

-- ---- what a message asks of its characters it asks of the first 161

ltb_least : (room n k : ℕ) → k ≤ room → ltb (min n room) k ≡ ltb n k
ltb_least room n k h = go (ltb n k) refl
  where
    go : (t : Bool) → ltb n k ≡ t → ltb (min n room) k ≡ t
    go true e = lt-ltb (min n room) k (omega (arith, ltb-true n k e))
    go false e = le-ltb (min n room) k (omega (arith, ltb-false n k e))

kept-length : (l : List ℕ) (k : ℕ) → k ≤ 161 → ltb (length (take 161 l)) k ≡ ltb (length l) k
kept-length l k h =
    let e : length (take 161 l) ≡ min (length l) 161 = length-take 161 l ∙ omega arith in
    ap (λ (n : ℕ). ltb n k) e ∙ ltb_least 161 (length l) k h

pub begins_kept : (s : String) (l : List ℕ) → begins s (take 161 l) ≡ begins s l
unfolding begins
begins_kept s l = ap (λ (k : List ℕ). same k (letters s)) (take-take 5 161 l (omega arith))

pub tag_kept : (l : List ℕ) → field_text (field 1) (take 161 l) ≡ field_text (field 1) l
unfolding field_text offset_in width_in pick
tag_kept l = part-take l 0 5 161 (omega arith)

stated_kept : (l : List ℕ) → field_text (field 2) (take 161 l) ≡ field_text (field 2) l
stated_kept l = length-field (take 161 l) ∙ part-take l 5 3 161 (omega arith) ∙ sym (length-field l)

pub wanted_kept : (l : List ℕ) → wanted_length (take 161 l) ≡ wanted_length l
unfolding wanted_length
wanted_kept l = ap (λ (p : List ℕ). min (decimal p) most_length) (stated_kept l)

pub wanted_most : (l : List ℕ) → wanted_length l ≤ 500
unfolding wanted_length
wanted_most l = omega arith

-- a count up to the longest message's says whether it is reached
pub wants_counted : (l : List ℕ) → ltb (min (length l) 500) (wanted_length l) ≡ ltb (length l) (wanted_length l)
wants_counted l = ltb_least 500 (length l) (wanted_length l) (wanted_most l)

abbrev told : Kind → Bool → List ℕ → Extent
told kind short p =
    pick short TooShort
    (pick (fails (all digit p)) LengthNotDigits
    (pick (fails (between (layout_length kind) most_length (decimal p))) OtherLength Whole))

pub extent_kept : (kind : Kind) (l : List ℕ) → extent_of kind (take 161 l) ≡ extent_of kind l
unfolding extent_of
extent_kept kind l = ap₂ (told kind) (kept-length l head_length (omega arith)) (stated_kept l)

-- the known fields are among the first 161
pub known_kept : (kind : Kind) (l : List ℕ) → known_text kind (take 161 l) ≡ known_text kind l
unfolding known_text
known_kept kind l =
    ap (λ (k : List ℕ). take 161 (k ++ replicate 161 0)) (take-take (layout_length kind) 161 l (layout_within kind))

none_blank : (b : Bool) → both (all_blank []) b ≡ b
unfolding all both
none_blank b = refl

-- blanks past a length are those among the first 161 and those past both
pub blank_kept : (k : ℕ) (l : List ℕ) → both (all_blank (drop k (take 161 l))) (all_blank (drop (max 161 k) l)) ≡ all_blank (drop k l)
blank_kept k l = go (ltb k 161) refl
  where
    go : (t : Bool) → ltb k 161 ≡ t → both (all_blank (drop k (take 161 l))) (all_blank (drop (max 161 k) l)) ≡ all_blank (drop k l)
    go true e =
        let h : k ≤ 161 = omega (arith, ltb-true k 161 e) in
        let m : max 161 k ≡ 161 = omega arith in
        ap (λ (n : ℕ). both (all_blank (drop k (take 161 l))) (all_blank (drop n l))) m
        ∙ sym (ap all_blank (drop_split k 161 l h) ∙ all_append (eqb blank) (drop k (take 161 l)) (drop 161 l))
    go false e =
        let m : max 161 k ≡ k = omega (arith, ltb-false k 161 e) in
        let n : length (take 161 l) ≡ min 161 (length l) = length-take 161 l in
        ap₂ (λ (x : List ℕ) (n : ℕ). both (all_blank x) (all_blank (drop n l)))
        (drop_of_length-le (take 161 l) {i = k} (omega (arith, ltb-false k 161 e))) m
        ∙ none_blank _
