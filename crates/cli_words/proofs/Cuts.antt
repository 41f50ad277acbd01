-- A text in parts, from a place on: the part there, and the parts past its end. By induction over the text.
-- Assumes nothing.
use mathlib.Core.Path.{◌≡◌, refl, sym, ap, ap₂, ◌∙◌}
use mathlib.Core.Bool.{Bool, true, false}
use mathlib.Core.List.{List, [], ◌∷◌, ◌++◌}
use Prim.Native.Nat.{ℕ, ◌+◌, ◌-◌, ◌≤◌, ◌<◌}
use native.Mathlib.Nat.{suc-add, not-suc-le-zero}
use native.Mathlib.Omega.{arith}
use borrow.Author.Tests.{eq-eqb}
use lib.Dec.{eqb}
use lib.ListN.{length, take, drop, length-append, length-drop, drop_of_length-le}
use mathlib.Core.List.{append_assoc}
use mathlib.Core.Bool.{cond}
use Rattle.std.specs.Prelude.{Some, None}
use Rattle.std.specs.List.{position, position_or_len}
use Rattle.std.proofs.lemmas.List.Recursion.{is_position_or_len}
use Rattle.std.proofs.lemmas.Grind.{common_steps}
use borrow.Author.Tests.{eqb-true}
use lib.Seq.{take_all, drop_at, drop-drop, drop-append-le}
use Rattle.ground.specs.Choice.{pick}
use Rattle.ground.proofs.Choices.{picks}
use Rattle.cli_words.specs.Parts.{up_to, on_first, ended_by, split_at}

-- ---- one part

-- a part is the start of the text, as long as it is
pub up_to-take : (by : ℕ) (l : List ℕ) → take (length (up_to by l)) l ≡ up_to by l
unfolding up_to pick
up_to-take by [] = refl
up_to-take by (x ∷ l) = go (eqb x by) (up_to-take by l)
  where
    go : (t : Bool) → take (length (up_to by l)) l ≡ up_to by l
        → take (length (pick t [] (x ∷ up_to by l))) (x ∷ l) ≡ pick t [] (x ∷ up_to by l)
    go true e = refl
    go false e = ap (◌∷◌ x) e

-- ---- all parts

abbrev Step : ℕ → List ℕ → Type 0
Step by l = ended_by by l ≡ up_to by l ∷ ended_by by (drop (length (up_to by l) + 1) l)

last_step : (by x : ℕ) → Step by (x ∷ [])
unfolding up_to on_first ended_by pick
last_step by x = go (eqb x by)
  where
    go : (t : Bool) → pick t ([] ∷ []) ((x ∷ []) ∷ []) ≡ pick t [] (x ∷ []) ∷ ended_by by (drop (length (pick t [] (x ∷ [])) + 1) (x ∷ []))
    go true = refl
    go false = refl

more_step : (by x : ℕ) (l : List ℕ) → Step by l → Step by (x ∷ l)
unfolding up_to on_first ended_by pick
more_step by x l e = go (eqb x by)
  where
    go : (t : Bool) → pick t ([] ∷ ended_by by l) (on_first x (ended_by by l))
        ≡ pick t [] (x ∷ up_to by l) ∷ ended_by by (drop (length (pick t [] (x ∷ up_to by l)) + 1) (x ∷ l))
    go true = refl
    go false =
        ap (on_first x) e
        ∙ ap (λ (k : ℕ). (x ∷ up_to by l) ∷ ended_by by (drop k (x ∷ l))) (sym (suc-add (length (up_to by l)) 1))

step : (by : ℕ) (l : List ℕ) → 0 < length l → Step by l
step by [] h = absurd (not-suc-le-zero h)
step by (x ∷ []) h = last_step by x
step by (x ∷ y ∷ l) h = more_step by x (y ∷ l) (step by (y ∷ l) (omega arith))

up_to-grows : (by : ℕ) (l m : List ℕ) → up_to by (l ++ (by ∷ m)) ≡ up_to by l
unfolding up_to
up_to-grows by [] m = picks (eqb by by) [] (by ∷ up_to by m) (eq-eqb by by refl)
up_to-grows by (x ∷ l) m = ap (λ (p : List ℕ). pick (eqb x by) [] (x ∷ p)) (up_to-grows by l m)

past_it : (p r : List ℕ) (x : ℕ) → drop (length p + 1) (p ++ (x ∷ r)) ≡ r
past_it p r x = sym (drop-drop 1 (length p) (p ++ (x ∷ r))) ∙ ap (drop 1) (drop_at p (x ∷ r) (length p) refl)

-- a text that ends with its first part, or goes on behind it: what its parts are
module _ (by : ℕ) (l : List ℕ) where
  pub ended_more : (r : List ℕ) → l ≡ up_to by l ++ (by ∷ r) → ended_by by l ≡ up_to by l ∷ ended_by by r
  ended_more r e =
      let n : 0 < length l = omega (arith, ap length e, length-append (up_to by l) (by ∷ r)) in
      step by l n
      ∙ ap (λ (t : List ℕ). up_to by l ∷ ended_by by t) (ap (drop (length (up_to by l) + 1)) e ∙ past_it (up_to by l) r by)

  pub ended_last : 0 < length l → up_to by l ≡ l → ended_by by l ≡ up_to by l ∷ []
  unfolding ended_by
  ended_last n e =
      step by l n
      ∙ ap (λ (t : List ℕ). up_to by l ∷ ended_by by t) (drop_of_length-le l {i = length (up_to by l) + 1} (omega (arith, ap length e)))

module _ (by : ℕ) (l : List ℕ) where
  pub split_more : (r : List ℕ) → l ≡ up_to by l ++ (by ∷ r) → split_at by l ≡ up_to by l ∷ split_at by r
  unfolding split_at
  split_more r e =
      let t : List ℕ = l ++ (by ∷ []) in
      let u : up_to by t ≡ up_to by l = up_to-grows by l [] in
      let f : t ≡ up_to by l ++ (by ∷ (r ++ (by ∷ []))) = ap (λ (x : List ℕ). x ++ (by ∷ [])) e ∙ append_assoc (up_to by l) (by ∷ r) (by ∷ []) in
      ended_more by t (r ++ (by ∷ [])) (f ∙ ap (λ (p : List ℕ). p ++ (by ∷ (r ++ (by ∷ [])))) (sym u))
      ∙ ap (λ (p : List ℕ). p ∷ ended_by by (r ++ (by ∷ []))) u

  pub split_last : up_to by l ≡ l → split_at by l ≡ up_to by l ∷ []
  unfolding split_at ended_by
  split_last e =
      let t : List ℕ = l ++ (by ∷ []) in
      let u : up_to by t ≡ up_to by l = up_to-grows by l [] in
      ended_more by t [] (ap (λ (x : List ℕ). x ++ (by ∷ [])) (sym e ∙ sym u)) ∙ ap (λ (p : List ℕ). p ∷ []) u

-- ---- where the first part ends

up_to-place : (by : ℕ) (l : List ℕ) → length (up_to by l) ≡ position_or_len (λ (b : ℕ). eqb b by) l
unfolding up_to pick
up_to-place by = is_position_or_len (λ (l : List ℕ). length (up_to by l)) (λ (b : ℕ). eqb b by) refl (λ x xs. go x xs (eqb x by))
  where
    go : (x : ℕ) (xs : List ℕ) (t : Bool) → length (pick t [] (x ∷ up_to by xs)) ≡ cond t 0 (1 + length (up_to by xs))
    go x xs true = refl
    go x xs false = omega arith

pub placed : (by : ℕ) (s : List ℕ) (end : ℕ) → Some end ≡ position (λ (b : ℕ). eqb b by) s → (end < length s) × (length (up_to by s) ≡ end)
placed by s end e = grind (arith, up_to-place by s, common_steps)

pub unplaced : (by : ℕ) (s : List ℕ) → None ≡ position (λ (b : ℕ). eqb b by) s → length s ≤ length (up_to by s)
unplaced by s e = grind (arith, up_to-place by s, common_steps)

pub up_to_whole : (by : ℕ) (l : List ℕ) → length l ≤ length (up_to by l) → up_to by l ≡ l
up_to_whole by l h = sym (up_to-take by l) ∙ take_all (length (up_to by l)) l h

pub up_to_split : (by : ℕ) (l : List ℕ) → length (up_to by l) < length l → l ≡ up_to by l ++ (by ∷ drop (length (up_to by l) + 1) l)
unfolding up_to pick
up_to_split by [] h = absurd (omega arith)
up_to_split by (x ∷ l) h = go (eqb x by) refl h (up_to_split by l)
  where
    go : (t : Bool) → eqb x by ≡ t → length (pick t [] (x ∷ up_to by l)) < length (x ∷ l)
        → (length (up_to by l) < length l → l ≡ up_to by l ++ (by ∷ drop (length (up_to by l) + 1) l))
        → x ∷ l ≡ pick t [] (x ∷ up_to by l) ++ (by ∷ drop (length (pick t [] (x ∷ up_to by l)) + 1) (x ∷ l))
    go true e h f = ap (λ (b : ℕ). b ∷ l) (eqb-true x by e)
    go false e h f =
        ap (◌∷◌ x) (f (omega arith))
        ∙ ap (λ (k : ℕ). x ∷ (up_to by l ++ (by ∷ drop k (x ∷ l)))) (sym (suc-add (length (up_to by l)) 1))

-- ---- the parts from a place on: the one there, and those past its end

part_is : (by : ℕ) (s : List ℕ) (at r : ℕ) → r ≡ at + length (up_to by (drop at s)) → up_to by (drop at s) ≡ take (r - at) (drop at s)
part_is by s at r e =
    let n : length (up_to by (drop at s)) ≡ r - at = omega arith in
    sym (up_to-take by (drop at s)) ∙ ap (λ (k : ℕ). take k (drop at s)) n

ended_at : (by : ℕ) (s : List ℕ) (at : ℕ) → at < length s
    → ended_by by (drop at s) ≡ up_to by (drop at s) ∷ ended_by by (drop (at + (length (up_to by (drop at s)) + 1)) s)
ended_at by s at h =
    step by (drop at s) (rw (length-drop at s) (omega arith))
    ∙ ap (λ (l : List ℕ). up_to by (drop at s) ∷ ended_by by l) (drop-drop (length (up_to by (drop at s)) + 1) at s)

pub ended_from : (by : ℕ) (s : List ℕ) (at r : ℕ) → at < length s → r ≡ at + length (up_to by (drop at s))
    → ended_by by (drop at s) ≡ take (r - at) (drop at s) ∷ ended_by by (drop (r + 1) s)
ended_from by s at r h e =
    let n : at + (length (up_to by (drop at s)) + 1) ≡ r + 1 = omega arith in
    ended_at by s at h ∙ ap₂ (λ (p : List ℕ) (k : ℕ). p ∷ ended_by by (drop k s)) (part_is by s at r e) n

-- the same between the bytes `by`
pub splits_from : (by : ℕ) (s : List ℕ) (at r : ℕ) → at ≤ length s → r ≡ at + length (up_to by (drop at s))
    → ended_by by (drop at (s ++ (by ∷ []))) ≡ take (r - at) (drop at s) ∷ ended_by by (drop (r + 1) (s ++ (by ∷ [])))
splits_from by s at r h e =
    let t : List ℕ = s ++ (by ∷ []) in
    let u : up_to by (drop at t) ≡ up_to by (drop at s) = ap (up_to by) (drop-append-le at s (by ∷ []) h) ∙ up_to-grows by (drop at s) [] in
    let n : at + (length (up_to by (drop at t)) + 1) ≡ r + 1 = omega (arith, ap length u) in
    ended_at by t at (rw (length-append s (by ∷ [])) (omega arith))
    ∙ ap₂ (λ (p : List ℕ) (k : ℕ). p ∷ ended_by by (drop k t)) (u ∙ part_is by s at r e) n
