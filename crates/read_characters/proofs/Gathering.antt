-- One character more: it is kept while there is room, and past the room it is counted, and past the stated length seen to be blank or not.
-- Assumes nothing.
use mathlib.Core.Path.{◌≡◌, refl, sym, ap, ◌∙◌}
use mathlib.Core.Bool.{Bool}
use mathlib.Core.List.{List, [], ◌∷◌, ◌++◌}
use Prim.Native.Nat.{ℕ, ◌+◌, ◌-◌, ◌≤◌, ◌<◌, min}
use native.Mathlib.Numerals.{add-one}
use native.Mathlib.Omega.{arith}
use borrow.Author.Tests.{lt-ltb, le-ltb}
use lib.Dec.{eqb, ltb}
use lib.ListN.{length, get_or, set, take, drop, length-drop, length-set, drop_of_length-le, take-append-drop}
use lib.Seq.{drop-cons, take_all, length-take-le}
use borrow.Rule.Slice.PartMut.{put_mid}
use Rattle.std.proofs.lemmas.Grind.{common_steps}
use Rattle.std.proofs.lemmas.List.{take_more_set, drop-set-lt, append_assoc}
use Rattle.ground.specs.Choice.{both, either}
use Rattle.ground.proofs.Choices.{picks, skips}
use Rattle.text.specs.Characters.{blank}
use Rattle.whole_file.specs.Messages.{most_length, wanted_length}
use Rattle.session.specs.Events.{gathered_with, gathered_all}
use Rattle.session.specs.declared.Gathered.{Gathered}

-- ---- one character

module _ (g : Gathered) (c : ℕ) {count : ℕ} {clear : Bool} {text : List ℕ} where
  -- there is room
  pub with_room : g.count < 161 → count ≡ g.count + 1 → clear ≡ g.blank → text ≡ set g.text g.count c
      → record { count = count; blank = clear; text = text } ≡ gathered_with g c
  unfolding gathered_with
  with_room h p q r = rw (p, q, r) (sym (picks _ _ _ (lt-ltb _ _ h)))

  -- there is none
  pub past_room : (wanted : ℕ) → 161 ≤ g.count → wanted ≡ wanted_length g.text → count ≡ min (g.count + 1) most_length
      → clear ≡ both g.blank (either (ltb g.count wanted) (eqb c blank)) → text ≡ g.text
      → record { count = count; blank = clear; text = text } ≡ gathered_with g c
  unfolding gathered_with
  past_room wanted h w p q r = rw (p, q, r, w) (sym (skips _ _ _ (le-ltb _ _ h)))

-- ---- many

module _ (g : Gathered) (l : List ℕ) (i : ℕ) where
  -- the character at i is taken
  pub gathered_drop : {r : Gathered} → i < length l → r ≡ gathered_with g (get_or l i 0)
      → gathered_all r (drop (i + 1) l) ≡ gathered_all g (drop i l)
  unfolding gathered_all
  gathered_drop h e = rw (e, add-one i, drop-cons l i 0 h)

  pub gathered_done : length l ≤ i → gathered_all g (drop i l) ≡ g
  unfolding gathered_all
  gathered_done h = rw (drop_of_length-le l {i = i} h)

-- ---- as many as there is room for

put_one : (text : List ℕ) (i k c : ℕ) (l : List ℕ) → i < length text → put_mid (i + 1) k (set text i c) l ≡ put_mid i (k + 1) text (c ∷ l)
put_one text i k c l h = grind (arith, common_steps, take_more_set, drop-set-lt, append_assoc)

put_none : (text : List ℕ) (i : ℕ) → put_mid i 0 text [] ≡ text
put_none text i = take-append-drop i text

pub kept_all : (g : Gathered) (l : List ℕ) (count k : ℕ) (text : List ℕ) → count ≡ g.count + length l → count ≤ 161 → length g.text ≡ 161
    → k ≡ length l → text ≡ put_mid g.count k g.text l → record { count = count; blank = g.blank; text = text } ≡ gathered_all g l
unfolding gathered_all
kept_all g [] count k text e h w n f =
    let p : count ≡ g.count = omega arith in
    rw (f, n, p, put_none g.text g.count)
kept_all g (c ∷ l) count k text e h w n f =
    let r : Gathered = record { count = g.count + 1; blank = g.blank; text = set g.text g.count c } in
    let m : k ≡ length l + 1 = omega arith in
    kept_all r l count (length l) text (omega arith) h (length-set g.text g.count c ∙ w) refl
    (f ∙ ap (λ (i : ℕ). put_mid g.count i g.text (c ∷ l)) m ∙ sym (put_one g.text g.count (length l) c l (omega arith)))
    ∙ ap (λ (x : Gathered). gathered_all x l) (with_room g c (omega arith) refl refl refl)

-- ---- in two parts

gathered_append : (g : Gathered) (a b : List ℕ) → gathered_all g (a ++ b) ≡ gathered_all (gathered_all g a) b
unfolding gathered_all
gathered_append g [] b = refl
gathered_append g (c ∷ a) b = gathered_append (gathered_with g c) a b

pub gathered_cut : (g : Gathered) (l : List ℕ) (n : ℕ) {r s : Gathered} → r ≡ gathered_all g (take n l)
    → s ≡ gathered_all r (take (length l - n) (drop n l)) → s ≡ gathered_all g l
gathered_cut g l n {r} p q =
    let k : length (drop n l) ≤ length l - n = rw (length-drop n l) (omega arith) in
    q
    ∙ ap (gathered_all r) (take_all (length l - n) (drop n l) k)
    ∙ ap (λ (x : Gathered). gathered_all x (drop n l)) p
    ∙ sym (gathered_append g (take n l) (drop n l))
    ∙ ap (gathered_all g) (take-append-drop n l)

one_counted : (g : Gathered) (c : ℕ) → g.count < 161 → (gathered_with g c).count ≡ g.count + 1
unfolding gathered_with
one_counted g c h = ap (λ (r : Gathered). r.count) (picks _ _ _ (lt-ltb g.count 161 h))

-- as many as there is room for are counted one by one
all_counted : (g : Gathered) (l : List ℕ) → g.count + length l ≤ 161 → (gathered_all g l).count ≡ g.count + length l
unfolding gathered_all
all_counted g [] h = omega arith
all_counted g (c ∷ l) h =
    let e : (gathered_with g c).count ≡ g.count + 1 = one_counted g c (omega arith) in
    let f : (gathered_all (gathered_with g c) l).count ≡ (gathered_with g c).count + length l = all_counted (gathered_with g c) l (omega arith) in
    omega arith

-- and with as many the room is full
pub filled : (g : Gathered) (l : List ℕ) {r : Gathered} → r ≡ gathered_all g (take (161 - g.count) l) → g.count < 161
    → 161 - g.count < length l → 161 ≤ r.count
filled g l {r} e h k =
    let n : length (take (161 - g.count) l) ≡ 161 - g.count = length-take-le (161 - g.count) l (omega arith) in
    let c : r.count ≡ g.count + length (take (161 - g.count) l) =
    ap (λ (s : Gathered). s.count) e ∙ all_counted g (take (161 - g.count) l) (omega arith) in
    omega arith
