-- Where the fields stand: each begins where those before it end, which is computed for all of them, and what is read there.
-- Assumes nothing.
use mathlib.Core.Path.{◌≡◌, refl, sym, ap, ◌∙◌}
use mathlib.Core.Bool.{false}
use mathlib.Core.List.{List, [], ◌∷◌, ◌++◌, map, append-nil}
use Prim.Native.Nat.{ℕ, zero, suc, ◌+◌, ◌-◌, ◌^◌, ◌≤◌, ◌<◌, zero-le}
use native.Mathlib.Nat.{zero-add, not-suc-le-zero, le_of_suc-le-suc, le_trans, lt_of_lt_of_le, pow-le-pow_right}
use native.Mathlib.Numerals.{add-one}
use native.Mathlib.Omega.{arith}
use borrow.Author.Tests.{eqb-true}
use lib.Dec.{eqb, lit<, lit≤}
use lib.ListN.{length, get_or, take, drop, drop_of_length-le}
use lib.Seq.{take_all, take-nil}
use Rattle.ground.specs.Choice.{both, pick}
use Rattle.ground.specs.Lists.{part, overlay}
use Rattle.ground.proofs.Parts.{part_length, part_short}
use Rattle.ground.proofs.Choices.{skips}
use Rattle.ground.proofs.Table.{each}
use Rattle.text.specs.Numbers.{decimal, hex}
use Rattle.text.proofs.Laws.{decimal-lt}
use Rattle.message.specs.Layout.{Field, laid, field, no_field, fields, total, layout, layout_length, offset_in, width_in, field_text}
use Rattle.message.specs.declared.Kind.{Kind}
use Rattle.message.specs.declared.Kind.TheVariants.{Esi, Suo, Var}

-- the number of the field at a place
abbrev pub number_at : ℕ → ℕ
number_at i = (get_or fields i (laid no_field "" 0)).number

-- the tables of the fields' numbers and of their places
abbrev pub numbers : List ℕ
numbers = map (λ f. f.number) (take 22 fields)

abbrev pub starts : List ℕ
starts = map (λ f. offset_in f.number fields) (take 23 fields)

-- ---- places

rises : (l : List Field) (i j : ℕ) → i ≤ j → total (take i l) ≤ total (take j l)
unfolding total
rises [] i j h = rw (take-nil {A = Field} i) (zero-le)
rises (f ∷ l) zero j h = zero-le
rises (f ∷ l) (suc i) zero h = absurd (not-suc-le-zero h)
rises (f ∷ l) (suc i) (suc j) h = omega (arith, rises l i j (le_of_suc-le-suc h))

pub ordered : (i j : ℕ) → i ≤ j → total (take i fields) ≤ total (take j fields)
ordered = rises fields

-- the two rules of a field's place, computed
begins : (i : ℕ) → i < 22 → offset_in (number_at i) fields ≡ total (take i fields)
unfolding both pick offset_in total
begins i h =
    eqb-true _ _ (each (λ k. eqb (offset_in (number_at k) fields) (total (take k fields))) 22 tt i h)

wide : (i : ℕ) → i < 22 → width_in (number_at i) fields ≡ total (take (suc i) fields) - total (take i fields)
unfolding both pick width_in total
wide i h =
    eqb-true _ _ (each (λ k. eqb (width_in (number_at k) fields) (total (take (suc k) fields) - total (take k fields))) 22 tt i h)

pub placed : (i : ℕ) (m : List ℕ) → i < 22
    → part (total (take i fields)) (total (take (i + 1) fields) - total (take i fields)) m ≡ field_text (number_at i) m
unfolding field_text
placed i m h = rw (add-one i, begins i h, wide i h)

-- a field that isn't the one at a place stands among those after it
passed : (l : List Field) (d : Field) (i n : ℕ) → i < length l → eqb (get_or l i d).number n ≡ false
    → (total (take i l) + offset_in n (drop i l) ≡ total (take (suc i) l) + offset_in n (drop (suc i) l))
    × (width_in n (drop i l) ≡ width_in n (drop (suc i) l))
unfolding total offset_in width_in
passed [] d i n h e = absurd (not-suc-le-zero h)
passed (f ∷ l) d zero n h e = (rw (skips _ 0 (f.length + offset_in n l) e) (omega arith), skips _ _ _ e)
passed (f ∷ l) d (suc i) n h e =
    let r = passed l d i n (le_of_suc-le-suc h) e in
    (omega (arith, r.0), r.1)

-- where the first i fields are not the one
abbrev pub Past : (n i : ℕ) → Type 0
Past n i = (offset_in n fields ≡ total (take i fields) + offset_in n (drop i fields)) × (width_in n fields ≡ width_in n (drop i fields))

pub past_start : (n : ℕ) → Past n 0
unfolding total
past_start n = (sym (zero-add _), refl)

pub past_more : (n i : ℕ) → i < 22 → eqb (number_at i) n ≡ false → Past n i → Past n (i + 1)
past_more n i h e p =
    let q = passed fields (laid no_field "" 0) i n (omega arith) e in
    rw (add-one i) (p.0 ∙ q.0, p.1 ∙ q.1)

-- a message of a customer has no other field
pub none_past : (n : ℕ) (m : List ℕ) → length m ≤ 161 → Past n 22 → field_text n m ≡ []
unfolding field_text part total
none_past n m h p =
    let e : drop (offset_in n fields) m ≡ [] = drop_of_length-le m {i = offset_in n fields} (omega (arith, p.0)) in
    ap (take (width_in n fields)) e ∙ take-nil (width_in n fields)

-- no message of a customer's has a layout of more than 161
pub layout_within : (kind : Kind) → layout_length kind ≤ 161
unfolding layout_length layout total
layout_within Esi = omega arith
layout_within Suo = omega arith
layout_within Var = omega arith

-- field 2, which states the length
pub length-field : (m : List ℕ) → field_text (field 2) m ≡ part 5 3 m
unfolding field_text offset_in width_in pick
length-field m = refl

-- ---- what is read at a place

pub narrow : (n : ℕ) (m : List ℕ) → length (field_text n m) ≤ width_in n fields
unfolding field_text
narrow n m = part_short m (offset_in n fields) (width_in n fields)

-- a text that is short enough is read whole, and at most nine digits fit in 32 bits
module _ (text : List ℕ) (r : ℕ) where
  pub number_whole : length text ≤ 19 → r ≡ decimal (take 19 text) → r ≡ decimal text
  number_whole h q = q ∙ ap decimal (take_all 19 text h)

  pub hex_whole : length text ≤ 16 → r ≡ hex (take 16 text) → r ≡ hex text
  hex_whole h q = q ∙ ap hex (take_all 16 text h)

  pub number_fits : length text ≤ 9 → r ≡ decimal (take 19 text) → r < 2 ^ 32
  number_fits h q =
      rw (number_whole (omega arith) q)
      (lt_of_lt_of_le (decimal-lt text) (le_trans (pow-le-pow_right (lit< tt) h) (lit≤ tt)))

-- the same of the text of a field that is named v
module _ (v n : ℕ) (text : List ℕ) (e : n ≡ v) (h : length text ≤ width_in n fields) (r : ℕ) (q : r ≡ decimal (take 19 text)) where
  pub named_whole : width_in v fields ≤ 19 → r ≡ decimal text
  named_whole w = number_whole text r (le_trans (rw e at h) w) q

  pub named_fits : width_in v fields ≤ 9 → r < 2 ^ 32
  named_fits w = number_fits text r (le_trans (rw e at h) w) q

-- the same of what a span lends
module _ (at w : ℕ) (s m : List ℕ) (e : s ≡ part at w m) where
  s_length : length s ≤ w
  s_length = rw e (part_short m at w)

  pub numbered : (r : ℕ) → w ≤ 19 → r ≡ decimal (take 19 s) → r ≡ decimal (part at w m)
  numbered r h q = number_whole s r (le_trans s_length h) q ∙ ap decimal e

  pub hexed : (r : ℕ) → w ≤ 16 → r ≡ hex (take 16 s) → r ≡ hex (part at w m)
  hexed r h q = hex_whole s r (le_trans s_length h) q ∙ ap hex e

  pub fitting : (r : ℕ) → w ≤ 9 → r ≡ decimal (take 19 s) → r < 2 ^ 32
  fitting r h q = number_fits s r (le_trans s_length h) q

  -- written over as much room
  pub copied : (out d : List ℕ) → out ≡ overlay s d → length d ≡ w → at + w ≤ length m → out ≡ part at w m
  unfolding overlay
  copied out d q p h =
      let l : length s ≡ w = ap length e ∙ part_length m at w h in
      q
      ∙ ap (λ (t : List ℕ). take (length d) s ++ t) (drop_of_length-le d {i = length s} (omega arith))
      ∙ append-nil (take (length d) s)
      ∙ take_all (length d) s (omega arith)
      ∙ e
