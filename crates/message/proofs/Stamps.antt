-- The stamp's fifteen digits are date, time and number one after the other, so that it splits by division.
-- Assumes nothing.
use mathlib.Core.Path.{◌≡◌, sym, ap, ap₂, ◌∙◌}
use mathlib.Core.List.{List, [], ◌∷◌, ◌++◌}
use Prim.Native.Nat.{ℕ, ◌+◌, ◌*◌, ◌/◌, ◌%◌, ◌^◌, ◌≤◌, ◌<◌}
use native.Mathlib.Nat.{add-mul, add_assoc, mul_assoc, mul_comm, zero-mul, zero-add, pow-suc}
use native.Mathlib.Omega.{arith}
use lib.ListN.{length}
use Rattle.ground.specs.Choice.{pick}
use Rattle.ground.specs.Lists.{part}
use Rattle.ground.proofs.Parts.{part_length, part-add}
use Rattle.text.specs.Numbers.{digit_value, decimal, decimal_from}
use Rattle.text.proofs.Laws.{decimal-nil, decimal-cons, decimal-lt}
use Rattle.calendar.specs.Dates.{dated}
use Rattle.message.specs.Layout.{offset_in, width_in, field_text}
use Rattle.message.specs.Fields.{stamp_text_of, stamp_of, date_of_stamp}

-- ---- digits after digits

after : (a : ℕ) (l r : List ℕ) → decimal_from a (l ++ r) ≡ decimal_from (decimal_from a l) r
after a [] r = ap (λ (n : ℕ). decimal_from n r) (sym (decimal-nil a))
after a (c ∷ l) r =
    decimal-cons a c (l ++ r)
    ∙ after (a * 10 + digit_value c) l r
    ∙ ap (λ (n : ℕ). decimal_from n r) (sym (decimal-cons a c l))

-- what stands before counts as often as there are numbers of that many digits
raised : (a : ℕ) (l : List ℕ) → decimal_from a l ≡ a * 10 ^ length l + decimal l
raised a [] = rw (decimal-nil a, decimal-nil 0) (omega arith)
raised a (c ∷ l) =
    let v : ℕ = digit_value c in
    let n : ℕ = 10 ^ length l in
    decimal-cons a c l
    ∙ raised (a * 10 + v) l
    ∙ spread a v n (decimal l)
    ∙ ap₂ ◌+◌ (ap (λ (k : ℕ). a * k) (sym (pow-suc 10 (length l)))) (sym (raised (0 * 10 + v) l) ∙ sym (decimal-cons 0 c l))
  where
    spread : (a v n d : ℕ) → (a * 10 + v) * n + d ≡ a * (n * 10) + ((0 * 10 + v) * n + d)
    spread a v n d =
        ap (λ (k : ℕ). k + d) (add-mul (a * 10) v n ∙ ap (λ (k : ℕ). k + v * n) (mul_assoc a 10 n ∙ ap (λ (k : ℕ). a * k) (mul_comm 10 n)))
        ∙ add_assoc (a * (n * 10)) (v * n) d
        ∙ ap (λ (k : ℕ). a * (n * 10) + (k * n + d)) (sym (ap (λ (k : ℕ). k + v) (zero-mul 10) ∙ zero-add v))

joined : (w : ℕ) (l r : List ℕ) → length r ≡ w → decimal (l ++ r) ≡ decimal l * 10 ^ w + decimal r
joined w l r e = after 0 l r ∙ raised (decimal l) r ∙ ap (λ (n : ℕ). decimal l * 10 ^ n + decimal r) e

-- ---- the three parts

module _ (m : List ℕ) (e : length m ≡ 161) where
  late : decimal (part 93 9 m) ≡ decimal (part 93 6 m) * 10 ^ 3 + decimal (part 99 3 m)
  late = ap decimal (part-add m 93 6 3) ∙ joined 3 (part 93 6 m) (part 99 3 m) (part_length m 99 3 (omega arith))

  split : decimal (part 87 15 m) ≡ decimal (part 87 6 m) * 10 ^ 9 + decimal (part 93 9 m)
  split = ap decimal (part-add m 87 6 9) ∙ joined 9 (part 87 6 m) (part 93 9 m) (part_length m 93 9 (omega arith))

  below : (at w : ℕ) → at + w ≤ 161 → decimal (part at w m) < 10 ^ w
  below at w h =
      let l : length (part at w m) ≡ w = part_length m at w (omega arith) in
      rw l at (decimal-lt (part at w m))

  pub stamp_lt : stamp_of m < 10 ^ 15
  unfolding stamp_of stamp_text_of offset_in pick
  stamp_lt = below 87 15 (omega arith)

  -- the date stands before nine digits
  pub stamp_date : date_of_stamp m ≡ dated (stamp_of m / 1000000000)
  unfolding date_of_stamp stamp_of stamp_text_of field_text offset_in width_in pick
  stamp_date =
      let e : decimal (part 87 6 m) ≡ stamp_of m / 1000000000 = omega (arith, split, below 93 9 (omega arith)) in ap dated e

  -- the time stands before three
  pub stamp_time : decimal (field_text 122 m) ≡ stamp_of m / 1000 % 1000000
  unfolding stamp_of stamp_text_of field_text offset_in width_in pick
  stamp_time = omega (arith, split, late, below 93 6 (omega arith), below 99 3 (omega arith))
