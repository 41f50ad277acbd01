-- What is read in a reply, also in one that is too short: a field's characters decide what its letter and its code are.
-- Assumes nothing.
use mathlib.Core.Path.{◌≡◌, refl, sym, ap, ◌∙◌}
use mathlib.Core.Bool.{true, false}
use mathlib.Core.List.{List, [], ◌∷◌}
use Prim.Native.Nat.{ℕ, ◌+◌, ◌-◌}
use native.Mathlib.Omega.{arith}
use borrow.Author.Tests.{eq-eqb, ne_eqb}
use lib.Dec.{lit<}
use lib.ListN.{length, get_or, take}
use Rattle.ground.specs.Choice.{pick}
use Rattle.ground.specs.Lists.{all, part, same}
use Rattle.ground.proofs.Choices.{join, fails_left, fails_right, either_left, either_right, picks, skips, same-eq}
use Rattle.ground.proofs.Bools.{either_none}
use Rattle.ground.proofs.Parts.{get_d_part}
use Rattle.text.specs.Characters.{digit}
use Rattle.text.specs.Numbers.{decimal}
use Rattle.text.specs.Letters.{letters}
use Rattle.message.specs.Layout.{field_text, offset_in, width_in}
use Rattle.message.specs.Rules.{one_of}
use Rattle.message.proofs.Places.{number_whole}
use Rattle.desk.specs.Desk.{letter_in, code_in}

-- a part of a width from its two ends
pub span_of : (at w : ℕ) (s r : List ℕ) → s ≡ part at (at + w - at) r → s ≡ part at w r
span_of at w s r e = let z : at + w - at ≡ w = omega arith in e ∙ ap (λ (n : ℕ). part at n r) z

-- ---- the letter

module _ (r s : List ℕ) (e : s ≡ part 11 1 r) where
  its_letter : (x : ℕ) → same (x ∷ []) s ≡ true → x ≡ get_or r 11 0
  its_letter x t = ap (λ (l : List ℕ). get_or l 0 0) (same-eq (x ∷ []) s t ∙ e) ∙ get_d_part r 11 1 0 (lit< tt)

  pub letter_k : same (letters "K") s ≡ true → 75 ≡ letter_in r
  unfolding letter_in one_of letters field_text offset_in width_in pick
  letter_k t = its_letter 75 t ∙ sym (picks _ _ _ (either_left _ _ (ap (same (letters "K")) (sym e) ∙ t)))

  pub letter_e : same (letters "E") s ≡ true → 69 ≡ letter_in r
  unfolding letter_in one_of letters field_text offset_in width_in pick
  letter_e t =
      its_letter 69 t
      ∙ sym (picks _ _ _ (either_right _ _ (either_left _ _ (ap (same (letters "E")) (sym e) ∙ t))))

  pub no_letter : same (letters "K") s ≡ false → same (letters "E") s ≡ false → 0 ≡ letter_in r
  unfolding letter_in one_of letters field_text offset_in width_in pick
  no_letter t u = sym (skips _ _ _ (either_none _ _ (ap (same (letters "K")) (sym e) ∙ t)
      (either_none _ _ (ap (same (letters "E")) (sym e) ∙ u) refl)))

-- ---- the code

module _ (r s : List ℕ) (e : s ≡ part 12 4 r) where
  pub code_short : (length s ≡ 4 → ⊥) → 0 ≡ code_in r
  unfolding code_in field_text offset_in width_in pick
  code_short h = sym (skips _ _ _ (fails_left _ _ (ne_eqb _ 4 (λ z. h (ap length e ∙ z)))))

  pub code_unread : all digit s ≡ false → 0 ≡ code_in r
  unfolding code_in field_text offset_in width_in pick
  code_unread t = sym (skips _ _ _ (fails_right _ _ (ap (all digit) (sym e) ∙ t)))

  pub code_read : (n : ℕ) → length s ≡ 4 → all digit s ≡ true → n ≡ decimal (take 19 s) → n ≡ code_in r
  unfolding code_in field_text offset_in width_in pick
  code_read n h t q =
      number_whole s n (omega arith) q
      ∙ ap decimal e
      ∙ sym (picks _ _ _ (join _ _ (eq-eqb _ 4 (sym (ap length e) ∙ h)) (ap (all digit) (sym e) ∙ t)))
