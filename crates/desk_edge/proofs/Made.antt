-- A check that is not served leaves all as it was; one that is, tells and keeps what the desk found.
-- Assumes nothing.
use Prim.Native.Nat.{ℕ}
use mathlib.Core.Path.{◌≡◌, sym, ◌∙◌}
use mathlib.Core.Bool.{Bool, true, false}
use mathlib.Core.List.{List, [], ◌∷◌}
use borrow.Author.Tests.{eqb-true}
use lib.Dec.{eqb}
use lib.ListN.{length}
use Rattle.ground.specs.Choice.{both}
use Rattle.ground.proofs.Choices.{right, picks, skips}
use Rattle.desk.specs.declared.Checked.{Checked}
use Rattle.desk_bytes.specs.Layout.{sent_size}
use Rattle.desk_bytes.specs.Bytes.{is_held, held_stored}
use Rattle.desk_edge.specs.Calls.{finding_code, finding_field, is_served, check_answer, check_held, check_word, MeetsCheck}

-- the three tests, as the function makes them
pub three_words : (a b : Bool) (n : ℕ) → both a (both b (eqb n 3)) ≡ true → n ≡ 3
three_words a b n e = eqb-true n 3 (right b _ (right a _ e))

module _ (held sent word : List ℕ) (x : Checked) where
  abbrev tests : Bool
  tests = both (is_held held) (both (eqb (length sent) sent_size) (eqb (length word) 3))

  pub unserved : (r : ℕ) (h w : List ℕ) → tests ≡ false → r ≡ 11 → h ≡ held → w ≡ word → MeetsCheck held sent word x r h w
  unfolding is_served check_answer check_held check_word
  unserved r h w t a b c =
      record { answers = a ∙ sym (skips _ _ _ t); keeps = b ∙ sym (skips _ _ _ t); tells = c ∙ sym (skips _ _ _ t) }

  pub served : (r : ℕ) (h w : List ℕ) → tests ≡ true → r ≡ finding_code x.finding → h ≡ held_stored held x.held
      → w ≡ finding_field x.finding ∷ x.letter ∷ x.code ∷ [] → MeetsCheck held sent word x r h w
  unfolding is_served check_answer check_held check_word
  served r h w t a b c =
      record { answers = a ∙ sym (picks _ _ _ t); keeps = b ∙ sym (picks _ _ _ t); tells = c ∙ sym (picks _ _ _ t) }
