-- Bytes of a desk's length are a desk's where the keys before are exact and the desk is sound: all else is written as it is read.
-- Assumes nothing.
use mathlib.Core.Path.{◌≡◌, refl, sym, ap, ◌∙◌}
use mathlib.Core.Bool.{Bool, true, false}
use mathlib.Core.List.{List}
use native.Mathlib.Omega.{arith}
use borrow.Author.Tests.{eq-eqb, ne_eqb, eqb-true}
use lib.Dec.{eqb}
use lib.ListN.{length}
use Rattle.ground.specs.Choice.{both}
use Rattle.ground.specs.Lists.{same}
use Rattle.ground.proofs.Choices.{left, fails_left, decides, picks, skips}
use Rattle.ground.proofs.Bools.{both_assoc}
use Rattle.ground.proofs.Parts.{part_all}
use Rattle.splices.proofs.Splice.{AllBytes}
use Rattle.codec.specs.Layout.{perhaps, width, enc, dec, ok}
use Rattle.codec.proofs.Laws.{exact}
use Rattle.desk.specs.Held.{no_desk}
use Rattle.desk.specs.declared.Held.{Held}
use Rattle.desk_bytes.specs.Layout.{held_size, numbered_shape, held_shape, held_from}
use Rattle.desk_bytes.specs.Bytes.{sound_held, held_bytes, held_of, is_held, held_in, held_stored}
use Rattle.desk_bytes.proofs.Fields.{fields_back}

-- another length is none
pub wrong_length : (l : List _) → (length l ≡ held_size → ⊥) → false ≡ is_held l
unfolding is_held
wrong_length l n = sym (fails_left (eqb (length l) held_size) _ (ne_eqb (length l) held_size n))

pub long : (l : List _) → is_held l ≡ true → length l ≡ held_size
unfolding is_held
long l e = eqb-true (length l) held_size (left (eqb (length l) held_size) _ e)

module _ (l : List _) (n : length l ≡ held_size) (b : AllBytes l) where
  shape_test : ok held_shape 0 l ≡ both (ok (perhaps numbered_shape) 59 l) (ok (perhaps numbered_shape) 78 l)
  unfolding ok width both
  shape_test = refl

  pub by_tests : is_held l ≡ both (ok (perhaps numbered_shape) 59 l) (both (ok (perhaps numbered_shape) 78 l) (sound_held (held_of l)))
  unfolding is_held held_bytes held_of width
  by_tests =
      decides (eqb (length l) held_size) _ (eq-eqb (length l) held_size n)
      ∙ ap (λ (t : Bool). both t (sound_held (held_from (dec held_shape 0 l))))
      ((λ i. same (enc held_shape (fields_back (dec held_shape 0 l) i)) (sym (part_all l 88 (omega arith)) i))
      ∙ sym (exact held_shape 0 l b (omega arith)) ∙ shape_test)
      ∙ both_assoc (ok (perhaps numbered_shape) 59 l) (ok (perhaps numbered_shape) 78 l) _

-- ---- what bytes say, and what is written over them

pub said : (l : List _) → is_held l ≡ true → held_in l ≡ held_of l
unfolding held_in
said l e = picks (is_held l) (held_of l) no_desk e

pub unsaid : (l : List _) → is_held l ≡ false → held_in l ≡ no_desk
unfolding held_in
unsaid l e = skips (is_held l) (held_of l) no_desk e

pub stored : (l : List _) (h : Held) → length l ≡ held_size → held_stored l h ≡ held_bytes h
unfolding held_stored
stored l h n = picks _ _ _ (eq-eqb (length l) held_size n)

pub stays : (l : List _) (h : Held) → (length l ≡ held_size → ⊥) → held_stored l h ≡ l
unfolding held_stored
stays l h n = skips _ _ _ (ne_eqb (length l) held_size n)
