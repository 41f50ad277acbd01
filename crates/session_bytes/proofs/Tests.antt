-- Bytes of a session's length are a session's where they pass the layout's tests, one after the other.
-- Assumes nothing.
use mathlib.Core.Path.{◌≡◌, refl, sym, ◌∙◌}
use mathlib.Core.Bool.{Bool, true, false}
use mathlib.Core.List.{List}
use Prim.Native.Nat.{ℕ, ◌+◌}
use native.Mathlib.Omega.{arith}
use borrow.Author.Tests.{eq-eqb, eqb-true, ne_eqb, le-leb, leb-true, lt-ltb, ltb-true}
use lib.Dec.{eqb, leb, ltb}
use lib.ListN.{length}
use Rattle.std.specs.Prelude.{◌&&◌}
use Rattle.std.proofs.Math.Bool.{and-true, and_assoc}
use Rattle.ground.specs.Lists.{part, same}
use Rattle.ground.proofs.Choices.{fails_left, decides}
use Rattle.ground.proofs.Bools.{decided, clash}
use Rattle.ground.proofs.Std.{both_is}
use Rattle.ground.proofs.Parts.{part_all}
use Rattle.splices.specs.Bytes.{num}
use Rattle.splices.proofs.Splice.{AllBytes}
use Rattle.codec.specs.Layout.{perhaps, width, enc, dec, ok}
use Rattle.codec.proofs.Laws.{exact}
use Rattle.session_bytes.specs.Session.{session_size, once_shape, session_shape, session_bytes, session_of, is_session}
use Rattle.session_bytes.proofs.Fields.{fields_back}

-- the number of the byte at o is at most n
abbrev most : ℕ → ℕ → List ℕ → Bool
most o n l = leb (num (part o 1 l)) n

-- opened, ended, told, place, CR, gathered blank, SUO's extent, SUO blank, and the one-time key
abbrev pub tests : List ℕ → Bool
tests l =
    most 0 1 l
    && (most 1 1 l
    && (most 2 1 l
    && (most 3 6 l
    && (most 61 1 l && (most 66 1 l && (most 228 4 l && (most 229 1 l && ok (perhaps once_shape) 391 l)))))))

below_is : (n m x : ℕ) → n ≡ m + 1 → ltb x n ≡ leb x m
below_is n m x e =
    decided (ltb x n) (leb x m) (λ q. le-leb x m (omega (arith, ltb-true x n q))) (λ q. lt-ltb x n (omega (arith, leb-true x m q)))

flags_are : (x : ℕ) → ltb x 2 ≡ leb x 1
flags_are x = below_is 2 1 x refl

layout_test : (l : List ℕ) → ok session_shape 0 l ≡ tests l
unfolding ok width
layout_test l =
    simp (both_is, and-true, and_assoc, flags_are, below_is 7 6 (num (part 3 1 l)) refl, below_is 5 4 (num (part 228 1 l)) refl)

-- another length is none
wrong_length : (l : List ℕ) → (length l ≡ session_size → ⊥) → is_session l ≡ false
unfolding is_session
wrong_length l n = fails_left (eqb (length l) session_size) (same (session_bytes (session_of l)) l) (ne_eqb (length l) session_size n)

right_length : (l : List ℕ) → length l ≡ session_size → AllBytes l → is_session l ≡ tests l
unfolding is_session session_bytes session_of width
right_length l n b =
    decides (eqb (length l) session_size) _ (eq-eqb (length l) session_size n)
    ∙ (λ i. same (enc session_shape (fields_back (dec session_shape 0 l) i)) (sym (part_all l 472 (omega arith)) i))
    ∙ sym (exact session_shape 0 l b (omega arith))
    ∙ layout_test l

pub session_test : (l : List ℕ) → AllBytes l → is_session l ≡ (eqb (length l) 472 && tests l)
session_test l b = go (eqb (length l) 472) refl
  where
    go : (t : Bool) → eqb (length l) 472 ≡ t → is_session l ≡ (t && tests l)
    go true e = right_length l (eqb-true (length l) 472 e) b
    go false e = wrong_length l (λ n. clash (eqb (length l) 472) (eq-eqb (length l) 472 n) e)
