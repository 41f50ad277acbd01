-- A type's text has one digit or two: each byte is looked up by one test over all bytes, and no other length is listed.
-- Assumes nothing.
use Rattle.std.proofs.Common.{◌≡◌, ℕ, ◌+◌, ◌-◌, ◌*◌, length-append, ◌%◌, ◌^◌, ◌<◌, ◌≤◌, Bool, true, false, List, [], ◌∷◌, ◌++◌, map, length, get_or, eqb, replicate, refl, sym, ap, ◌∙◌, None, Some, Option, MatchOption, Bor, arith, ne_eqb, eqb-true}
use Rattle.std.specs.Int.Bits.{bit_or}
use native.Mathlib.Nat.{one-mul, mod-eq_of_lt}
use lib.Pow.{pow-lt}
use Rattle.ground.specs.Choice.{both, pick, between}
use Rattle.ground.specs.Lists.{same}
use Rattle.ground.proofs.Table.{at}
use Rattle.ground.proofs.Bools.{both_false, tested}
use Rattle.text.specs.Letters.{letters}
use Rattle.cli_words.specs.Parts.{up_to, split_at}
use Rattle.cli_words.specs.Forms.{type_texts, further, place_in, bit_of, with_types}
use Rattle.cli_words.proofs.Cuts.{split_more, split_last}

-- a byte from low to high counts from `first` on
unfoldable pub counted : ℕ → ℕ → ℕ → ℕ → Option ℕ
counted low high first c = pick (between low high c) (Some (first + (c - low))) None

alike : Option ℕ → Option ℕ → Bool
alike None None = true
alike None (Some n) = false
alike (Some m) None = false
alike (Some m) (Some n) = eqb m n

alike_is : (a b : Option ℕ) → alike a b ≡ true → a ≡ b
unfolding alike
alike_is None None e = refl
alike_is None (Some n) e = cc
alike_is (Some m) None e = cc
alike_is (Some m) (Some n) e = ap Some (eqb-true m n e)

one_test : ℕ → ℕ → Bool
one_test c x = alike (bit_of (c ∷ [])) (counted 0x31 0x39 0 c)

two_test : ℕ → ℕ → Bool
two_test c x = alike (bit_of (0x31 ∷ c ∷ [])) (counted 0x30 0x36 9 c)

pub one_is : (c : ℕ) → c < 256 → bit_of (c ∷ []) ≡ counted 0x31 0x39 0 c
unfolding one_test alike counted type_texts further place_in bit_of letters same both pick between
one_is c h = alike_is (bit_of (c ∷ [])) (counted 0x31 0x39 0 c) (tested _ (at one_test (replicate 256 0) tt c h))

pub two_is : (c : ℕ) → c < 256 → bit_of (0x31 ∷ c ∷ []) ≡ counted 0x30 0x36 9 c
unfolding two_test alike counted type_texts further place_in bit_of letters same both pick between
two_is c h = alike_is (bit_of (0x31 ∷ c ∷ [])) (counted 0x30 0x36 9 c) (tested _ (at two_test (replicate 256 0) tt c h))

-- ---- a text of no type

not_one : (x y : ℕ) → (x ≡ 0x31 → ⊥) → bit_of (x ∷ y ∷ []) ≡ None
unfolding type_texts further place_in bit_of letters same both pick
not_one x y f = let e : eqb x 0x31 ≡ false = ne_eqb x 0x31 f in simp (e, both_false)

too_long : (x y z : ℕ) (l : List ℕ) → bit_of (x ∷ y ∷ z ∷ l) ≡ None
unfolding type_texts further place_in bit_of letters same pick
too_long x y z l = simp both_false

pub no_text : (p : List ℕ) → length p < 1 → bit_of p ≡ None
unfolding type_texts further place_in bit_of letters same pick
no_text [] h = refl
no_text (x ∷ p) h = absurd (omega arith)

pub other_first : (p : List ℕ) → length p ≡ 2 → (get_or p 0 0 ≡ 0x31 → ⊥) → bit_of p ≡ None
other_first [] e f = absurd (omega arith)
other_first (x ∷ []) e f = absurd (omega arith)
other_first (x ∷ y ∷ []) e f = not_one x y f
other_first (x ∷ y ∷ z ∷ l) e f = absurd (omega arith)

pub longer : (p : List ℕ) → 3 ≤ length p → bit_of p ≡ None
longer [] h = absurd (omega arith)
longer (x ∷ []) h = absurd (omega arith)
longer (x ∷ y ∷ []) h = absurd (omega arith)
longer (x ∷ y ∷ z ∷ l) h = too_long x y z l

-- ---- the set

one_bit : (k : ℕ) → k < 16 → 1 * 2 ^ k % 2 ^ 32 ≡ 2 ^ k
one_bit k h = ap (λ (n : ℕ). n % 2 ^ 32) (one-mul (2 ^ k)) ∙ mod-eq_of_lt (pow-lt {i = k} {j = 32} (omega arith))

-- ---- a list of types, from a place on

unfoldable pub bits_left : Option (Bor (List ℕ)) → List (Option ℕ)
bits_left None = []
bits_left (Some r) = map bit_of (split_at 0x2C r.now)

unfoldable pub to_go : Option (Bor (List ℕ)) → ℕ
to_go None = 0
to_go (Some r) = 1 + length r.now

-- what is left behind the first part
abbrev pub Behind : List ℕ → Option (Bor (List ℕ)) → Type 0
Behind rest more = MatchOption more (up_to 0x2C rest ≡ rest) (λ r. rest ≡ up_to 0x2C rest ++ (0x2C ∷ r.now))

pub bits_next : (rest : List ℕ) (more : Option (Bor (List ℕ))) → Behind rest more
    → map bit_of (split_at 0x2C rest) ≡ bit_of (up_to 0x2C rest) ∷ bits_left more
unfolding bits_left
bits_next rest None h = ap (map bit_of) (split_last 0x2C rest h)
bits_next rest (Some r) h = ap (map bit_of) (split_more 0x2C rest r.now h)

-- the first part is a type
pub takes_type : (rest p : List ℕ) (more : Option (Bor (List ℕ))) (k set : ℕ)
    → Behind rest more → p ≡ up_to 0x2C rest → Some k ≡ bit_of p → k < 16
    → with_types (bit_or set (1 * 2 ^ k % 2 ^ 32)) (bits_left more) ≡ with_types set (map bit_of (split_at 0x2C rest))
unfolding with_types
takes_type rest p more k set h e b s =
    ap (λ (j : ℕ). with_types (bit_or set j) (bits_left more)) (one_bit k s)
    ∙ ap (λ (x : Option ℕ). with_types set (x ∷ bits_left more)) (b ∙ ap bit_of e)
    ∙ sym (ap (with_types set) (bits_next rest more h))

-- it is none
pub stops : (rest p : List ℕ) (more : Option (Bor (List ℕ))) (set : ℕ)
    → Behind rest more → p ≡ up_to 0x2C rest → None ≡ bit_of p → None ≡ with_types set (map bit_of (split_at 0x2C rest))
unfolding with_types
stops rest p more set h e b =
    ap (λ (x : Option ℕ). with_types set (x ∷ bits_left more)) (b ∙ ap bit_of e) ∙ sym (ap (with_types set) (bits_next rest more h))

-- what is left gets shorter
pub shorter : (rest : List ℕ) (more : Option (Bor (List ℕ))) → Behind rest more → to_go more < 1 + length rest
unfolding to_go
shorter rest None h = omega arith
shorter rest (Some r) h = omega (arith, ap length h, length-append (up_to 0x2C rest) (0x2C ∷ r.now))
