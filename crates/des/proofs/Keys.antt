-- The round keys' quick parts are what FIPS 46-3 says, by tests at the powers of two: the shifts and masks PC-1 and PC-2, and both halves
-- turned at once the two rotated each for itself.
-- Assumes nothing.
use mathlib.Core.Path.{◌≡◌, refl, sym, ap, ap₂, ◌∙◌}
use mathlib.Core.Bool.{true}
use mathlib.Core.List.{List, [], ◌∷◌, ◌++◌, map, append_assoc, append-nil}
use Prim.Native.Nat.{ℕ, zero, suc, ◌+◌, ◌-◌, ◌*◌, ◌/◌, ◌%◌, ◌^◌, ◌<◌, ◌≤◌}
use native.Mathlib.Numerals.{add-one}
use native.Mathlib.Omega.{arith}
use lib.Bits.{bit_xor, bit_and, xor_shifted}
use lib.Dec.{lit<}
use lib.ListN.{length, get_or, take, drop, set, drop_of_length-le}
use lib.Seq.{drop-cons, take-suc-set, take_all}
use lib.Pow.{high, low, split}
use Rattle.ground.specs.Choice.{both}
use Rattle.des.specs.Tables.{initial, choice1, choice2, shifts}
use Rattle.des.specs.Des.{select, permute, named, rotated, keys_from, schedule_of}
use Rattle.des.specs.Quick.{Term, terms, raised, ups1, downs1, choice1_net, ups2, downs2, choice2_net, turned, turned_from, turn_net}
use Rattle.des.proofs.Linear.{Linear, lin_id, lin_shr, lin_shl, lin_mod, lin_and, lin_xor, lin_after, lin_permute, agree}
use Rattle.des.proofs.Laws.{named_at, named_tail, permute-lt, rotated-lt}

-- ---- the permuted choices

lin_terms : (f g : ℕ → ℕ) → Linear f → Linear g → (ts : List Term) → Linear (λ x. terms (f x) (g x) ts)
lin_terms f g lf lg [] = lg
lin_terms f g lf lg (t ∷ ts) =
    lin_terms f (λ x. bit_xor (g x) (bit_and (f x / 2 ^ t.by) t.mask)) lf
    (lin_xor g lg (λ x. bit_and (f x / 2 ^ t.by) t.mask) (lin_and (λ x. f x / 2 ^ t.by) (lin_shr f lf t.by) t.mask)) ts

lin_raised : (f g : ℕ → ℕ) → Linear f → Linear g → (ts : List Term) → Linear (λ x. raised (f x) (g x) ts)
lin_raised f g lf lg [] = lg
lin_raised f g lf lg (t ∷ ts) =
    lin_raised f (λ x. bit_xor (g x) (bit_and (f x * 2 ^ t.by % 2 ^ 64) t.mask)) lf
    (lin_xor g lg (λ x. bit_and (f x * 2 ^ t.by % 2 ^ 64) t.mask)
    (lin_and (λ x. f x * 2 ^ t.by % 2 ^ 64) (lin_mod (λ x. f x * 2 ^ t.by) (lin_shl f lf t.by) 64) t.mask)) ts

lin_choice1 : Linear choice1_net
lin_choice1 =
    lin_terms (λ y. y) (λ y. raised y (bit_and (y * 2 ^ 24 % 2 ^ 64) 0x00ff000000000000) ups1) lin_id
    (lin_raised (λ y. y) (λ y. bit_and (y * 2 ^ 24 % 2 ^ 64) 0x00ff000000000000) lin_id
    (lin_and (λ y. y * 2 ^ 24 % 2 ^ 64) (lin_mod (λ y. y * 2 ^ 24) (lin_shl (λ y. y) lin_id 24) 64) 0x00ff000000000000) ups1) downs1

lin_choice2 : Linear choice2_net
lin_choice2 =
    lin_terms (λ x. x) (λ x. raised x (bit_and x 0x200000010000) ups2) lin_id
    (lin_raised (λ x. x) (λ x. bit_and x 0x200000010000) lin_id (lin_and (λ x. x) lin_id 0x200000010000) ups2) downs2

pub choice1_net_lem : (x : ℕ) → x < 2 ^ 64 → choice1_net (permute initial 64 x) ≡ permute choice1 64 x
unfolding select both
choice1_net_lem x h =
    agree (λ x. choice1_net (permute initial 64 x)) (permute choice1 64)
    (lin_after (permute initial 64) (lin_permute initial 64) choice1_net lin_choice1) (lin_permute choice1 64) 64 tt x h

-- PC-2 looks at the 56 low bits alone
pub choice2_net_lem : (x : ℕ) → x < 2 ^ 64 → choice2_net x ≡ permute choice2 56 x
unfolding select both
choice2_net_lem x h = agree choice2_net (permute choice2 56) lin_choice2 (lin_permute choice2 56) 64 tt x h

-- ---- both halves turned

-- a half rotated by s, its digits joined in place of added
abbrev joined_half : ℕ → ℕ → ℕ
joined_half s c = bit_xor (c * 2 ^ s % 2 ^ 28) (c / 2 ^ (28 - s))

abbrev joined_halves : ℕ → ℕ → ℕ
joined_halves s x = bit_xor (joined_half s (x / 2 ^ 28) * 2 ^ 28) (joined_half s (x % 2 ^ 28))

lin_half : (s : ℕ) (f : ℕ → ℕ) → Linear f → Linear (λ x. joined_half s (f x))
lin_half s f lf =
    lin_xor (λ x. f x * 2 ^ s % 2 ^ 28) (lin_mod (λ x. f x * 2 ^ s) (lin_shl f lf s) 28)
    (λ x. f x / 2 ^ (28 - s)) (lin_shr f lf (28 - s))

lin_halves : (s : ℕ) → Linear (joined_halves s)
lin_halves s =
    lin_xor (λ x. joined_half s (x / 2 ^ 28) * 2 ^ 28)
    (lin_shl (λ x. joined_half s (x / 2 ^ 28)) (lin_half s (λ x. x / 2 ^ 28) (lin_shr (λ x. x) lin_id 28)) 28)
    (λ x. joined_half s (x % 2 ^ 28)) (lin_half s (λ x. x % 2 ^ 28) (lin_mod (λ x. x) lin_id 28))

lin_turn : (s m d n : ℕ) → Linear (turn_net s m d n)
lin_turn s m d n =
    lin_xor (λ x. bit_and (x * 2 ^ s % 2 ^ 64) m)
    (lin_and (λ x. x * 2 ^ s % 2 ^ 64) (lin_mod (λ x. x * 2 ^ s) (lin_shl (λ x. x) lin_id s) 64) m)
    (λ x. bit_and (x / 2 ^ d) n) (lin_and (λ x. x / 2 ^ d) (lin_shr (λ x. x) lin_id d) n)

half1 : (c : ℕ) → c < 2 ^ 28 → joined_half 1 c ≡ rotated 1 c
unfolding rotated
half1 c h =
    let e : c * 2 ^ 1 % 2 ^ 28 ≡ c % 2 ^ 27 * 2 ^ 1 = omega arith in
    rw e (xor_shifted (c % 2 ^ 27) 1 (c / 2 ^ 27) (omega arith))

half2 : (c : ℕ) → c < 2 ^ 28 → joined_half 2 c ≡ rotated 2 c
unfolding rotated
half2 c h =
    let e : c * 2 ^ 2 % 2 ^ 28 ≡ c % 2 ^ 26 * 2 ^ 2 = omega arith in
    rw e (xor_shifted (c % 2 ^ 26) 2 (c / 2 ^ 26) (omega arith))

-- what a rotation by s asks for: that the two halves' digits keep apart
module _ (s : ℕ) (g : 0 < s) (g2 : s ≤ 2) (half : (c : ℕ) → c < 2 ^ 28 → joined_half s c ≡ rotated s c) (x : ℕ) (h : x < 2 ^ 56) where
  halves : joined_halves s x ≡ turned s x
  unfolding turned
  halves =
      ap₂ (λ (a b : ℕ). bit_xor (a * 2 ^ 28) b) (half (x / 2 ^ 28) (omega arith)) (half (x % 2 ^ 28) (omega arith))
      ∙ xor_shifted (rotated s (x / 2 ^ 28)) 28 (rotated s (x % 2 ^ 28)) (rotated-lt s (x % 2 ^ 28) g g2 (omega arith))

  halves_lt : turned s x < 2 ^ 56
  unfolding turned
  halves_lt =
      omega (arith, rotated-lt s (x / 2 ^ 28) g g2 (omega arith), rotated-lt s (x % 2 ^ 28) g g2 (omega arith))

-- the bits that come round in a turn by one or two
abbrev round : ℕ → ℕ
round s = 0x10000001 * (2 * s - 1)

turned_net : (s x : ℕ) → 0 < s → s < 3 → x < 2 ^ 56
    → (turn_net s (bit_xor 0xffffffffffffff (round s)) (28 - s) (round s) x ≡ turned s x) × (turned s x < 2 ^ 56)
unfolding both
turned_net zero x p q h = absurd (omega arith)
turned_net (suc zero) x p q h = (
  agree (turn_net 1 0xffffffeffffffe 27 0x10000001) (joined_halves 1) (lin_turn 1 0xffffffeffffffe 27 0x10000001) (lin_halves 1) 56 tt x h
      ∙ halves 1 (lit< tt) (omega arith) half1 x h,
  halves_lt 1 (lit< tt) (omega arith) half1 x h,
)
turned_net (suc (suc zero)) x p q h = (
  agree (turn_net 2 0xffffffcffffffc 26 0x30000003) (joined_halves 2) (lin_turn 2 0xffffffcffffffc 26 0x30000003) (lin_halves 2) 56 tt x h
      ∙ halves 2 (lit< tt) (omega arith) half2 x h,
  halves_lt 2 (lit< tt) (omega arith) half2 x h,
)
turned_net (suc (suc (suc s))) x p q h = absurd (omega arith)

pub turned_by : (s x : ℕ) → 0 < s → s < 3 → x < 2 ^ 56
    → bit_xor (bit_and (x * 2 ^ s % 2 ^ 64) (bit_xor 0xffffffffffffff (0x10000001 * (2 * s - 1)))) (bit_and (x / 2 ^ (28 - s)) (0x10000001 * (2 * s - 1)))
    ≡ turned s x
turned_by s x p q h = (turned_net s x p q h).0

pub turned_lt : (s x : ℕ) → 0 < s → s < 3 → x < 2 ^ 56 → turned s x < 2 ^ 56
turned_lt s x p q h = (turned_net s x p q h).1

-- ---- the schedule

-- each shift is one or two
pub shift_low : (i : ℕ) → i < 16 → 0 < get_or shifts i 0
unfolding named both
shift_low i h = (named_at 2 shifts refl i h).0

pub shift_high : (i : ℕ) → i < 16 → get_or shifts i 0 < 3
unfolding named both
shift_high i h = omega (arith, (named_at 2 shifts refl i h).1)

-- the halves before one round key more, and all
pub turns_next : (i x y : ℕ) (hs : List ℕ) → y ≡ turned (get_or shifts i 0) x → i < 16 → length hs ≡ 16
    → take (i + 1) (set hs i y) ++ turned_from (drop (i + 1) shifts) y ≡ take i hs ++ turned_from (drop i shifts) x
unfolding turned_from
turns_next i x y hs e h l =
    rw (e, add-one i, drop-cons shifts i 0 h, take-suc-set hs i _ (omega arith), append_assoc)

pub turns_done : (i x : ℕ) (hs : List ℕ) → 16 ≤ i → length hs ≡ 16 → take i hs ++ turned_from (drop i shifts) x ≡ hs
unfolding turned_from
turns_done i x hs h l = rw (drop_of_length-le shifts {i = i} h, take_all i hs (omega arith), append-nil)

keys_turned : (ss : List ℕ) → named 2 ss ≡ true → (c d : ℕ) → c < 2 ^ 28 → d < 2 ^ 28
    → keys_from ss c d ≡ map (permute choice2 56) (turned_from ss (c * 2 ^ 28 + d))
unfolding keys_from turned_from turned
keys_turned [] t c d hc hd = refl
keys_turned (s ∷ ss) t c d hc hd =
    let g = named_at 2 (s ∷ ss) t 0 (omega arith) in
    rw (high c 28 hd, low c 28 hd)
    (ap (λ (l : List ℕ). permute choice2 56 (rotated s c * 2 ^ 28 + rotated s d) ∷ l)
    (keys_turned ss (named_tail 2 s ss t) (rotated s c) (rotated s d) (rotated-lt s c g.0 g.1 hc) (rotated-lt s d g.0 g.1 hd)))

pub schedule_turned : (key : ℕ) → map (permute choice2 56) (turned_from shifts (permute choice1 64 key)) ≡ schedule_of key
unfolding schedule_of named both
schedule_turned key =
    let p : ℕ = permute choice1 64 key in
    let b : p < 2 ^ 56 = permute-lt choice1 64 key in
    ap (λ (x : ℕ). map (permute choice2 56) (turned_from shifts x)) (sym (split p 28))
    ∙ sym (keys_turned shifts refl (p / 2 ^ 28) (p % 2 ^ 28) (omega arith) (omega arith))

pub turned-length : (ss : List ℕ) (x : ℕ) → length (turned_from ss x) ≡ length ss
unfolding turned_from
turned-length [] x = refl
turned-length (s ∷ ss) x = ap suc (turned-length ss (turned s x))

pub choice1_lt : (key : ℕ) → permute choice1 64 key < 2 ^ 56
choice1_lt key = permute-lt choice1 64 key
