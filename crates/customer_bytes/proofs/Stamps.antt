-- The stamps of a customer's record are sound just when four runs of its numbers pass their tests: the first n stamps and keys, and the
-- room after each.
-- Assumes nothing.
use Rattle.std.specs.Prelude.{◌&&◌}
use Rattle.std.specs.List.{list_all, range_with_len}
use mathlib.Core.Path.{◌≡◌, refl, sym, ap, ap₂, ◌∙◌}
use mathlib.Core.Bool.{Bool, true, false}
use mathlib.Core.List.{List, ◌∷◌, map}
use Prim.Native.Nat.{ℕ, zero, suc, ◌+◌, ◌*◌, ◌-◌, ◌≤◌, ◌<◌}
use native.Mathlib.Omega.{arith}
use lib.ListN.{take, drop}
use lib.Seq.{take-take, drop-drop}
use lib.Dec.{eqb}
use Rattle.ground.specs.Choice.{both}
use Rattle.ground.specs.Lists.{part}
use Rattle.ground.proofs.Choices.{fails_left, decides}
use Rattle.ground.proofs.Numbers.{one_and}
use Rattle.ground.proofs.Std.{both_is}
use Rattle.ground.proofs.Bools.{both_assoc}
use Rattle.ground.proofs.Parts.{drop-take}
use Rattle.splices.specs.Bytes.{num, chunks, nums}
use Rattle.codec.specs.Layout.{numbers, repeated, every, dec}
use Rattle.customer.specs.Customer.{sound_stamps}
use Rattle.customer_bytes.proofs.Zeros.{zeros, zeros_run}
use Rattle.customer_bytes.specs.Tests.{word_at, real_at, once_at, zero_at}

-- ---- the loops over runs

every-suc : (f : ℕ → Bool) (n m p q : ℕ) → n ≡ suc m → q ≡ p + 8 → every f 8 n p ≡ both (f p) (every f 8 m q)
unfolding every
every-suc f n m p q e g = rw (e, g)

-- `all` over the numbers of the places
all_every : (f : ℕ → Bool) (at a n : ℕ) → list_all (λ i. f (at + 8 * i)) (range_with_len a n) ≡ every f 8 n (at + 8 * a)
unfolding every
all_every f at a zero = refl
all_every f at a (suc n) =
    let e : at + 8 * (a + 1) ≡ at + 8 * a + 8 = omega arith in
    ap (λ (b : Bool). f (at + 8 * a) && b) (all_every f at (a + 1) n)
    ∙ sym (every-suc f (suc n) n (at + 8 * a) (at + 8 * (a + 1)) refl e ∙ both_is (f (at + 8 * a)) _)

pub all_of_run : (f : ℕ → Bool) (at n : ℕ) → list_all (λ i. f (at + 8 * i)) (range_with_len 0 n) ≡ every f 8 n at
all_of_run f at n = let e : at + 8 * 0 ≡ at = omega arith in all_every f at 0 n ∙ ap (every f 8 n) e

-- the numbers from place i on decide
abbrev pub Decide : (ℕ → Bool) → (n at i : ℕ) → Type 0
Decide f n at i = every f 8 n at ≡ every f 8 (n - i) (at + 8 * i)

module _ (f : ℕ → Bool) (n at : ℕ) where
  pub run_begin : Decide f n at 0
  run_begin = let e : at + 8 * 0 ≡ at = omega arith in let g : n - 0 ≡ n = omega arith in rw (e, g) refl

  pub run_end : (i : ℕ) → n ≤ i → Decide f n at i → true ≡ every f 8 n at
  unfolding every
  run_end i h v = let e : n - i ≡ 0 = omega arith in sym (v ∙ ap (λ (k : ℕ). every f 8 k (at + 8 * i)) e)

  module _ (i : ℕ) (h : i < n) (v : Decide f n at i) where
    turn : every f 8 n at ≡ both (f (at + 8 * i)) (every f 8 (n - (i + 1)) (at + 8 * (i + 1)))
    turn = v ∙ every-suc f (n - i) (n - (i + 1)) (at + 8 * i) (at + 8 * (i + 1)) (omega arith) (omega arith)

    pub run_stop : f (at + 8 * i) ≡ false → false ≡ every f 8 n at
    run_stop t = sym (turn ∙ fails_left (f (at + 8 * i)) _ t)

    pub run_more : f (at + 8 * i) ≡ true → Decide f n at (i + 1)
    run_more t = turn ∙ decides (f (at + 8 * i)) _ t

-- ---- the numbers by their places

numbers-run : (n o : ℕ) (l : List ℕ) → dec (numbers n 8) o l ≡ repeated (word_at l) 8 n o
unfolding dec nums chunks repeated part
numbers-run zero o l = refl
numbers-run (suc n) o l =
    let rest = drop-take 8 (8 * n) (8 * suc n) (drop o l) (one_and 8 n) ∙ ap (take (8 * n)) (drop-drop 8 o l) in
    ap₂ ◌∷◌ (ap num (take-take 8 (8 * suc n) (drop o l) (omega arith)))
    (ap (λ (x : List ℕ). map num (chunks 8 n x)) rest ∙ numbers-run n (o + 8) l)

crossed : (a b c d : Bool) → both (both a b) (both c d) ≡ both (both a c) (both b d)
unfolding both
crossed true true c d = refl
crossed true false true d = refl
crossed true false false d = refl
crossed false b c d = refl

module _ (l : List ℕ) where
  abbrev run : (n o : ℕ) → List ℕ
  run n o = repeated (word_at l) 8 n o

  room_tests : (n o q : ℕ) → sound_stamps 0 (run n o) (run n q) ≡ both (every (zero_at l) 8 n o) (every (zero_at l) 8 n q)
  unfolding sound_stamps repeated every both
  room_tests zero o q = refl
  room_tests (suc n) o q =
      ap (both (both (zero_at l o) (zero_at l q))) (room_tests n (o + 8) (q + 8)) ∙ crossed (zero_at l o) (zero_at l q) _ _

  used_tests : (n m k o q o' q' : ℕ) → m ≡ n + k → o' ≡ o + 8 * n → q' ≡ q + 8 * n → sound_stamps n (run m o) (run m q)
      ≡ both (both (every (real_at l) 8 n o) (every (once_at l) 8 n q)) (sound_stamps 0 (run k o') (run k q'))
  unfolding sound_stamps repeated every both
  used_tests zero m k o q o' q' e f g =
      let e₁ : m ≡ k = omega arith in
      let f₁ : o' ≡ o = omega arith in
      let g₁ : q' ≡ q = omega arith in rw (e₁, f₁, g₁)
  used_tests (suc n) zero k o q o' q' e f g = absurd (omega arith)
  used_tests (suc n) (suc m) k o q o' q' e f g =
      let a = real_at l o in
      let b = once_at l q in
      let z = sound_stamps 0 (run k o') (run k q') in
      ap (both (both a b)) (used_tests n m k (o + 8) (q + 8) o' q' (omega arith) (omega arith) (omega arith))
      ∙ sym (both_assoc (both a b) _ z)
      ∙ ap (λ (x : Bool). both x z) (crossed a b _ _)

  pub stamps_tests : (n o q : ℕ) → n ≤ 64 → sound_stamps n (dec (numbers 64 8) o l) (dec (numbers 64 8) q l)
      ≡ both (every (real_at l) 8 n o)
      (both (every (once_at l) 8 n q) (both (every (zero_at l) 8 (64 - n) (o + 8 * n)) (every (zero_at l) 8 (64 - n) (q + 8 * n))))
  stamps_tests n o q h =
      ap₂ (sound_stamps n) (numbers-run 64 o l) (numbers-run 64 q l)
      ∙ used_tests n 64 (64 - n) o q (o + 8 * n) (q + 8 * n) (omega arith) refl refl
      ∙ both_assoc _ _ _
      ∙ ap (λ (x : Bool). both (every (real_at l) 8 n o) (both (every (once_at l) 8 n q) x)) (room_tests (64 - n) _ _)

  -- the room after the first n numbers
  room_run : (n o e : ℕ) → n ≤ 64 → e ≡ o + 512 → every (zero_at l) 8 (64 - n) (o + 8 * n)
      ≡ list_all (λ b. eqb b 0) (take (e - (o + 8 * n)) (drop (o + 8 * n) l))
  unfolding part
  room_run n o e h g =
      let w : 8 * (64 - n) ≡ e - (o + 8 * n) = omega arith in
      sym (zeros_run l (64 - n) (o + 8 * n)) ∙ ap (λ (k : ℕ). zeros (take k (drop (o + 8 * n) l))) w

  -- the same for the two arrays of a record, whose room is looked at byte by byte
  pub stamps_run : (n o : ℕ) → n ≤ 64 → sound_stamps n (dec (numbers 64 8) o l) (dec (numbers 64 8) (o + 512) l)
      ≡ (every (real_at l) 8 n o
      && (every (once_at l) 8 n (o + 512)
      && (list_all (λ b. eqb b 0) (take (o + 512 - (o + 8 * n)) (drop (o + 8 * n) l))
      && list_all (λ b. eqb b 0) (take (o + 512 + 512 - (o + 512 + 8 * n)) (drop (o + 512 + 8 * n) l)))))
  stamps_run n o h =
      stamps_tests n o (o + 512) h
      ∙ rw (room_run n o (o + 512) h refl, room_run n (o + 512) (o + 512 + 512) h refl) (simp both_is)
