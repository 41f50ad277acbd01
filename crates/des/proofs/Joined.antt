-- The cipher by the boxes joined with P is FIPS 46-3's: P keeps exclusive or, so it may be done on each box's four bits before they are
-- joined; and a chain of blocks may leave out each inverse permutation with the initial one after it, which undo each other.
-- Assumes nothing.
use mathlib.Core.Path.{◌≡◌, refl, sym, ap, ap₂, ◌∙◌, subst⁻¹, fun_ext}
use mathlib.Core.List.{List, [], ◌∷◌, ◌++◌}
use Prim.Native.Nat.{ℕ, zero, suc, ◌+◌, ◌-◌, ◌*◌, ◌/◌, ◌%◌, ◌^◌, ◌<◌}
use native.Mathlib.Nat.{le_of_suc-le-suc, not-suc-le-zero, mul-le-mul_right, pow-suc}
use native.Mathlib.Omega.{arith}
use lib.Bits.{bit_xor, xor_shifted}
use lib.ListN.{length, get_or, get_or-append}
use lib.Pow.{pow_pos, pow-add}
use lib.Seq.{get_or-append-add}
use Rattle.des.specs.Tables.{initial, final, expansion, spread, boxes}
use Rattle.des.specs.Des.{permute, box, substitute_from, mixed, feistel, cipher_by, cipher}
use Rattle.des.specs.Joined.{joined_entry, joined_box, joined_from, joined, entries_from, joined_mixed, joined_rounds, joined_by, between_by}
use Rattle.des.proofs.Linear.{lin_permute, lin_zero}
use Rattle.des.proofs.Boxes.{box-lt}
use Rattle.des.proofs.Inverse.{initial-final, feistel-lt}

-- ---- an entry of the table

module _ (s : List ℕ) where
  box-length : (i v n : ℕ) → length (joined_box s i v n) ≡ n
  unfolding joined_box
  box-length i v zero = refl
  box-length i v (suc n) = ap suc (box-length i (suc v) n)

  box_at : (i v n k : ℕ) → k < n → get_or (joined_box s i v n) k 0 ≡ joined_entry s i (v + k)
  unfolding joined_box
  box_at i v zero k h = absurd (not-suc-le-zero h)
  box_at i v (suc n) zero h = ap (joined_entry s i) (omega arith)
  box_at i v (suc n) (suc k) h = box_at i (suc v) n k (le_of_suc-le-suc h) ∙ ap (joined_entry s i) (omega arith)

  from_at : (n i j v : ℕ) → j < n → v < 64 → get_or (joined_from s i n) (64 * j + v) 0 ≡ joined_entry s (i + j) v
  unfolding joined_from
  from_at zero i j v h hv = absurd (not-suc-le-zero h)
  from_at (suc n) i zero v h hv =
      ap (λ (k : ℕ). get_or (joined_box s i 0 64 ++ joined_from s (suc i) n) k 0) (first v)
      ∙ get_or-append (joined_box s i 0 64) (joined_from s (suc i) n) 0 v (subst⁻¹ (λ (m : ℕ). v < m) (box-length i 0 64) hv)
      ∙ box_at i 0 64 v hv
      ∙ ap₂ (joined_entry s) (same_box i) (zero_plus v)
    where
      first : (v : ℕ) → 64 * 0 + v ≡ v
      first v = omega arith

      same_box : (i : ℕ) → i ≡ i + 0
      same_box i = omega arith

      zero_plus : (v : ℕ) → 0 + v ≡ v
      zero_plus v = omega arith
  from_at (suc n) i (suc j) v h hv =
      ap (λ (k : ℕ). get_or (joined_box s i 0 64 ++ joined_from s (suc i) n) k 0)
      (further j v ∙ ap (λ (m : ℕ). m + (64 * j + v)) (sym (box-length i 0 64)))
      ∙ get_or-append-add (joined_box s i 0 64) (joined_from s (suc i) n) (64 * j + v) 0
      ∙ from_at n (suc i) j v (le_of_suc-le-suc h) hv
      ∙ ap (λ (m : ℕ). joined_entry s m v) (next i j)
    where
      further : (j v : ℕ) → 64 * suc j + v ≡ 64 + (64 * j + v)
      further j v = omega arith

      next : (i j : ℕ) → suc i + j ≡ i + suc j
      next i j = omega arith

joined_at : (i v : ℕ) → i < 8 → v < 64 → get_or joined (64 * i + v) 0 ≡ joined_entry boxes i v
unfolding joined
joined_at i v hi hv = from_at boxes 8 0 i v hi hv ∙ ap (λ (m : ℕ). joined_entry boxes m v) (zero_plus i)
  where
    zero_plus : (i : ℕ) → 0 + i ≡ i
    zero_plus i = omega arith

-- ---- P box by box

sixteens : (n : ℕ) → 2 ^ (4 * suc n) ≡ 2 ^ (4 * n) * 16
sixteens n = ap (λ (m : ℕ). 2 ^ m) (omega arith) ∙ pow-add 2 (4 * n) 4

pow16 : (n : ℕ) → 16 ^ n ≡ 2 ^ (4 * n)
pow16 zero = refl
pow16 (suc n) = pow-suc 16 n ∙ ap (λ (m : ℕ). m * 16) (pow16 n) ∙ sym (sixteens n)

spread_step : (acc e n : ℕ) → e < 16
    → permute spread 32 ((16 * acc + e) * 2 ^ (4 * n)) ≡ bit_xor (permute spread 32 (acc * 2 ^ (4 * suc n))) (permute spread 32 (e * 2 ^ (4 * n)))
spread_step acc e n h =
    let p : 2 ^ (4 * suc n) ≡ 2 ^ (4 * n) * 16 = sixteens n in
    let l : e * 2 ^ (4 * n) < 2 ^ (4 * suc n) = omega (arith, mul-le-mul_right (2 ^ (4 * n)) (le_of_suc-le-suc h), pow_pos (4 * n)) in
    let q : (16 * acc + e) * 2 ^ (4 * n) ≡ acc * 2 ^ (4 * suc n) + e * 2 ^ (4 * n) = rw p (omega arith) in
    ap (permute spread 32) (q ∙ sym (xor_shifted acc (4 * suc n) (e * 2 ^ (4 * n)) l))
    ∙ lin_permute spread 32 (acc * 2 ^ (4 * suc n)) (e * 2 ^ (4 * n))

-- P of the boxes from i on is the entries from i on
spread_from : (b acc i n : ℕ) → i + n ≡ 8
    → permute spread 32 (substitute_from boxes b acc i n) ≡ entries_from joined b (permute spread 32 (acc * 2 ^ (4 * n))) i n
unfolding substitute_from entries_from joined_entry
spread_from b acc i zero h = ap (permute spread 32) (omega arith)
spread_from b acc i (suc n) h =
    let v : ℕ = b / 2 ^ (42 - 6 * i) % 64 in
    let m : n ≡ 7 - i = omega arith in
    let e : permute spread 32 (box boxes i v * 2 ^ (4 * n)) ≡ get_or joined (64 * i + v) 0 =
    ap (λ (k : ℕ). permute spread 32 (box boxes i v * k)) (sym (pow16 n) ∙ ap (λ (k : ℕ). 16 ^ k) m)
    ∙ sym (joined_at i v (omega arith) (omega arith)) in
    spread_from b (16 * acc + box boxes i v) (suc i) n (omega arith)
    ∙ ap (λ (a : ℕ). entries_from joined b a (suc i) n)
    (spread_step acc (box boxes i v) n (box-lt i v (omega arith) (omega arith))
    ∙ ap (bit_xor (permute spread 32 (acc * 2 ^ (4 * suc n)))) e)

-- ---- the cipher

pub joined_mixed_lem : (r k : ℕ) → joined_mixed joined r k ≡ mixed boxes r k
unfolding joined_mixed mixed
joined_mixed_lem r k =
    sym (spread_from (bit_xor (permute expansion 32 r) k) 0 0 8 refl
    ∙ ap (λ (a : ℕ). entries_from joined (bit_xor (permute expansion 32 r) k) a 0 8) (lin_zero (permute spread 32) (lin_permute spread 32)))

joined_rounds_lem : (ks : List ℕ) (l r : ℕ) → joined_rounds joined ks l r ≡ feistel boxes ks l r
unfolding joined_rounds feistel
joined_rounds_lem [] l r = refl
joined_rounds_lem (k ∷ ks) l r =
    ap (λ (f : ℕ). joined_rounds joined ks r (bit_xor l f)) (joined_mixed_lem r k) ∙ joined_rounds_lem ks r (bit_xor l (mixed boxes r k))

-- for any keys and any number: no bound is needed, since both sides look at the same digits
pub joined_by_lem : (ks : List ℕ) (x : ℕ) → joined_by joined ks x ≡ cipher ks x
unfolding joined_by cipher_by
joined_by_lem ks x = ap (permute final 64) (joined_rounds_lem ks (permute initial 64 x / 2 ^ 32) (permute initial 64 x % 2 ^ 32))

-- and so the two ciphers are one
pub joined-cipher : (ks : List ℕ) → joined_by joined ks ≡ cipher ks
joined-cipher ks = fun_ext (joined_by_lem ks)

-- ---- a chain that keeps the halves

pub between_by_lem : (t ks : List ℕ) (x : ℕ) → permute final 64 (between_by t ks (permute initial 64 x)) ≡ joined_by t ks x
unfolding between_by joined_by
between_by_lem t ks x = refl

pub between_lt : (ks : List ℕ) (y : ℕ) → y < 2 ^ 64 → between_by joined ks y < 2 ^ 64
unfolding between_by
between_lt ks y h =
    subst⁻¹ (λ (x : ℕ). x < 2 ^ 64) (joined_rounds_lem ks (y / 2 ^ 32) (y % 2 ^ 32))
    (feistel-lt boxes ks (y / 2 ^ 32) (y % 2 ^ 32) (omega arith) (omega arith))

-- the halves of the next block are those before it with the initial permutation of what is added
pub chained : (y m : ℕ) → y < 2 ^ 64 → permute initial 64 (bit_xor (permute final 64 y) m) ≡ bit_xor y (permute initial 64 m)
chained y m h =
    lin_permute initial 64 (permute final 64 y) m ∙ ap (λ (x : ℕ). bit_xor x (permute initial 64 m)) (initial-final y h)

-- so a digest that keeps the halves y steps as one that keeps the block
pub chained_by : (t ks : List ℕ) (y m : ℕ) → y < 2 ^ 64
    → joined_by t ks (bit_xor (permute final 64 y) m) ≡ permute final 64 (between_by t ks (bit_xor y (permute initial 64 m)))
chained_by t ks y m h =
    sym (between_by_lem t ks (bit_xor (permute final 64 y) m)) ∙ ap (λ (x : ℕ). permute final 64 (between_by t ks x)) (chained y m h)
