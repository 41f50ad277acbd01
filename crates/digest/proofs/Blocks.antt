-- Bytes block by block: as many as a block lacks fill it, fewer join it, and a chain that is kept without its last permutation goes on
-- without the next one's first.
-- Assumes nothing.
use Rattle.std.proofs.Common.{◌≡◌, ℕ, suc, ◌+◌, ◌-◌, ◌%◌, ◌^◌, ◌<◌, ◌≤◌, List, [], ◌∷◌, map, length, get_or, take, drop, sym, refl, ap, ◌∙◌, ap₂, add-one, arith, take-append-drop, drop_of_length-le, length-take-le, drop-cons}
use mathlib.Core.List.{map-append}
use lib.Bits.{bit_xor}
use lib.ListN.{length-map}
use Rattle.text.specs.Characters.{internal}
use Rattle.des.specs.Tables.{initial, final}
use Rattle.des.specs.Des.{permute}
use Rattle.des.specs.Joined.{between_by, joined_by}
use Rattle.des.proofs.Joined.{between_by_lem, chained_by}
use Rattle.digest.specs.Running.{pushed, pushed_all, fed_byte, fed_bytes}
use Rattle.digest.specs.declared.State.{State}
use Rattle.digest.proofs.Folds.{fed_eighth, fed_other, fed_append}

-- ---- the block on its way

module _ (block : ℕ) (l : List ℕ) (i : ℕ) where
  -- the character at i is taken
  pub packed_next : i < length l
      → pushed_all (pushed block (internal (get_or l i 0))) (map internal (drop (i + 1) l)) ≡ pushed_all block (map internal (drop i l))
  unfolding pushed_all
  packed_next h = rw (add-one i, drop-cons l i 0 h)

  pub packed_done : length l ≤ i → pushed_all block (map internal (drop i l)) ≡ block
  unfolding pushed_all
  packed_done h = rw (drop_of_length-le l {i = i} h)

-- ---- a block filled, or not

counts : (n m k : ℕ) → m ≡ (n + 1) % 2 ^ 64 → (n + suc k) % 2 ^ 64 ≡ (m + k) % 2 ^ 64
counts n m k e = omega arith

module _ (e : ℕ → ℕ) where
  -- a byte that is not the eighth
  joins : (s : State) (b : ℕ) → s.n % 8 < 7 → record { chain = s.chain; block = pushed s.block b; n = (s.n + 1) % 2 ^ 64 } ≡ fed_byte e s b
  joins s b h = fed_other e s b (λ z. omega arith) refl refl

  fed_short : (s : State) (l : List ℕ) → s.n < 2 ^ 64 → s.n % 8 + length l < 8
      → record { chain = s.chain; block = pushed_all s.block l; n = (s.n + length l) % 2 ^ 64 } ≡ fed_bytes e s l
  unfolding fed_bytes pushed_all
  fed_short s [] f h = ap (λ (n : ℕ). record { chain = s.chain; block = s.block; n = n }) (omega arith)
  fed_short s (b ∷ l) f h =
      let m : ℕ = (s.n + 1) % 2 ^ 64 in
      ap (λ (n : ℕ). record { chain = s.chain; block = pushed_all (pushed s.block b) l; n = n }) (counts s.n m (length l) refl)
      ∙ fed_short (record { chain = s.chain; block = pushed s.block b; n = m }) l (omega arith) (omega arith)
      ∙ ap (λ (t : State). fed_bytes e t l) (joins s b (omega arith))

  fed_fills : (s : State) (l : List ℕ) → s.n % 8 + length l ≡ 8
      → record { chain = e (bit_xor s.chain (pushed_all s.block l)); block = 0; n = (s.n + length l) % 2 ^ 64 } ≡ fed_bytes e s l
  unfolding fed_bytes pushed_all
  fed_fills s [] h = absurd (omega arith)
  fed_fills s (b ∷ []) h = fed_eighth e s b (omega arith) refl refl refl
  fed_fills s (b ∷ c ∷ l) h =
      let m : ℕ = (s.n + 1) % 2 ^ 64 in
      ap (λ (n : ℕ). record { chain = e (bit_xor s.chain (pushed_all (pushed (pushed s.block b) c) l)); block = 0; n = n })
      (counts s.n m (suc (length l)) refl)
      ∙ fed_fills (record { chain = s.chain; block = pushed s.block b; n = m }) (c ∷ l) (omega arith)
      ∙ ap (λ (t : State). fed_bytes e t (c ∷ l)) (joins s b (omega arith))

  -- characters in two parts
  pub fed_cut : (s : State) (l : List ℕ) (i : ℕ)
      → fed_bytes e (fed_bytes e s (map internal (take i l))) (map internal (drop i l)) ≡ fed_bytes e s (map internal l)
  fed_cut s l i =
      sym (fed_append e s (map internal (take i l)) (map internal (drop i l)))
      ∙ ap (fed_bytes e s) (sym (map-append internal (take i l) (drop i l)) ∙ ap (map internal) (take-append-drop i l))

  -- characters that don't fill the block
  pub fed_few : (s : State) (l : List ℕ) {block n : ℕ} → s.n < 2 ^ 64 → length l < 8 - s.n % 8 → block ≡ pushed_all s.block (map internal l)
      → n ≡ (s.n + length l) % 2 ^ 64
      → record { chain = s.chain; block = block; n = n } ≡ fed_bytes e s (map internal l)
  fed_few s l f h p q =
      let k : length (map internal l) ≡ length l = length-map l internal in
      rw (p, q, sym k) (fed_short s (map internal l) f (omega arith))

-- ---- the chain kept as the halves y

abbrev pub halved : ℕ → ℕ → State
halved y n = record { chain = permute final 64 y; block = 0; n = n }

module _ (t ks : List ℕ) where
  -- the characters that fill the first block, and those after them
  pub fed_head : (s : State) (l head rest : List ℕ) (i : ℕ) {x : ℕ} → i ≤ length l → i ≡ 8 - s.n % 8 → head ≡ take i l → rest ≡ drop i l
      → x ≡ between_by t ks (permute initial 64 (bit_xor s.chain (pushed_all s.block (map internal head))))
      → fed_bytes (joined_by t ks) (halved x ((s.n + i) % 2 ^ 64)) (map internal rest) ≡ fed_bytes (joined_by t ks) s (map internal l)
  fed_head s l head rest i h k eh er p =
      let p8 : List ℕ = map internal (take i l) in
      let c : length p8 ≡ i = length-map (take i l) internal ∙ length-take-le i l h in
      rw er
      (ap (λ (u : State). fed_bytes (joined_by t ks) u (map internal (drop i l)))
      (ap₂ (λ (m v : ℕ). record { chain = m; block = 0; n = v })
      (ap (permute final 64) (rw eh at p) ∙ between_by_lem t ks (bit_xor s.chain (pushed_all s.block p8)))
      (ap (λ (m : ℕ). (s.n + m) % 2 ^ 64) (sym c))
      ∙ fed_fills (joined_by t ks) s p8 (omega arith))
      ∙ fed_cut (joined_by t ks) s l i)

  -- a block more
  pub fed_block : (y n : ℕ) (l block rest : List ℕ) {x : ℕ} → y < 2 ^ 64 → n % 8 ≡ 0 → 8 ≤ length l → block ≡ take 8 l → rest ≡ drop 8 l
      → x ≡ between_by t ks (bit_xor y (permute initial 64 (pushed_all 0 (map internal block))))
      → fed_bytes (joined_by t ks) (halved x ((n + 8) % 2 ^ 64)) (map internal rest) ≡ fed_bytes (joined_by t ks) (halved y n) (map internal l)
  fed_block y n l block rest f z h eb er p =
      let p8 : List ℕ = map internal (take 8 l) in
      let c : length p8 ≡ 8 = length-map (take 8 l) internal ∙ length-take-le 8 l h in
      rw er
      (ap (λ (u : State). fed_bytes (joined_by t ks) u (map internal (drop 8 l)))
      (ap₂ (λ (c v : ℕ). record { chain = c; block = 0; n = v })
      (ap (permute final 64) (rw eb at p) ∙ sym (chained_by t ks y (pushed_all 0 p8) f))
      (ap (λ (m : ℕ). (n + m) % 2 ^ 64) (sym c))
      ∙ fed_fills (joined_by t ks) (halved y n) p8 (omega arith))
      ∙ fed_cut (joined_by t ks) (halved y n) l 8)

  -- what is left fills no block
  pub fed_rest : (y n : ℕ) (l : List ℕ) {chain block m : ℕ} → n < 2 ^ 64 → n % 8 ≡ 0 → length l < 8 → chain ≡ permute final 64 y
      → block ≡ pushed_all 0 (map internal l) → m ≡ (n + length l) % 2 ^ 64
      → record { chain = chain; block = block; n = m } ≡ fed_bytes (joined_by t ks) (halved y n) (map internal l)
  fed_rest y n l {block = block} {m = m} f z h p q r =
      ap (λ (c : ℕ). record { chain = c; block = block; n = m }) p ∙ fed_few (joined_by t ks) (halved y n) l f (omega arith) q r
