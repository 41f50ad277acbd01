-- Bytes and characters one after the other: each law is one step of the definition, or an induction over the list.
-- Assumes nothing.
use Rattle.std.proofs.Common.{◌≡◌, ℕ, ◌+◌, ◌-◌, ◌*◌, ◌%◌, ◌^◌, ◌<◌, Bool, true, false, eqb, List, [], ◌∷◌, ◌++◌, length, sym, refl, ◌∙◌, arith, eq-eqb, ne_eqb, eqb-true}
use lib.Bits.{bit_xor}
use Rattle.ground.specs.Choice.{both, pick}
use Rattle.ground.proofs.Choices.{picks, skips}
use Rattle.ground.proofs.Table.{each}
use Rattle.digest.specs.Running.{begun, pushed, fed_byte, fed_bytes, closed, took_byte, took_bytes}
use Rattle.digest.specs.declared.State.{State}
use Rattle.digest.specs.declared.Running.{Running}

-- ---- one byte

-- the block by a shift: what is shifted out of it is what the remainder leaves out
pub shifted : (block b w : ℕ) → w ≡ b → w < 256 → block * 2 ^ 8 % 2 ^ 64 + w ≡ pushed block b
shifted block b w e h = rw (sym e) (omega arith)

module _ (e : ℕ → ℕ) (s : State) (b : ℕ) {block n : ℕ} where
  -- where the byte is the eighth, the block is closed
  pub fed_eighth : {chain : ℕ} → s.n % 8 ≡ 7 → block ≡ pushed s.block b → chain ≡ e (bit_xor s.chain block) → n ≡ (s.n + 1) % 2 ^ 64
      → record { chain = chain; block = 0; n = n } ≡ fed_byte e s b
  unfolding fed_byte
  fed_eighth h p q k = rw (q, p, k) (sym (picks _ _ _ (eq-eqb _ _ h)))

  -- any other joins it
  pub fed_other : (s.n % 8 ≡ 7 → ⊥) → block ≡ pushed s.block b → n ≡ (s.n + 1) % 2 ^ 64
      → record { chain = s.chain; block = block; n = n } ≡ fed_byte e s b
  unfolding fed_byte
  fed_other h p k = rw (p, k) (sym (skips _ _ _ (ne_eqb _ _ h)))

-- ---- the end

-- eight bits a byte
widths : (k : ℕ) → k < 8 → 256 ^ (8 - k) ≡ 2 ^ (64 - 8 * k)
unfolding both
widths k h = eqb-true _ _ (each (λ k. eqb (256 ^ (8 - k)) (2 ^ (64 - 8 * k))) 8 tt k h)

module _ (e : ℕ → ℕ) (s : State) where
  pub closed_full : s.n % 8 ≡ 0 → s.chain ≡ closed e s
  unfolding closed
  closed_full h = sym (picks _ _ _ (eq-eqb _ _ h))

  pub closed_short : (s.n % 8 ≡ 0 → ⊥) → e (bit_xor s.chain (s.block * 256 ^ (8 - s.n % 8) % 2 ^ 64)) ≡ closed e s
  unfolding closed
  closed_short h = sym (skips _ _ _ (ne_eqb _ _ h))

  -- the same by a shift
  pub closed_shift : (s.n % 8 ≡ 0 → ⊥) → e (bit_xor s.chain (s.block * 2 ^ (64 - 8 * (s.n % 8)) % 2 ^ 64)) ≡ closed e s
  closed_shift h = rw (sym (widths (s.n % 8) (omega arith))) (closed_short h)

-- ---- many

-- what is fed in pieces is fed whole
pub fed_append : (e : ℕ → ℕ) (s : State) (a b : List ℕ) → fed_bytes e s (a ++ b) ≡ fed_bytes e (fed_bytes e s a) b
unfolding fed_bytes
fed_append e s [] b = refl
fed_append e s (x ∷ a) b = fed_append e (fed_byte e s x) a b

-- and so are a record's characters: where they are cut does not matter
pub took_append : (e : ℕ → ℕ) (r : Running) (a b : List ℕ) → took_bytes e r (a ++ b) ≡ took_bytes e (took_bytes e r a) b
unfolding took_bytes
took_append e r [] b = refl
took_append e r (x ∷ a) b = took_append e (took_byte e r x) a b

-- the characters are counted
counted : (t : Bool) (a b : State) (n : ℕ) → a.n ≡ n → b.n ≡ n → (pick t a b).n ≡ n
unfolding pick
counted true a b n p q = p
counted false a b n p q = q

fed_one : (e : ℕ → ℕ) (s : State) (b : ℕ) → (fed_byte e s b).n ≡ (s.n + 1) % 2 ^ 64
unfolding fed_byte
fed_one e s b = counted (eqb (s.n % 8) 7) _ _ _ refl refl

fed_counts : (e : ℕ → ℕ) (s : State) (l : List ℕ) → s.n + length l < 2 ^ 64 → (fed_bytes e s l).n ≡ s.n + length l
unfolding fed_bytes
fed_counts e s [] h = omega arith
fed_counts e s (x ∷ l) h =
    let one : (fed_byte e s x).n ≡ s.n + 1 = fed_one e s x ∙ omega arith in
    fed_counts e (fed_byte e s x) l (omega arith) ∙ omega arith

pub fed_count : (e : ℕ → ℕ) (l : List ℕ) → length l < 2 ^ 64 → (fed_bytes e begun l).n ≡ length l
unfolding begun
fed_count e l h = fed_counts e begun l (omega arith) ∙ omega arith
