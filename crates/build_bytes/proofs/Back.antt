-- A sound batch whose numbers fit is read back from what it is written as, so those bytes are a batch's; and bytes say a batch whose
-- numbers fit.
-- Assumes nothing.
use Prim.Native.Nat.{ℕ, zero, suc}
use mathlib.Core.Path.{◌≡◌, refl, sym, ap, subst, ◌∙◌}
use mathlib.Core.Bool.{true}
use mathlib.Core.List.{List, [], ◌∷◌, ◌++◌}
use native.Mathlib.Omega.{arith}
use lib.ListN.{length}
use Rattle.ground.proofs.Choices.{join}
use Rattle.ground.proofs.Bools.{fails_of}
use Rattle.ground.proofs.Parts.{part_all}
use Rattle.splices.specs.Bytes.{bytes_of}
use Rattle.splices.proofs.Splice.{AllBytes}
use Rattle.splices.proofs.Chunks.{bytes_of_bytes}
use Rattle.codec.specs.Layout.{width, enc, dec, Fits}
use Rattle.codec.proofs.Laws.{wide, fits_sized, dec_fits}
use Rattle.codec.proofs.Laws as codec
use Rattle.keys.specs.Parity.{odd_parity}
use Rattle.keys.specs.declared.KeyMaker.{KeyMaker}
use Rattle.keys.proofs.Laws.{made_odd}
use Rattle.desk.specs.declared.Held.{Held}
use Rattle.build.specs.Building.{suo_building, record_added}
use Rattle.build.specs.declared.Given.{Given}
use Rattle.build.specs.declared.Batch.{Batch}
use Rattle.build.proofs.Fits.{BatchFits, begun_batch, suo_rules}
use Rattle.build_bytes.specs.Layout.{batch_size, batch_shape, batch_from, batch_to}
use Rattle.build_bytes.specs.Bytes.{sound_batch, batch_bytes, batch_of, is_batch, batch_in}
use Rattle.build_bytes.proofs.Fields.{batch_there}
use Rattle.build_bytes.proofs.Tests.{long, by_soundness, said}

-- bytes that are a batch's, and the batch that they say
pub record BatchIs (b : List ℕ) (x : Batch) : Type 0 where
  pub there : is_batch b ≡ true
  pub says : batch_in b ≡ x
  pub fits : BatchFits x

-- ---- what a batch is written as

module _ (x : Batch) (f : BatchFits x) where
  batch_fits : Fits batch_shape (batch_to x)
  batch_fits =
      let o = f.once in
      let w = f.working in
      let k = f.state.chain_fits in
      let b = f.state.block_fits in
      let n = f.state.count_fits in
      (f.suo, (omega (arith, o), (omega (arith, w), (omega (arith, k), (omega (arith, b), omega (arith, n))))))

  pub batch_size_fact : length (batch_bytes x) ≡ batch_size
  unfolding batch_bytes width
  batch_size_fact = wide batch_shape (batch_to x) (fits_sized batch_shape (batch_to x) batch_fits)

  batch_of_fact : batch_of (batch_bytes x) ≡ x
  unfolding batch_of batch_bytes width
  batch_of_fact =
      let e = part_all (batch_bytes x) 168 (omega (arith, batch_size_fact)) in
      ap batch_from (codec.back batch_shape (batch_to x) batch_fits 0 (batch_bytes x) e) ∙ batch_there x

  module _ (s : sound_batch x ≡ true) where
    pub is_batch_fact : is_batch (batch_bytes x) ≡ true
    is_batch_fact = by_soundness (batch_bytes x) batch_size_fact ∙ ap sound_batch batch_of_fact ∙ s

    pub batch_back : batch_in (batch_bytes x) ≡ x
    batch_back = said (batch_bytes x) is_batch_fact ∙ batch_of_fact

    pub written_is : BatchIs (batch_bytes x) x
    written_is = record { there = is_batch_fact; says = batch_back; fits = f }

-- ---- what bytes say fits

pub said_fits : (b : List ℕ) → length b ≡ batch_size → AllBytes b → BatchFits (batch_of b)
unfolding batch_of width
said_fits b n a =
    let f : Fits batch_shape (dec batch_shape 0 b) = dec_fits batch_shape 0 b a (omega arith) in
    let o = f.1.0 in
    let w = f.1.1.0 in
    let k = f.1.1.1.0 in
    let l = f.1.1.1.1.0 in
    let m = f.1.1.1.1.1 in
    record {
      suo = f.0;
      once = omega (arith, o);
      working = omega (arith, w);
      state = record { chain_fits = omega (arith, k); block_fits = omega (arith, l); count_fits = omega (arith, m) };
    }

pub said_is : (b : List ℕ) → AllBytes b → is_batch b ≡ true → BatchIs b (batch_in b)
said_is b a e =
    record { there = e; says = refl; fits = subst BatchFits (sym (said b e)) (said_fits b (long b e) a) }

-- and is sound
pub sound_said : (b : List ℕ) → is_batch b ≡ true → sound_batch (batch_in b) ≡ true
sound_said b e = ap sound_batch (said b e) ∙ sym (by_soundness b (long b e)) ∙ e

-- ---- what begins a batch, and what keeps it one

pub sound_begun : (h : Held) (maker : KeyMaker) (clock : ℕ) (g : Given) → (suo_building h maker clock g).refusal ≡ 0
    → odd_parity h.working.key ≡ true → sound_batch (begun_batch h maker clock g) ≡ true
unfolding sound_batch
sound_begun h maker clock g z o = join _ _ (fails_of _ (suo_rules h maker clock g z)) (join _ _ (made_odd maker clock) o)

pub sound_added : (x : Batch) (r : List ℕ) → sound_batch (record_added x r) ≡ sound_batch x
unfolding sound_batch record_added
sound_added x r = refl

-- ---- what is written is bytes, where the SUO's characters are

bytes_append : (a b : List ℕ) → AllBytes a → AllBytes b → AllBytes (a ++ b)
bytes_append [] b p q k = q k
bytes_append (x ∷ a) b p q zero = p zero
bytes_append (x ∷ a) b p q (suc k) = bytes_append a b (λ i. p (suc i)) q k

number_and : (x : ℕ) (b : List ℕ) → AllBytes b → AllBytes (bytes_of 8 x ++ b)
number_and x b q = bytes_append (bytes_of 8 x) b (bytes_of_bytes 8 x) q

pub batch_bytes_lem : (x : Batch) → AllBytes x.suo → AllBytes (batch_bytes x)
unfolding batch_bytes enc
batch_bytes_lem x p =
    bytes_append x.suo _ p
    (number_and x.once _
    (number_and x.working _ (number_and x.state.chain _ (number_and x.state.block _ (bytes_of_bytes 8 x.state.n)))))
