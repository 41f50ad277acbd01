-- Bytes of a batch's length are a batch's where the batch that they say is sound: whatever stands there is written as it is read.
-- Assumes nothing.
use mathlib.Core.Path.{◌≡◌, sym}
use mathlib.Core.Bool.{true, false}
use mathlib.Core.List.{List}
use borrow.Author.Tests.{eq-eqb, ne_eqb, eqb-true}
use lib.Dec.{eqb}
use lib.ListN.{length}
use Rattle.ground.proofs.Choices.{left, fails_left, decides, picks, skips}
use Rattle.build.specs.Building.{no_batch}
use Rattle.build.specs.declared.Batch.{Batch}
use Rattle.build_bytes.specs.Layout.{batch_size}
use Rattle.build_bytes.specs.Bytes.{sound_batch, batch_bytes, batch_of, is_batch, batch_in, batch_stored}

-- another length is none
pub wrong_length : (l : List _) → (length l ≡ batch_size → ⊥) → false ≡ is_batch l
unfolding is_batch
wrong_length l n = sym (fails_left (eqb (length l) batch_size) _ (ne_eqb (length l) batch_size n))

pub long : (l : List _) → is_batch l ≡ true → length l ≡ batch_size
unfolding is_batch
long l e = eqb-true (length l) batch_size (left (eqb (length l) batch_size) _ e)

pub by_soundness : (l : List _) → length l ≡ batch_size → is_batch l ≡ sound_batch (batch_of l)
unfolding is_batch
by_soundness l n = decides (eqb (length l) batch_size) _ (eq-eqb (length l) batch_size n)

-- ---- what bytes say, and what is written over them

pub said : (l : List _) → is_batch l ≡ true → batch_in l ≡ batch_of l
unfolding batch_in
said l e = picks (is_batch l) (batch_of l) no_batch e

pub unsaid : (l : List _) → is_batch l ≡ false → batch_in l ≡ no_batch
unfolding batch_in
unsaid l e = skips (is_batch l) (batch_of l) no_batch e

pub stored : (l : List _) (x : Batch) → length l ≡ batch_size → batch_stored l x ≡ batch_bytes x
unfolding batch_stored
stored l x n = picks _ _ _ (eq-eqb (length l) batch_size n)

pub stays : (l : List _) (x : Batch) → (length l ≡ batch_size → ⊥) → batch_stored l x ≡ l
unfolding batch_stored
stays l x n = skips _ _ _ (ne_eqb (length l) batch_size n)
