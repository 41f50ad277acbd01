-- Which bytes are a batch's, and what a batch is written as.
-- Assumes nothing.
use Rattle.std.specs.Prelude.{ℕ, Bool, List, eqb, length}
use Rattle.ground.specs.Choice.{both, fails, pick}
use Rattle.codec.specs.Layout.{enc, dec}
use Rattle.keys.specs.Parity.{odd_parity}
use Rattle.message.specs.declared.Kind.TheVariants.{Suo}
use Rattle.build.specs.Building.{breaks_rules, no_batch}
use Rattle.build.specs.declared.Batch.{Batch}
use Rattle.build_bytes.specs.Layout.{batch_size, batch_shape, batch_from, batch_to}

-- its SUO breaks no rule; keys have odd parity
unfoldable pub sound_batch : Batch → Bool
sound_batch b = both (fails (breaks_rules Suo b.suo)) (both (odd_parity b.once) (odd_parity b.working))

unfoldable pub batch_bytes : Batch → List ℕ
batch_bytes b = enc batch_shape (batch_to b)

unfoldable pub batch_of : List ℕ → Batch
batch_of l = batch_from (dec batch_shape 0 l)

unfoldable pub is_batch : List ℕ → Bool
is_batch b = both (eqb (length b) batch_size) (sound_batch (batch_of b))

-- the batch that bytes say; bytes that are none say no batch
unfoldable pub batch_in : List ℕ → Batch
batch_in b = pick (is_batch b) (batch_of b) no_batch

-- bytes with a batch written over them; those of another length stay
unfoldable pub batch_stored : List ℕ → Batch → List ℕ
batch_stored b x = pick (eqb (length b) batch_size) (batch_bytes x) b
