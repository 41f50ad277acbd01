-- A batch on its way as bytes that a bureau keeps (docs/FORMAT.md): the fields in their order, each a line. Every number is written lowest
-- byte first.
-- Assumes nothing.
use Rattle.std.specs.Prelude.{ℕ}
use Rattle.codec.specs.Layout.{Shape, number, text, within, ◌⊗◌, Value}
use Rattle.digest.specs.declared.State.{State}
use Rattle.build.specs.declared.Batch.{Batch}

-- a batch takes 168 bytes
abbrev pub batch_size : ℕ
batch_size = 168

-- ---- the layout

abbrev pub state_shape : Shape
state_shape =
    number 8 ⊗  -- chain
    number 8 ⊗  -- block
    number 8  -- characters kept so far

abbrev pub batch_shape : Shape
batch_shape =
    text 128 ⊗  -- the SUO
    number 8 ⊗  -- one-time key
    number 8 ⊗  -- working key
    within state_shape  -- the digest so far

-- ---- the fields are a batch's

abbrev pub state_from : Value state_shape → State
state_from (chain, (block, n)) = record { chain = chain; block = block; n = n }

abbrev pub batch_from : Value batch_shape → Batch
batch_from (suo, (once, (working, state))) = record { suo = suo; once = once; working = working; state = state_from state }

-- ---- and its are the fields

abbrev pub state_to : State → Value state_shape
state_to s = (s.chain, (s.block, s.n))

abbrev pub batch_to : Batch → Value batch_shape
batch_to b = (b.suo, (b.once, (b.working, state_to b.state)))
