-- A batch is its fields; past the SUO they are numbers alone.
-- Assumes nothing.
use mathlib.Core.Path.{◌≡◌, refl}
use mathlib.Core.Bool.{true}
use Rattle.ground.specs.Choice.{both}
use Rattle.codec.specs.Layout.{Shape, number, within, ◌⊗◌, scalar}
use Rattle.build.specs.declared.Batch.{Batch}
use Rattle.build_bytes.specs.Layout.{state_shape, batch_from, batch_to}

abbrev pub numbers_shape : Shape
numbers_shape = number 8 ⊗ number 8 ⊗ within state_shape

pub numbers_scalar : scalar numbers_shape ≡ true
unfolding both
numbers_scalar = refl

pub batch_there : (x : Batch) → batch_from (batch_to x) ≡ x
batch_there x = refl
