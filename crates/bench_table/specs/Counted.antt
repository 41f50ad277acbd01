-- The same answer counted n times.
-- Assumes nothing.
use Rattle.std.specs.Prelude.{ℕ, ◌*◌, Bool}
use Rattle.ground.specs.Choice.{one}

unfoldable pub counted : Bool → ℕ → ℕ
counted t n = one t * n
