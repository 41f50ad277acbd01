-- A byte that neither ends a record nor waits for the byte after it.
-- Assumes nothing.
use Rattle.std.specs.Prelude.{ℕ, Bool, eqb}
use Rattle.ground.specs.Choice.{both, fails}
use Rattle.whole_file.specs.Records.{lf, cr}

-- neither LF nor CR
unfoldable pub plain : ℕ → Bool
plain b = both (fails (eqb b lf)) (fails (eqb b cr))
