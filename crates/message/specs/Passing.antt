-- The test of a field's values or of its format, as the walk over the fields makes it.
-- Assumes nothing.
use Rattle.std.specs.Prelude.{ℕ, Bool, List, Result}
use Rattle.ground.specs.Choice.{fails, pick}
use Rattle.message.specs.Layout.{Field, field_text}
use Rattle.message.specs.Order.{first_failing}
use Rattle.message.specs.Rules.{Form, format_holds, value_holds, each_field}
use Rattle.message.specs.declared.About.{About}
use Rattle.message.specs.declared.Fault.{Fault}

unfoldable pub passes_in : Bool → Form → Bool → List ℕ → ℕ → Bool
passes_in values form blank_over m n = pick values (value_holds form n m) (format_holds form blank_over n (field_text n m))

-- the lowest of some fields that does not pass a test
abbrev pub lowest_broken : ℕ → About → (ℕ → Bool) → List Field → Result Unit Fault
lowest_broken code about passes fs = first_failing (each_field code about (λ n. fails (passes n)) fs)
