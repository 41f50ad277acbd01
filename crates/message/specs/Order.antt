-- A list of checks in their order: the first failing one gives the code and names the field (document 01, 'Order of checks').
-- Assumes nothing.
use Rattle.std.specs.Prelude.{ℕ, List, Result, Ok, Err}
use Rattle.ground.specs.First.{first_that}
use Rattle.message.specs.declared.About.{About}
use Rattle.message.specs.declared.Check.{Check}
use Rattle.message.specs.declared.Fault.{Fault}

-- a fault: the code, the field that it names and the message that the field is of
abbrev pub fault_at : (code field : ℕ) → About → Result Unit Fault
fault_at code field about = Err (record { code = code; field = field; about = about })

-- the first failing check's code, field and message; none fails in a message that is accepted
unfoldable pub first_failing : List Check → Result Unit Fault
first_failing cs = first_that (λ (c : Check). c.failed) (λ (c : Check). fault_at c.code c.field c.about) (Ok tt) cs
