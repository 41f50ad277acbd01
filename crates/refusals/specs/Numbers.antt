-- Each refusal's number, and what a box is told of a call: the number of its refusal, or 0.
-- Assumes nothing.
use Rattle.std.specs.Prelude.{ℕ, Bool, Result, Ok, Err}
use Rattle.refusals.specs.declared.Refusal.{Refusal}
use Rattle.refusals.specs.declared.Refusal.TheVariants.{NoRoom, NoTable, NoSession, BadDate, TableFull, AlreadyThere, Unknown, EvenPart}
use Rattle.refusals.specs.declared.Refusal.TheVariants.{OtherCheck, NotNext, OutOfLimits, StillChanging, OtherForm}
use Rattle.refusals.specs.Refusals.{Refusal as Condition, refusal}

unfoldable pub number_of : Refusal → ℕ
number_of NoRoom = 1
number_of NoTable = 2
number_of NoSession = 3
number_of BadDate = 4
number_of TableFull = 5
number_of AlreadyThere = 6
number_of Unknown = 7
number_of EvenPart = 8
number_of OtherCheck = 9
number_of NotNext = 10
number_of OutOfLimits = 11
number_of StillChanging = 12
number_of OtherForm = 13

unfoldable pub code_of : {A : Type 0} → Result A Refusal → ℕ
code_of (Ok x) = 0
code_of (Err r) = number_of r

-- a refusal with its condition, as the lists of what refuses a call have it
abbrev pub condition_of : Bool × Refusal → Condition
condition_of c = refusal (number_of c.1) c.0
