-- What each call that reads a file promises of its answer and of the later contents of each buffer lent to it: the contracts of this
-- crate's open, read and end. Those of the calls that keep the table are in `table_calls`.
-- Assumes nothing.
use Rattle.std.specs.Prelude.{ℕ, ◌≡◌, List}
use Rattle.opening.specs.declared.Opening.{Opening}
use Rattle.calls.specs.Reading.{Done, opening_gives, opening_leaves}
use Rattle.calls.specs.declared.OpenAnswer.{OpenAnswer}
use Rattle.calls.specs.declared.Answer.{Answer}

-- an opening
pub record MeetsOpen (b : List ℕ) (o : Opening) (answer : OpenAnswer) (table : List ℕ) : Type 0 where
  pub answers : answer ≡ opening_gives b o
  pub leaves : table ≡ opening_leaves b o

-- a read or an end
pub record MeetsReading (d : Done) (answer : Answer) (table room : List ℕ) : Type 0 where
  pub answers : answer ≡ d.answer
  pub leaves : table ≡ d.table
  pub shows : room ≡ d.room
