-- A session and a table on which a call is not refused, as every opened file's are until it is finished.
-- Assumes nothing.
use Rattle.std.specs.Prelude.{ℕ, ◌≡◌, true, false, List}
use Rattle.table.specs.Decode.{is_table, table_of}
use Rattle.session.specs.Ranges.{Fits, end_refused, read_refused}
use Rattle.session.specs.declared.Session.{Session}

-- the session s over the table bytes w: a read is not refused
pub record Good (s : Session) (b : List ℕ) : Type 0 where
  pub table : is_table b ≡ true
  pub fits : Fits s
  pub reads : read_refused s (table_of b).day ≡ false

-- an end is not refused
pub record EndGood (s : Session) (b : List ℕ) : Type 0 where
  pub table : is_table b ≡ true
  pub fits : Fits s
  pub ends : end_refused s (table_of b).day ≡ false
