-- What each call that keeps the table promises: its answer, the refusal's number or 0, and what it leaves of the table's bytes.
-- Assumes nothing.
use Rattle.std.specs.Prelude.{ℕ, ◌≡◌, List}

pub record MeetsKeeping (refused : ℕ) (left : List ℕ) (answer : ℕ) (table : List ℕ) : Type 0 where
  pub answers : answer ≡ refused
  pub leaves : table ≡ left
