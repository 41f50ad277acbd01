-- A stamp before the day's start is of another day, and so is one that lies a day's digits or more after it.
use mathlib.Core.Path.{◌∙◌}
use borrow.Author.Tests.{lt-leb}
use Rattle.customer_bytes.proofs.Days.{before_it, after_it}
use Rattle.customer_bytes.proofs.is_of_day.Goals as goal

pub returns-then-day-s : goal.returns-then-day-s
returns-then-day-s c = after_it _ _ c.requires c.if-day-s.true

pub returns-else-day-s : goal.returns-else-day-s
returns-else-day-s c = lt-leb _ _ c.if-day-s.false ∙ before_it _ _ c.requires c.if-day-s.false
