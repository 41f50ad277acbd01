-- `calendar::Date::is_too_old` meets its contract: a sixth banking day decides.
-- Assumes nothing.
use mathlib.Core.Path.{sym, ◌∙◌}
use native.Mathlib.Omega.{arith}
use borrow.Author.Tests.{ltb-true}
use Rattle.calendar.proofs.Old.{up_one, six_after}
use Rattle.calendar.proofs.Date.is_too_old.Goals as goal

pub returns-then-is_more_than : goal.returns-then-is_more_than
returns-then-is_more_than c =
    let more = ltb-true 5 c.next-met.result.0 (sym c.is_more_than.ensures ∙ c.if-is_more_than.true) in
    sym (six_after _ _ _ (grind (arith, up_one, more)))
