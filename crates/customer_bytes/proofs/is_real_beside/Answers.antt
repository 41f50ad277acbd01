-- Of the kept day the time decides, since the day is real; a stamp of another day is tested whole.
use mathlib.Core.Path.{sym, ◌∙◌}
use Rattle.customer_bytes.proofs.Days.{past_start, time_decides}
use Rattle.customer_bytes.proofs.is_real_beside.Goals as goal

pub overflow_sub-s : goal.overflow_sub-s
overflow_sub-s c = past_start _ _ c.requires (sym c.is_of_day.ensures ∙ c.if-is_of_day.true)

pub returns-then-is_of_day : goal.returns-then-is_of_day
returns-then-is_of_day c =
    c.is_real_rest.ensures
    ∙ time_decides _ _ c.requires (sym c.is_of_day.ensures ∙ c.if-is_of_day.true)
