-- The day of a real stamp is one.
use Rattle.customer_bytes.proofs.Days.{day_starts}
use Rattle.customer_bytes.proofs.day_beside.Goals as goal

pub returns-else-is_of_day : goal.returns-else-is_of_day
returns-else-is_of_day c = day_starts _ c.requires.1
