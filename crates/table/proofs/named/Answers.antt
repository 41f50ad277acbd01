-- The place that is found has the record, and past the last place stands nobody.
use Rattle.table.proofs.Looked.{found_at, found_none}
use Rattle.table.proofs.named.Goals as goal

pub returns-in-Some : goal.returns-in-Some
returns-in-Some c = found_at _ _ _ _ c.find.ensures _ c.in-Some.is c.load.ensures

pub returns-in-None : goal.returns-in-None
returns-in-None c = found_none _ _ _ _ c.find.ensures _ c.in-None.is c.customer_count.ensures c.load-in-None.ensures
