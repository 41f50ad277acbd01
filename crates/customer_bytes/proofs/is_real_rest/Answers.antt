-- The hours, the minutes and the seconds.
use Rattle.std.proofs.Common.{rules}
use Rattle.customer_bytes.proofs.Days.{time_is}
use Rattle.customer_bytes.proofs.is_real_rest.Goals as goal

pub returns-then-rest-lt6000000 : goal.returns-then-rest-lt6000000
returns-then-rest-lt6000000 c = rw (time_is c.args.rest) (search rules)

pub returns-else-rest-lt6000000 : goal.returns-else-rest-lt6000000
returns-else-rest-lt6000000 c = rw (time_is c.args.rest) (search rules)
