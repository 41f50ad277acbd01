-- What is read is field 2 as far as it came, and no number past 500 is handed on.
use Rattle.session.proofs.Wanted.{wanted_is}
use Rattle.session.proofs.wanted_length.Goals as goal

pub returns : goal.returns
returns c = wanted_is c.args.count c.args.text _ _ c.min.ensures c.min-2.ensures _ c.number.ensures c.min-3.ensures
