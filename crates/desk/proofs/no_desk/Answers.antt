-- Each field is as defined.
use Rattle.desk.specs.Held.{no_desk}
use Rattle.desk.proofs.no_desk.Goals as goal

pub returns : goal.returns
unfolding no_desk
returns c = rw (c.only_key.ensures, c.only_key-2.ensures)
