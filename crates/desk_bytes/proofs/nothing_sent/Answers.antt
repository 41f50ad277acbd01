-- Each field is as defined.
use mathlib.Core.Path.{refl}
use Rattle.desk_bytes.specs.Bytes.{nothing_sent}
use Rattle.desk_bytes.proofs.nothing_sent.Goals as goal

pub returns : goal.returns
unfolding nothing_sent
returns c = refl
