-- Each field is read at its place.
use mathlib.Core.Path.{ap, ◌∙◌}
use lib.Dec.{eqb}
use Rattle.codec.specs.Layout.{dec, width}
use Rattle.session_bytes.specs.Names.{extent_numbered}
use Rattle.session_bytes.specs.Session.{session_of}
use Rattle.session_bytes.proofs.suo_in.Goals as goal

pub returns : goal.returns
unfolding session_of dec width
returns c =
    let extent = c.extent_numbered.ensures ∙ ap extent_numbered c.read1.ensures in
    λ i. record { extent = extent i; blank = eqb (c.read1-2.ensures i) 1; text = c.read_bytes.ensures i }
