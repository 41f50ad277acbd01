-- Each part is read at its place.
use mathlib.Core.Path.{ap, ◌∙◌}
use lib.Dec.{eqb}
use Rattle.codec.specs.Layout.{dec, width}
use Rattle.session_bytes.specs.Names.{place_numbered}
use Rattle.session_bytes.specs.Session.{session_of}
use Rattle.session_bytes.proofs.session_in.Goals as goal

pub returns : goal.returns
unfolding session_of dec width
returns c =
    let place = c.place_numbered.ensures ∙ ap place_numbered c.read1-5.ensures in
    λ i. record {
      opened = eqb (c.read1.ensures i) 1;
      ended = eqb (c.read1-2.ensures i) 1;
      told = eqb (c.read1-3.ensures i) 1;
      opening = c.opening_in.ensures i;
      made = c.read8.ensures i;
      sender = c.read_bytes.ensures i;
      line = record { size = c.read4.ensures i; cr = eqb (c.read1-4.ensures i) 1 };
      place = place i;
      gathered = c.gathered_in.ensures i;
      batch = c.batch_in.ensures i;
    }
