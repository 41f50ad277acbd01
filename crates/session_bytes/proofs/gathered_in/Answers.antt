-- Each field is read at its place.
use lib.Dec.{eqb}
use Rattle.codec.specs.Layout.{dec, width}
use Rattle.session_bytes.specs.Session.{session_of}
use Rattle.session_bytes.proofs.gathered_in.Goals as goal

pub returns : goal.returns
unfolding session_of dec width
returns c = λ i. record {
  count = c.read4.ensures i;
  blank = eqb (c.read1.ensures i) 1;
  text =
      c.read_bytes.ensures i;
}
