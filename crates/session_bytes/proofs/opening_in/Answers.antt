-- Each number is read at its place.
use Rattle.codec.specs.Layout.{dec, width}
use Rattle.session_bytes.specs.Session.{session_of}
use Rattle.session_bytes.proofs.opening_in.Goals as goal

pub returns : goal.returns
unfolding session_of dec width
returns c =
    λ i. record {
      today = record { yymmdd = c.read4.ensures i };
      time = c.read4-2.ensures i;
      kind = c.read4-3.ensures i;
      clock = c.read8.ensures i;
    }
