-- What is read is the fields, one after the other.
use Rattle.codec.specs.Layout.{dec, width}
use Rattle.build_bytes.specs.Bytes.{batch_of}
use Rattle.build_bytes.proofs.batch_in.Goals as goal

pub returns : goal.returns
unfolding batch_of dec width
returns c =
    λ i. record {
      suo = c.read_bytes.ensures i;
      once = c.read8.ensures i;
      working = c.read8-2.ensures i;
      state = c.state_in.ensures i;
    }
