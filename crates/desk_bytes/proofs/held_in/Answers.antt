-- What is read is the fields, one after the other.
use Rattle.codec.specs.Layout.{dec, width}
use Rattle.desk_bytes.specs.Bytes.{held_of}
use Rattle.desk_bytes.proofs.held_in.Goals as goal

pub returns : goal.returns
unfolding held_of dec width
returns c =
    λ i. record {
      own = c.read_bytes.ensures i;
      bank = c.read_bytes-2.ensures i;
      transport = c.keys_in.ensures i;
      working = c.keys_in-2.ensures i;
    }
