-- What is read is the fields, one after the other.
use Rattle.codec.specs.Layout.{dec, width}
use Rattle.build_bytes.proofs.state_in.Goals as goal

pub returns : goal.returns
unfolding dec width
returns c =
    λ i. record {
      chain = c.read8.ensures i;
      block = c.read8-2.ensures i;
      n = c.read8-3.ensures i;
    }
