-- Each part is read at its place.
use Rattle.codec.specs.Layout.{dec, width}
use Rattle.session_bytes.specs.Session.{session_of}
use Rattle.session_bytes.proofs.batch_in.Goals as goal

pub returns : goal.returns
unfolding session_of dec width
returns c =
    λ i. record {
      suo = c.suo_in.ensures i;
      once = c.key_in.ensures i;
      running = record {
        start = c.state_at.ensures i;
        solid = c.state_at-2.ensures i;
        last =
            c.state_at-3.ensures i;
      };
    }
