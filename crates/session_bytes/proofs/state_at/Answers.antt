-- The numbers are read one after the other.
use Rattle.std.proofs.Math.Nat.{add_assoc}
use Rattle.codec.specs.Layout.{dec, width}
use Rattle.session_bytes.proofs.state_at.Goals as goal

pub returns : goal.returns
unfolding dec width
returns c = simp add_assoc (λ i. record { chain = c.read8.ensures i; block = c.read8-2.ensures i; n = c.read8-3.ensures i })
