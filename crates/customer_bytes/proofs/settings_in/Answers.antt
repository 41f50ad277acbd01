-- What is read is the fields, one after the other.
use Rattle.std.proofs.Math.Nat.{add_assoc}
use Rattle.codec.specs.Layout.{dec, width}
use Rattle.customer_bytes.proofs.settings_in.Goals as goal

pub returns : goal.returns
unfolding dec width
returns c = simp add_assoc (λ i. record {
  bank = c.read_bytes.ensures i;
  software = c.read_bytes-2.ensures i;
  floor = c.read1.ensures i;
  maker = record { key = c.read8.ensures i; seed = c.read8-2.ensures i };
})
