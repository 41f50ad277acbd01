-- What is read is the fields, one after the other.
use lib.Dec.{eqb}
use Rattle.std.proofs.Math.Nat.{add_assoc}
use Rattle.codec.specs.Layout.{dec, width}
use Rattle.customer_bytes.proofs.customer_in.Goals as goal

pub returns : goal.returns
unfolding dec width
returns c =
    let transport = simp add_assoc at c.pair_in.ensures in
    let working = simp add_assoc at c.pair_in-2.ensures in
    simp add_assoc (λ i. record {
      who = c.read_bytes.ensures i;
      types = c.read2.ensures i;
      agreed = eqb (c.read1.ensures i) 1;
      leave = eqb (c.read1-2.ensures i) 1;
      length = record { 0 = c.read1-3.ensures i };
      transport = transport i;
      working = working i;
      count = c.read1-4.ensures i;
      stamps = c.read_numbers.ensures i;
      once = c.read_numbers-2.ensures i;
    })
