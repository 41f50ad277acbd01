-- The checksum is that of what stands there, and field 18 follows it.
use Rattle.build.proofs.Written.{closing_written}
use Rattle.build.proofs.put_closing.Goals as goal

pub returns : goal.returns
returns c =
    let a = c.args in
    closing_written a.working a.request a.out.now c.requires c.checksum.ensures c.hex_digits-sum.ensures
    c.write_bytes.ensures c.write_bytes-2.ensures
