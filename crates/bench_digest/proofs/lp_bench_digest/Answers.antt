-- The record is taken under the key's own round keys.
use Rattle.des.proofs.Joined.{joined-cipher}
use Rattle.bench_digest.proofs.lp_bench_digest.Goals as goal

pub returns : goal.returns
returns c =
    rw (
      c.run-r.ensures,
      c.at_record.ensures,
      c.start.ensures,
      c.schedule-keys.ensures,
      c.joined_table-table.ensures,
      joined-cipher _,
    )
