-- The calls give the schedule that the definition names, and the table by which the cipher is the definition's.
use Rattle.des.proofs.Joined.{joined-cipher}
use Rattle.build.proofs.batch_digest.Goals as goal

pub returns : goal.returns
returns c =
    rw (
      c.digest_number.ensures,
      c.finish.ensures,
      c.schedule-keys.ensures,
      c.joined_table-table.ensures,
      joined-cipher _,
    )
