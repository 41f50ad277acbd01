-- The calls give the schedule and the states that the definition names, and the table by which the cipher is the definition's.
use Rattle.des.proofs.Joined.{joined-cipher}
use Rattle.build.proofs.digest_with.Goals as goal

pub returns : goal.returns
returns c =
    rw (
      c.end_record-end.ensures,
      c.run-taken.ensures,
      c.at_record.ensures,
      c.schedule-keys.ensures,
      c.joined_table-table.ensures,
      joined-cipher _,
    )
