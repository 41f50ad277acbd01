-- The calls give the table, the schedule, the start and the covered characters that the definition names.
use Rattle.std.proofs.Common.{◌∙◌}
use Rattle.digest.proofs.Batches.{checksum_made}
use Rattle.digest.proofs.checksum.Goals as goal

pub returns : goal.returns
returns c =
    c.close.ensures
    ∙ checksum_made _ _ c.min.ensures c.joined_table-table.ensures c.schedule-keys.ensures c.start.ensures c.fed.ensures
