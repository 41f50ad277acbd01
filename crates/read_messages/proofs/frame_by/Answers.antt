-- The digest is finished under the one-time key.
use Rattle.read_messages.proofs.Done.{frame_made}
use Rattle.read_messages.proofs.frame_by.Goals as goal

pub returns : goal.returns
returns c =
    frame_made _ _ c.joined_table-table.ensures c.key_or_0.ensures c.schedule-keys.ensures
    c.finish.ensures
