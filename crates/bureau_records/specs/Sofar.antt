-- What has been heard of the records where they stand.
-- Assumes nothing.
use Rattle.bureau_records.specs.Pieces.{Heard}
use Rattle.bureau_records.specs.declared.Lines.{Lines}

abbrev pub heard_of : Lines → Heard
heard_of l = record { running = l.running; waits = l.held }
