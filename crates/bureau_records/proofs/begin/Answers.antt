-- The digest begins with nothing kept.
use Rattle.std.proofs.Common.{false, ap, ◌∙◌}
use Rattle.digest.specs.Running.{alike}
use Rattle.digest.specs.declared.Running.{Running}
use Rattle.bureau_records.specs.Pieces.{Heard}
use Rattle.bureau_records.proofs.begin.Goals as goal

pub returns : goal.returns
returns c =
    ap {B = Heard} (λ (r : Running). record { running = r; waits = false }) (c.at_record.ensures ∙ ap alike c.start.ensures)
