-- A record without a fault ends as the digest's does.
use Rattle.std.proofs.Common.{Bool, ap, ap₂}
use Rattle.digest.specs.declared.Running.{Running}
use Rattle.bureau_records.specs.Pieces.{Heard}
use Rattle.bureau_records.proofs.ended.Goals as goal

pub returns : goal.returns
returns c =
    ap₂ {C = Heard} (λ (r : Running) (w : Bool). record { running = r; waits = w }) c.end_record.ensures
    (ap (λ (h : Heard). h.waits) c.begin.ensures)
