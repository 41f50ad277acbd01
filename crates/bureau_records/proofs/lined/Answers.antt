-- The piece is heard, and then LF.
use Rattle.std.proofs.Common.{false, sym, ap, ◌∙◌}
use Rattle.std.proofs.lemmas.Result.{IfOk-weaker}
use Rattle.digest.specs.Running.{ended}
use Rattle.bureau_records.specs.Pieces.{Heard}
use Rattle.bureau_records.proofs.Hearing.{heard_lf}
use Rattle.bureau_records.proofs.lined.Goals as goal

pub returns : goal.returns
returns c =
    let m = c.args.w.method in
    IfOk-weaker c.ended.result _ _ (λ x w. w
    ∙ ap {B = Heard} (λ (h : Heard). record { running = ended m h.running; waits = false }) (c.pieced-now.ensures m)
    ∙ sym (heard_lf _ m _)) c.ended.ensures
