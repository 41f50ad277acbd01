-- Each method's state is the one that the record's end would go on from.
use Rattle.std.proofs.Common.{refl, ◌∙◌}
use Rattle.digest.proofs.Batches.{last_solid, last_whole}
use Rattle.digest.proofs.run_last.Goals.{in-Skh, in-Ske}
use Rattle.digest.proofs.run_last.Goals as goal

pub returns : goal.returns
returns c =
    elim c.match-m.branch [
      | in-Skh w ↦ last_solid _ _ _ w.in-Skh.is (w.last-is ∙ w.solid_after-last.ensures) refl
      | in-Ske w ↦ last_whole _ _ _ w.in-Ske.is (w.last-is ∙ w.fed-last.ensures) refl
    ]
