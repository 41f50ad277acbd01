-- The record is stored at the place that is found, and then the seed.
use Rattle.std.specs.Prelude.{Ok}
use mathlib.Core.Path.{refl, ap, ◌∙◌}
use Rattle.acceptance.specs.declared.Granted.{Granted}
use Rattle.table.specs.Table.{place_of}
use Rattle.verdict.specs.Outcomes.{outcome_of}
use Rattle.verdict.proofs.Judged.{stored_after, accepted_outcome}
use Rattle.verdict.proofs.accept.Goals as goal

pub returns : goal.returns
returns c =
    let g = c.grant_to-granted.ensures in
    let f = c.find-place.ensures ∙ ap (place_of _) c.sender.ensures in (
      accepted_outcome (Ok tt) _ _ _ refl c.clock_value.ensures ∙ ap (λ (v : Granted). outcome_of (Ok tt) v c.args.o.made) g,
      stored_after _ _ _ _ _ _ _ _ _ _ g c.marked-record.ensures f c.store_record.ensures c.store_seed.ensures,
    )
