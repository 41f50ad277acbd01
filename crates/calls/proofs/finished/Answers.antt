-- A finished file is closed, with nothing on its way.
use mathlib.Core.Path.{ap₂, ◌∙◌}
use Rattle.session.specs.Events.{placed}
use Rattle.session.specs.declared.Place.TheVariants.{Closed}
use Rattle.session.specs.declared.Gathered.{Gathered}
use Rattle.session.specs.declared.Session.{Session}
use Rattle.calls.specs.Reading.{finishes}
use Rattle.calls.proofs.finished.Goals as goal

pub returns : goal.returns
unfolding finishes
returns c =
    c.at_place.ensures
    ∙ ap₂ (λ (u : Session) (g : Gathered). placed u Closed c.args.s.told g)
    c.awaiting.ensures c.no_characters.ensures
