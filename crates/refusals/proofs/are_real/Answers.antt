-- The walk asks each date.
use Rattle.std.proofs.Common.{rules, tests, sym, ◌∙◌}
use Rattle.std.proofs.lemmas.Iterator.{YieldsList-from_slice}
use Rattle.std.proofs.lemmas.Iterator.Search.{all_from_yields_List}
use Rattle.ground.proofs.Std.{all_is}
use Rattle.calendar.specs.Dates.{real_date}
use Rattle.refusals.proofs.are_real.Goals as goal

pub returns : goal.returns
returns c =
    all_from_yields_List real_date _ _ _ c.all.ensures.ran (YieldsList-from_slice c.args.dates.now cc) (λ x b q k. search (rules, tests))
    ∙ sym (all_is real_date _)
