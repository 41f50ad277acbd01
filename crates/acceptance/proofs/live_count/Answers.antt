-- What the filter lets through is what is live.
use Rattle.std.proofs.Common.{rules, tests, not, length, sym, ap, ◌∙◌}
use Rattle.std.proofs.lemmas.Iterator.{YieldsList-from_slice}
use Rattle.std.proofs.lemmas.Iterator.Consumers.{YieldsList-from_filter, count_from_yields_List}
use Rattle.acceptance.specs.Stamps.{held_stamps, stamp_old}
use Rattle.acceptance.proofs.Lives.{live_filtered}
use Rattle.acceptance.proofs.live_count.Goals as goal

pub returns : goal.returns
returns c =
    let hs = c.args.holidays.now in
    let today = c.args.today in
    count_from_yields_List _ _ c.count.ensures.ran
    (YieldsList-from_filter _ (λ s. not (stamp_old hs today s)) (YieldsList-from_slice (held_stamps c.args.c) (cc)) c.filter.ensures.closure
    (λ x b q k. search (rules, tests)))
    ∙ sym (ap length (live_filtered hs today (held_stamps c.args.c)))
