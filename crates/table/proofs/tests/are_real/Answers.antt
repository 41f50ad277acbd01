-- Each date is looked at.
use mathlib.Core.Path.{refl, sym, ◌∙◌}
use Prim.Native.Nat.{◌+◌, ◌*◌}
use Rattle.std.proofs.Common.{arith, rules, tests}
use Rattle.std.proofs.lemmas.Iterator.{YieldsList-from_range}
use Rattle.std.proofs.lemmas.Iterator.Search.{all_from_yields_List}
use Rattle.ground.specs.Lists.{part}
use Rattle.splices.specs.Bytes.{num}
use Rattle.calendar.specs.Dates.{real_date}
use Rattle.table.proofs.Turns
use Rattle.table.proofs.tests.are_real.Goals as goal

pub returns : goal.returns
returns c =
    let a = c.args in
    all_from_yields_List (λ i. real_date (num (part (a.at + 4 * i) 4 a.t.now))) _ _ c.all.result c.all.ensures.ran
    (YieldsList-from_range 0 a.n a.n refl (omega arith)) (λ x b q k. search (rules, tests))
    ∙ sym (Turns.all_dates real_date a.at a.n a.t.now)
