-- Each date is looked at, beside the one before it.
use mathlib.Core.Path.{refl, sym, ◌∙◌}
use Prim.Native.Nat.{◌-◌}
use Rattle.std.proofs.Common.{rules, tests}
use Rattle.std.proofs.lemmas.Iterator.{YieldsList-from_range}
use Rattle.std.proofs.lemmas.Iterator.Search.{all_from_yields_List}
use Rattle.table.proofs.Turns
use Rattle.table.proofs.tests.are_rising.Goals as goal

pub returns : goal.returns
returns c =
    let a = c.args in
    all_from_yields_List (Turns.rises_at a.at a.t.now) _ _ c.all.result c.all.ensures.ran
    (YieldsList-from_range 1 a.n (a.n - 1) refl refl) (λ x b q k. search (rules, tests))
    ∙ sym (Turns.dates_rise a.at a.n a.t.now)
