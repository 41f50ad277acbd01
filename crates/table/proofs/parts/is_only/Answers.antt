-- Each name after it is looked at.
use mathlib.Core.Bool.{not}
use mathlib.Core.Path.{◌≡◌, refl, ap, ◌∙◌}
use Prim.Native.Nat.{ℕ, ◌+◌, ◌*◌}
use Rattle.std.proofs.Common.{arith, rules, tests}
use Rattle.std.proofs.lemmas.Iterator.{YieldsList-from_range}
use Rattle.std.proofs.lemmas.Iterator.Search.{any_from_yields_List}
use Rattle.ground.specs.Lists.{part}
use Rattle.table.specs.Table.{place_from, is_unknown}
use Rattle.table.specs.Tests.{customers_at}
use Rattle.table.proofs.Turns
use Rattle.table.proofs.parts.is_only.Goals as goal

pub returns : goal.returns
returns c =
    let a = c.args in
    let x = part a.at 25 a.t.now in
    let e : a.at + 1109 + 1109 * 0 ≡ a.at + 1109 = omega arith in
    ap not (any_from_yields_List (Turns.named_at x (a.at + 1109) a.t.now) _ _ c.any.result c.any.ensures.ran
    (YieldsList-from_range 0 a.n a.n refl (omega arith)) (λ y b q k. search (rules, tests)))
    ∙ Turns.unknown_run x (a.at + 1109) a.t.now 0 a.n 0
    ∙ ap (λ (k : ℕ). is_unknown (place_from 0 x (customers_at k a.n a.t.now))) e
