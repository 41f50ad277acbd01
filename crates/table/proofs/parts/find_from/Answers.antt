-- The first customer with that name.
use mathlib.Core.Path.{◌≡◌, refl, ap, ◌∙◌}
use Prim.Native.Nat.{ℕ, ◌+◌, ◌*◌}
use Rattle.std.specs.Prelude.{Option, None, Some}
use Rattle.std.specs.Option.{option_map}
use Rattle.std.proofs.Common.{arith, rules, tests}
use Rattle.std.proofs.lemmas.Iterator.{YieldsList-from_range}
use Rattle.std.proofs.lemmas.Iterator.Search.{find_from_yields_List}
use Rattle.table.specs.Table.{place_from}
use Rattle.table.specs.Tests.{customers_at}
use Rattle.table.proofs.Turns
use Rattle.table.proofs.parts.find_from.Goals as goal

as_found : (r : Option ℕ) → r ≡ option_map (λ (x : ℕ). x) r
as_found None = refl
as_found (Some x) = refl

pub returns : goal.returns
returns c =
    let a = c.args in
    let e : a.at + 1109 * 0 ≡ a.at = omega arith in
    as_found c.find.result
    ∙ find_from_yields_List (Turns.named_at a.who a.at a.t.now) _ _ c.find.result c.find.ensures.ran
    (YieldsList-from_range 0 a.n a.n refl (omega arith)) (λ x b q k. search (rules, tests))
    ∙ Turns.place_run a.who a.at a.t.now 0 a.n
    ∙ ap (λ (k : ℕ). place_from 0 a.who (customers_at k a.n a.t.now)) e
