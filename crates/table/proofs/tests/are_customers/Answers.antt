-- Each record is looked at.
use mathlib.Core.Path.{refl, sym, ap, ◌∙◌}
use mathlib.Core.Path.{◌≡◌}
use Prim.Native.Nat.{ℕ, ◌+◌, ◌*◌, ◌-◌}
use Rattle.std.proofs.Common.{arith, rules, tests}
use Rattle.std.proofs.lemmas.Iterator.{YieldsList-from_range}
use Rattle.std.proofs.lemmas.Iterator.Search.{all_from_yields_List}
use Rattle.table.specs.Tests.{ok_record, ok_records}
use Rattle.table.proofs.Turns
use Rattle.table.proofs.tests.are_customers.Goals as goal

pub returns : goal.returns
returns c =
    let a = c.args in
    let e : a.at + 1109 * 0 ≡ a.at = omega arith in
    all_from_yields_List (λ i. ok_record (a.n - 1 - i) (a.at + 1109 * i) a.t.now) _ _ c.all.result c.all.ensures.ran
    (YieldsList-from_range 0 a.n a.n refl (omega arith)) (λ x b q k. search (rules, tests))
    ∙ sym (Turns.records_run a.at 0 a.n a.n a.t.now (omega arith) c.requires)
    ∙ ap (λ (k : ℕ). ok_records a.n k a.t.now) e
