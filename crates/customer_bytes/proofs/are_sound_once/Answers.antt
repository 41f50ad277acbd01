-- Each key of the run is looked at.
use mathlib.Core.Path.{refl, ◌∙◌}
use Prim.Native.Nat.{◌+◌, ◌*◌}
use Rattle.std.proofs.Common.{arith, rules, tests}
use Rattle.std.proofs.lemmas.Iterator.{YieldsList-from_range}
use Rattle.std.proofs.lemmas.Iterator.Search.{all_from_yields_List}
use Rattle.customer_bytes.specs.Tests.{once_at}
use Rattle.customer_bytes.proofs.Stamps.{all_of_run}
use Rattle.customer_bytes.proofs.are_sound_once.Goals as goal

pub returns : goal.returns
returns c =
    let a = c.args in
    all_from_yields_List (λ i. once_at a.t.now (a.at + 8 * i)) _ _ c.all.result c.all.ensures.ran
    (YieldsList-from_range 0 a.n a.n refl (omega arith)) (λ x b q k. search (rules, tests))
    ∙ all_of_run (once_at a.t.now) a.at a.n
