-- The bytes from there on start with it.
use mathlib.Core.Path.{◌≡◌, sym, ap, ◌∙◌}
use Prim.Native.Nat.{ℕ, ◌-◌}
use lib.Dec.{eqb}
use lib.ListN.{length, take, drop}
use lib.Pointwise.{pointwise}
use lib.Seq.{take-take}
use native.Mathlib.Omega.{arith}
use Rattle.std.proofs.Common.{rules}
use Rattle.ground.specs.Lists.{part}
use Rattle.ground.proofs.Std.{same_is}
use Rattle.table.proofs.parts.is_named.Goals as goal

pub returns : goal.returns
unfolding part
returns c =
    let a = c.args in
    let rest = take (length a.t.now - a.at) (drop a.at a.t.now) in
    let n : length a.who ≡ 25 = search rules in
    c.starts_with.ensures.value
    ∙ ap (pointwise eqb a.who) (ap (λ (k : ℕ). take k rest) n ∙ take-take 25 (length a.t.now - a.at) (drop a.at a.t.now) (omega arith))
    ∙ sym (same_is a.who (part a.at 25 a.t.now))
