-- Their `|` tells.
use mathlib.Core.Path.{ap, ◌∙◌}
use Prim.Native.Nat.{ℕ}
use lib.Dec.{eqb}
use Rattle.std.proofs.Common.{rules, tests}
use Rattle.std.specs.Int.Bits.{bit_or}
use Rattle.std.proofs.lemmas.Iterator.{YieldsList-from_slice}
use Rattle.std.proofs.lemmas.Iterator.Consumers.{fold_from_yields_List}
use Rattle.customer_bytes.proofs.Zeros.{fold_zero}
use Rattle.customer_bytes.proofs.are_zero.Goals as goal

pub returns : goal.returns
returns c =
    let a = c.args in
    ap (λ (x : ℕ). eqb x 0) (fold_from_yields_List _ bit_or 0 c.fold.result c.fold.ensures.ran
    (YieldsList-from_slice a.bytes.now cc) (λ b x d q k. search (rules, tests)))
    ∙ fold_zero 0 a.bytes.now
