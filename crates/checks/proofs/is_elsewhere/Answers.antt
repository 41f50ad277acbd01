-- All 25 characters of both are compared.
use mathlib.Core.Path.{◌≡◌, sym, ap₂, ◌∙◌}
use native.Mathlib.Omega.{arith}
use lib.ListN.{length}
use lib.Seq.{take_all, length-take-le}
use Rattle.ground.specs.Lists.{same}
use Rattle.ground.proofs.Bools.{turned}
use borrow.Author.Rules.{rules}
use Rattle.checks.proofs.is_elsewhere.Goals as goal

pub slice_bounds-same_bytes-end : goal.slice_bounds-same_bytes-end
slice_bounds-same_bytes-end c =
    let n : length c.receiver-receiver.result ≡ 25 = search rules in
    sym (length-take-le _ c.receiver-receiver.result (omega arith))

pub slice_bounds-same_bytes-end-2 : goal.slice_bounds-same_bytes-end-2
slice_bounds-same_bytes-end-2 c =
    let k : length c.args.bank ≡ 25 = search rules in
    sym (length-take-le _ c.args.bank (omega arith))

pub returns : goal.returns
returns c =
    let n : length c.receiver-receiver.result ≡ 25 = search rules in
    let k : length c.args.bank ≡ 25 = search rules in
    turned
    (c.same_bytes.ensures
    ∙ ap₂ same (take_all 25 _ (omega arith) ∙ c.receiver-receiver.ensures) (take_all 25 _ (omega arith)))
