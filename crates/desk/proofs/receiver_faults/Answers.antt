-- All 25 characters are compared.
use mathlib.Core.Path.{◌≡◌, refl, sym, ap, ◌∙◌}
use mathlib.Core.List.{List}
use Prim.Native.Nat.{ℕ}
use native.Mathlib.Omega.{arith}
use lib.ListN.{length}
use lib.Seq.{take_all, length-take-le}
use borrow.Author.Rules.{rules}
use Rattle.ground.specs.Choice.{fails, pick}
use Rattle.ground.specs.Lists.{same}
use Rattle.message.specs.Layout.{offset_in}
use Rattle.message.specs.Order.{first_failing}
use Rattle.message.specs.Fields.{receiver_of}
use Rattle.checks.proofs.Order.{made, more}
use Rattle.desk.specs.Desk.{receiver_checks}
use Rattle.desk.proofs.receiver_faults.Goals as goal

pub slice_bounds-differs-end : goal.slice_bounds-differs-end
slice_bounds-differs-end c =
    let n : length c.args.h.own ≡ 25 = search rules in
    sym (length-take-le _ c.args.h.own (omega arith))

pub returns : goal.returns
unfolding receiver_checks receiver_of offset_in pick
returns c =
    let n : length c.args.h.own ≡ 25 = search rules in
    c.first_failing.ensures
    ∙ ap first_failing
    (more
    (made c.new.ensures
    (c.differs.ensures ∙ ap (λ (l : List ℕ). fails (same l (receiver_of c.args.r.now))) (take_all 25 _ (omega arith)))) refl)
