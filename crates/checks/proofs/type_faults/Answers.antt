-- The one check of the data type.
use mathlib.Core.Path.{refl, sym, ap, ◌∙◌}
use Prim.Native.Nat.{ℕ}
use Rattle.ground.specs.Choice.{fails}
use Rattle.message.specs.Order.{first_failing}
use Rattle.checks.specs.Checks.{type_allowed, type_checks}
use Rattle.checks.proofs.Order.{made, more}
use Rattle.checks.proofs.type_faults.Goals as goal

pub returns : goal.returns
unfolding type_checks
returns c customer e =
    c.first_failing.ensures
    ∙ ap first_failing
    (more
    (made c.new.ensures (c.is_type_refused.ensures ∙ ap (λ (types : ℕ). fails (type_allowed types c.args.n)) (sym e))) refl)
