-- The checks are made in their order.
use Rattle.std.specs.Prelude.{Option, ℕ}
use mathlib.Core.Path.{refl, ap, ap₂, ◌∙◌}
use Rattle.changeover.specs.Held.{held_key, good_for}
use Rattle.message.specs.Order.{first_failing}
use Rattle.checks.specs.Checks.{checksum_differs, esi_key_checks}
use Rattle.checks.proofs.Order.{made, more}
use Rattle.ground.proofs.Bools.{turned}
use Rattle.checks.proofs.esi_key_faults.Goals as goal

pub returns : goal.returns
unfolding esi_key_checks
returns c =
    let a = c.args in
    let d = c.date-date.ensures in
    let g = c.working_generation-working.ensures in
    c.first_failing.ensures
    ∙ ap first_failing
    (more
    (made c.new.ensures
    (turned (c.is_good_for.ensures ∙ ap₂ (good_for a.c.transport) c.transport_generation-transport.ensures d)))
    (more (made c.new-2.ensures (turned (c.is_good_for-2.ensures ∙ ap₂ (good_for a.c.working) g d)))
    (more
    (made c.new-3.ensures
    (c.checksum_differs.ensures
    ∙ ap (λ (k : Option ℕ). checksum_differs k a.m) (c.held.ensures ∙ ap (held_key a.c.working) g))) refl)))
