-- The checks are made in their order.
use mathlib.Core.Path.{refl, ap, ap₂, ◌∙◌}
use Rattle.ground.specs.Choice.{fails}
use Rattle.ground.specs.Lists.{same}
use Rattle.ground.proofs.Bools.{turned}
use Rattle.message.specs.Fields.{receiver_of}
use Rattle.message.specs.Order.{first_failing}
use Rattle.customer.specs.declared.Customer.{Customer}
use Rattle.customer.specs.declared.Settings.{Settings}
use Rattle.table.specs.Table.{is_unknown, place_of}
use Rattle.checks.specs.Checks.{too_old_version, party_checks}
use Rattle.checks.proofs.Order.{made, more}
use Rattle.checks.proofs.Tables.{none_found}
use Rattle.checks.proofs.party_faults.Goals as goal

pub returns : goal.returns
unfolding party_checks
returns c =
    let s = c.settings-settings.ensures in
    let found = c.find.ensures ∙ ap (place_of _) c.sender.ensures in
    let m = c.args.m in
    c.first_failing.ensures
    ∙ ap first_failing
    (more
    (made c.new.ensures
    (c.too_old_version.ensures ∙ ap₂ too_old_version (ap (λ (x : Settings). x.floor) s) c.version.ensures))
    (more
    (made c.new-2.ensures (c.is_elsewhere.ensures ∙ ap (λ (x : Settings). fails (same (receiver_of m) x.bank)) s))
    (more (made c.new-3.ensures (none_found _ _ c.is_none.ensures ∙ ap is_unknown found))
    (more (made c.new-4.ensures (turned (ap (λ (x : Customer). x.agreed) c.customer_of.ensures))) refl))))
