-- The parts of the order are looked at one after the other.
use Rattle.std.proofs.Common.{rules, ◌≡◌}
use Rattle.message.proofs.Order.{stops, goes_on}
use Rattle.desk.proofs.Desks.{esi_is}
use Rattle.desk.proofs.esi_faults.Goals as goal

pub returns-in_err-fault_of : goal.returns-in_err-fault_of
returns-in_err-fault_of c =
    let same : c.from_residual.result ≡ c.fault_of.result = search rules in
    esi_is _ _ _
    (stops _ _ c.fault_of.ensures c.in_err-fault_of.was same)

pub returns-in_err-receiver_faults : goal.returns-in_err-receiver_faults
returns-in_err-receiver_faults c =
    let same : c.from_residual-in_err-receiver_faults.result ≡ c.receiver_faults.result = search rules in
    esi_is _ _ _
    (goes_on _ _ c.fault_of.ensures c.in_ok-fault_of.was
    (stops _ _ c.receiver_faults.ensures c.in_err-receiver_faults.was same))

pub returns-in_err-stamp_faults : goal.returns-in_err-stamp_faults
returns-in_err-stamp_faults c =
    let same : c.from_residual-in_err-stamp_faults.result ≡ c.stamp_faults.result = search rules in
    esi_is _ _ _
    (goes_on _ _ c.fault_of.ensures c.in_ok-fault_of.was
    (goes_on _ _ c.receiver_faults.ensures c.in_ok-receiver_faults.was
    (stops _ _ c.stamp_faults.ensures c.in_err-stamp_faults.was same)))

pub returns : goal.returns
returns c =
    esi_is _ _ _
    (goes_on _ _ c.fault_of.ensures c.in_ok-fault_of.was
    (goes_on _ _ c.receiver_faults.ensures c.in_ok-receiver_faults.was
    (goes_on _ _ c.stamp_faults.ensures c.in_ok-stamp_faults.was
    c.reply_key_faults.ensures)))
