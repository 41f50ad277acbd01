-- The parts of the order are looked at one after the other.
use Rattle.std.proofs.Common.{rules, ◌≡◌}
use Rattle.message.proofs.Order.{stops, goes_on}
use Rattle.desk.proofs.Desks.{pte_is}
use Rattle.desk.proofs.pte_faults.Goals as goal

pub returns-in_err-came_faults : goal.returns-in_err-came_faults
returns-in_err-came_faults c =
    let same : c.from_residual.result ≡ c.came_faults.result = search rules in
    pte_is _ _ _
    (stops _ _ c.came_faults.ensures c.in_err-came_faults.was same)

pub returns-in_err-fault_of : goal.returns-in_err-fault_of
returns-in_err-fault_of c =
    let same : c.from_residual-in_err-fault_of.result ≡ c.fault_of.result = search rules in
    pte_is _ _ _
    (goes_on _ _ c.came_faults.ensures c.in_ok-came_faults.was
    (stops _ _ c.fault_of.ensures c.in_err-fault_of.was same))

pub returns-in_err-receiver_faults : goal.returns-in_err-receiver_faults
returns-in_err-receiver_faults c =
    let same : c.from_residual-in_err-receiver_faults.result ≡ c.receiver_faults.result = search rules in
    pte_is _ _ _
    (goes_on _ _ c.came_faults.ensures c.in_ok-came_faults.was
    (goes_on _ _ c.fault_of.ensures c.in_ok-fault_of.was
    (stops _ _ c.receiver_faults.ensures c.in_err-receiver_faults.was same)))

pub returns-in_err-batch_faults : goal.returns-in_err-batch_faults
returns-in_err-batch_faults c =
    let same : c.from_residual-in_err-batch_faults.result ≡ c.batch_faults.result = search rules in
    pte_is _ _ _
    (goes_on _ _ c.came_faults.ensures c.in_ok-came_faults.was
    (goes_on _ _ c.fault_of.ensures c.in_ok-fault_of.was
    (goes_on _ _ c.receiver_faults.ensures c.in_ok-receiver_faults.was
    (stops _ _ c.batch_faults.ensures c.in_err-batch_faults.was same))))

pub returns : goal.returns
returns c =
    pte_is _ _ _
    (goes_on _ _ c.came_faults.ensures c.in_ok-came_faults.was
    (goes_on _ _ c.fault_of.ensures c.in_ok-fault_of.was
    (goes_on _ _ c.receiver_faults.ensures c.in_ok-receiver_faults.was
    (goes_on _ _ c.batch_faults.ensures c.in_ok-batch_faults.was
    c.reply_key_faults.ensures))))
