-- The parts of the order are looked at one after the other.
use Rattle.std.proofs.Common.{rules, ◌≡◌, length}
use native.Mathlib.Omega.{arith}
use Rattle.checks.proofs.Tables.{lent_room, lent_dates}
use Rattle.checks.proofs.Faults.{esi_is}
use Rattle.message.proofs.Order.{stops, goes_on}
use Rattle.checks.proofs.check_esi.Goals as goal

pub shared_ref_as_front-holidays : goal.shared_ref_as_front-holidays
shared_ref_as_front-holidays c =
    let n : length c.holidays_in-all.result.dates ≡ 200 = search rules in
    omega (arith, lent_room _ _ c.holidays_in-all.ensures)

pub returns-in_err-form_faults : goal.returns-in_err-form_faults
returns-in_err-form_faults c =
    let same : c.from_residual.result ≡ c.form_faults.result = search rules in
    esi_is _ _ _ _ c.customer_of-c.ensures
    (stops _ _ c.form_faults.ensures c.in_err-form_faults.was same)

pub returns-in_err-party_faults : goal.returns-in_err-party_faults
returns-in_err-party_faults c =
    let same : c.from_residual-in_err-party_faults.result ≡ c.party_faults.result = search rules in
    esi_is _ _ _ _ c.customer_of-c.ensures
    (goes_on _ _ c.form_faults.ensures c.in_ok-form_faults.was
    (stops _ _ c.party_faults.ensures c.in_err-party_faults.was same))

pub returns-in_err-stamp_faults : goal.returns-in_err-stamp_faults
returns-in_err-stamp_faults c =
    let h = lent_dates _ _ c.holidays_in-all.ensures in
    let same : c.from_residual-in_err-stamp_faults.result ≡ c.stamp_faults.result = search rules in
    esi_is _ _ _ _ c.customer_of-c.ensures
    (goes_on _ _ c.form_faults.ensures c.in_ok-form_faults.was
    (goes_on _ _ c.party_faults.ensures c.in_ok-party_faults.was
    (stops _ _ (c.stamp_faults.ensures _ h) c.in_err-stamp_faults.was same)))

pub returns-in_err-esi_key_faults : goal.returns-in_err-esi_key_faults
returns-in_err-esi_key_faults c =
    let h = lent_dates _ _ c.holidays_in-all.ensures in
    let same : c.from_residual-in_err-esi_key_faults.result ≡ c.esi_key_faults.result = search rules in
    esi_is _ _ _ _ c.customer_of-c.ensures
    (goes_on _ _ c.form_faults.ensures c.in_ok-form_faults.was
    (goes_on _ _ c.party_faults.ensures c.in_ok-party_faults.was
    (goes_on _ _ (c.stamp_faults.ensures _ h) c.in_ok-stamp_faults.was
    (stops _ _ c.esi_key_faults.ensures c.in_err-esi_key_faults.was same))))

pub returns : goal.returns
returns c =
    let h = lent_dates _ _ c.holidays_in-all.ensures in
    esi_is _ _ _ _ c.customer_of-c.ensures
    (goes_on _ _ c.form_faults.ensures c.in_ok-form_faults.was
    (goes_on _ _ c.party_faults.ensures c.in_ok-party_faults.was
    (goes_on _ _ (c.stamp_faults.ensures _ h) c.in_ok-stamp_faults.was
    (goes_on _ _ c.esi_key_faults.ensures c.in_ok-esi_key_faults.was
    (c.room_faults.ensures _ h)))))
