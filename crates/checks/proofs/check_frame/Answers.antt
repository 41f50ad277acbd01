-- The parts of the order are looked at one after the other.
use Rattle.std.proofs.Common.{rules, ◌≡◌, length}
use native.Mathlib.Omega.{arith}
use mathlib.Core.Path.{refl}
use Rattle.checks.proofs.Tables.{lent_room, lent_dates}
use Rattle.checks.proofs.Faults.{frame_is}
use Rattle.message.proofs.Order.{stops, goes_on}
use Rattle.checks.proofs.check_frame.Goals as goal

pub shared_ref_as_front-holidays : goal.shared_ref_as_front-holidays
shared_ref_as_front-holidays c =
    let n : length c.holidays_in-all.result.dates ≡ 200 = search rules in
    omega (arith, lent_room _ _ c.holidays_in-all.ensures)

pub returns-in_err-form_faults : goal.returns-in_err-form_faults
returns-in_err-form_faults c =
    let same : c.from_residual.result ≡ c.form_faults.result = search rules in
    frame_is _ _ _ _ _ c.customer_of-c.ensures
    (stops _ _ c.form_faults.ensures c.in_err-form_faults.was same)

pub returns-in_err-form_faults-2 : goal.returns-in_err-form_faults-2
returns-in_err-form_faults-2 c =
    let same : c.from_residual-in_err-form_faults-2.result ≡ c.form_faults-2.result = search rules in
    frame_is _ _ _ _ _ c.customer_of-c.ensures
    (goes_on _ _ c.form_faults.ensures c.in_ok-form_faults.was
    (stops _ _ c.form_faults-2.ensures c.in_err-form_faults-2.was same))

pub returns-in_err-party_faults : goal.returns-in_err-party_faults
returns-in_err-party_faults c =
    let same : c.from_residual-in_err-party_faults.result ≡ c.party_faults.result = search rules in
    frame_is _ _ _ _ _ c.customer_of-c.ensures
    (goes_on _ _ c.form_faults.ensures c.in_ok-form_faults.was
    (goes_on _ _ c.form_faults-2.ensures c.in_ok-form_faults-2.was
    (stops _ _ c.party_faults.ensures c.in_err-party_faults.was same)))

pub returns-in_err-type_faults : goal.returns-in_err-type_faults
returns-in_err-type_faults c =
    let same : c.from_residual-in_err-type_faults.result ≡ c.type_faults.result = search rules in
    frame_is _ _ _ _ _ c.customer_of-c.ensures
    (goes_on _ _ c.form_faults.ensures c.in_ok-form_faults.was
    (goes_on _ _ c.form_faults-2.ensures c.in_ok-form_faults-2.was
    (goes_on _ _ c.party_faults.ensures c.in_ok-party_faults.was
    (stops _ _ (c.type_faults.ensures _ refl) c.in_err-type_faults.was same))))

pub returns-in_err-pair_faults : goal.returns-in_err-pair_faults
returns-in_err-pair_faults c =
    let same : c.from_residual-in_err-pair_faults.result ≡ c.pair_faults.result = search rules in
    frame_is _ _ _ _ _ c.customer_of-c.ensures
    (goes_on _ _ c.form_faults.ensures c.in_ok-form_faults.was
    (goes_on _ _ c.form_faults-2.ensures c.in_ok-form_faults-2.was
    (goes_on _ _ c.party_faults.ensures c.in_ok-party_faults.was
    (goes_on _ _ (c.type_faults.ensures _ refl) c.in_ok-type_faults.was
    (stops _ _ c.pair_faults.ensures c.in_err-pair_faults.was same)))))

pub returns-in_err-stamp_faults : goal.returns-in_err-stamp_faults
returns-in_err-stamp_faults c =
    let h = lent_dates _ _ c.holidays_in-all.ensures in
    let same : c.from_residual-in_err-stamp_faults.result ≡ c.stamp_faults.result = search rules in
    frame_is _ _ _ _ _ c.customer_of-c.ensures
    (goes_on _ _ c.form_faults.ensures c.in_ok-form_faults.was
    (goes_on _ _ c.form_faults-2.ensures c.in_ok-form_faults-2.was
    (goes_on _ _ c.party_faults.ensures c.in_ok-party_faults.was
    (goes_on _ _ (c.type_faults.ensures _ refl) c.in_ok-type_faults.was
    (goes_on _ _ c.pair_faults.ensures c.in_ok-pair_faults.was
    (stops _ _ (c.stamp_faults.ensures _ h) c.in_err-stamp_faults.was same))))))

pub returns-in_err-key_faults : goal.returns-in_err-key_faults
returns-in_err-key_faults c =
    let h = lent_dates _ _ c.holidays_in-all.ensures in
    let same : c.from_residual-in_err-key_faults.result ≡ c.key_faults.result = search rules in
    frame_is _ _ _ _ _ c.customer_of-c.ensures
    (goes_on _ _ c.form_faults.ensures c.in_ok-form_faults.was
    (goes_on _ _ c.form_faults-2.ensures c.in_ok-form_faults-2.was
    (goes_on _ _ c.party_faults.ensures c.in_ok-party_faults.was
    (goes_on _ _ (c.type_faults.ensures _ refl) c.in_ok-type_faults.was
    (goes_on _ _ c.pair_faults.ensures c.in_ok-pair_faults.was
    (goes_on _ _ (c.stamp_faults.ensures _ h) c.in_ok-stamp_faults.was
    (stops _ _ (c.key_faults.ensures _ h) c.in_err-key_faults.was same)))))))

pub returns : goal.returns
returns c =
    let h = lent_dates _ _ c.holidays_in-all.ensures in
    frame_is _ _ _ _ _ c.customer_of-c.ensures
    (goes_on _ _ c.form_faults.ensures c.in_ok-form_faults.was
    (goes_on _ _ c.form_faults-2.ensures c.in_ok-form_faults-2.was
    (goes_on _ _ c.party_faults.ensures c.in_ok-party_faults.was
    (goes_on _ _ (c.type_faults.ensures _ refl) c.in_ok-type_faults.was
    (goes_on _ _ c.pair_faults.ensures c.in_ok-pair_faults.was
    (goes_on _ _ (c.stamp_faults.ensures _ h) c.in_ok-stamp_faults.was
    (goes_on _ _ (c.key_faults.ensures _ h) c.in_ok-key_faults.was
    (c.room_faults.ensures _ h))))))))
