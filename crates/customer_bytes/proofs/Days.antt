-- A stamp beside the start of a real day: of that day just when it lies less than a day's digits after it, and then its time decides.
-- Assumes nothing.
use mathlib.Core.Path.{◌≡◌, refl, sym, ap, ◌∙◌}
use Rattle.std.specs.Prelude.{◌&&◌}
use mathlib.Core.Bool.{true, false}
use Prim.Native.Nat.{ℕ, ◌-◌, ◌*◌, ◌/◌, ◌%◌, ◌≤◌, ◌<◌}
use native.Mathlib.Omega.{arith}
use borrow.Author.Tests.{eqb-true, eq-eqb, ne_eqb, ltb-true, lt-ltb}
use lib.Dec.{eqb, ltb}
use Rattle.ground.proofs.Choices.{left, right, join, decides}
use Rattle.ground.proofs.Bools.{decided}
use Rattle.ground.proofs.Std.{both_is}
use Rattle.calendar.specs.Dates.{real_date, real_time}
use Rattle.customer.specs.Customer.{real_stamp}
use Rattle.customer_bytes.specs.Tests.{starts_day}

-- a real date has six digits
six : (d : ℕ) → real_date d ≡ true → d < 1000000
unfolding real_date
six d e = ltb-true d 1000000 (left _ _ e)

same_tests : (a m b n : ℕ) → (a < m → b < n) → (b < n → a < m) → ltb a m ≡ ltb b n
same_tests a m b n f g =
    decided (ltb a m) (ltb b n) (λ e. lt-ltb b n (f (ltb-true a m e))) (λ e. lt-ltb a m (g (ltb-true b n e)))

-- hours, minutes and seconds of the digits hhmmssnnn
pub time_is : (r : ℕ) → real_time (r / 1000) ≡ (ltb r 240000000 && (ltb (r % 10000000) 6000000 && ltb (r % 100000) 60000))
unfolding real_time
time_is r =
    let hours : ltb (r / 1000) 240000 ≡ ltb r 240000000 = same_tests _ _ _ _ (omega arith) (omega arith) in
    let minutes : ltb (r / 1000 / 100 % 100) 60 ≡ ltb (r % 10000000) 6000000 = same_tests _ _ _ _ (omega arith) (omega arith) in
    let seconds : ltb (r / 1000 % 100) 60 ≡ ltb (r % 100000) 60000 = same_tests _ _ _ _ (omega arith) (omega arith) in
    rw (both_is, both_is, hours, minutes, seconds) refl

module _ (s day : ℕ) (h : starts_day day ≡ true) where
  whole : day % 1000000000 ≡ 0
  unfolding starts_day
  whole = eqb-true _ _ (left _ _ h)

  real : real_date (day / 1000000000) ≡ true
  unfolding starts_day
  real = right _ _ h

  pub before_it : s < day → false ≡ eqb (s / 1000000000) (day / 1000000000)
  before_it k =
      let n : s / 1000000000 ≡ day / 1000000000 → ⊥ = λ e. omega (arith, whole, e) in
      sym (ne_eqb (s / 1000000000) (day / 1000000000) n)

  pub after_it : day ≤ s → ltb (s - day) 1000000000 ≡ eqb (s / 1000000000) (day / 1000000000)
  after_it k =
      decided (ltb (s - day) 1000000000) (eqb (s / 1000000000) (day / 1000000000))
      (λ e. eq-eqb (s / 1000000000) (day / 1000000000) (omega (arith, whole, ltb-true (s - day) 1000000000 e)))
      (λ e. lt-ltb (s - day) 1000000000 (omega (arith, whole, eqb-true (s / 1000000000) (day / 1000000000) e)))

  module _ (e : eqb (s / 1000000000) (day / 1000000000) ≡ true) where
    one_day : s / 1000000000 ≡ day / 1000000000
    one_day = eqb-true (s / 1000000000) (day / 1000000000) e

    pub past_start : day ≤ s
    past_start = omega (arith, whole, one_day)

    pub time_decides : real_time ((s - day) / 1000) ≡ real_stamp s
    unfolding real_stamp
    time_decides =
        let t : (s - day) / 1000 ≡ s / 1000 % 1000000 = omega (arith, whole, one_day) in
        ap real_time t
        ∙ sym (decides _ _ (lt-ltb s 1000000000000000 (omega (arith, one_day, six (day / 1000000000) real)))
        ∙ decides _ _ (ap real_date one_day ∙ real))

pub day_starts : (s : ℕ) → real_stamp s ≡ true → starts_day (s / 1000000000 * 1000000000) ≡ true
unfolding real_stamp starts_day
day_starts s h =
    let e : s / 1000000000 * 1000000000 / 1000000000 ≡ s / 1000000000 = omega arith in
    let w : s / 1000000000 * 1000000000 % 1000000000 ≡ 0 = omega arith in
    join _ _ (eq-eqb _ _ w) (ap real_date e ∙ left _ _ (right _ _ h))
