-- Banking days up to a day grow in number as one goes back from it, so that one search back finds the first day that is not too old.
-- Assumes nothing.
use mathlib.Core.Path.{◌≡◌, sym, ap, ◌∙◌}
use mathlib.Core.Bool.{Bool, true, false}
use mathlib.Core.List.{List}
use mathlib.Core.Logic.{⊎_elim}
use Prim.Native.Nat.{ℕ, zero, suc, ◌+◌, ◌-◌, ◌≤◌, ◌<◌}
use native.Mathlib.Omega.{arith}
use borrow.Author.Tests.{ltb-true, ltb-false, lt-ltb, le-ltb}
use lib.Dec.{ltb}
use Rattle.ground.specs.Choice.{one, pick}
use Rattle.ground.proofs.Choices.{picks, skips}
use Rattle.ground.proofs.Numbers.{below}
use Rattle.calendar.specs.Dates.{real_date, is_before, day_number, date_of}
use Rattle.calendar.specs.Banking.{banking_day, banking_among, banking_days_after, too_old, first_good, earliest_good}
use Rattle.calendar.specs.declared.Date.{Date}
use Rattle.calendar.proofs.Days.{day_number-lt, day_of_date, date_real, earlier_days, not_earlier}

module _ (hs : List ℕ) where
  -- the banking days after day k, up to day t
  abbrev pub up_to : ℕ → ℕ → ℕ
  up_to t k = banking_among hs k (t - k)

  pub up_step : (t k : ℕ) → k < t → up_to t k ≡ one (banking_day hs (k + 1)) + up_to t (k + 1)
  unfolding banking_among
  up_step t k h = let s : t - k ≡ suc (t - (k + 1)) = omega arith in rw s

  -- a day back there is one more where the day left is a banking day
  pub up_by : (t k : ℕ) (b : Bool) → k < t → banking_day hs (k + 1) ≡ b → up_to t k ≡ one b + up_to t (k + 1)
  up_by t k b h e = rw e at (up_step t k h)

  pub up_back : (t k : ℕ) (b : Bool) → 0 < k → k ≤ t → banking_day hs k ≡ b → up_to t (k - 1) ≡ one b + up_to t k
  up_back t k b p h e =
      let s : k - 1 + 1 ≡ k = omega arith in rw s at (up_by t (k - 1) b (omega arith) (rw s e))

  pub up_none : (t k : ℕ) → t ≤ k → up_to t k ≡ 0
  unfolding banking_among
  up_none t k h = let s : t - k ≡ zero = omega arith in rw s

  -- the same, as the loops count
  pub up_one : (t k : ℕ) → k < t → banking_day hs (k + 1) ≡ true → up_to t k ≡ 1 + up_to t (k + 1)
  unfolding one
  up_one t k h e = up_by t k true h e

  pub up_same : (t k : ℕ) → k < t → banking_day hs (k + 1) ≡ false → up_to t k ≡ up_to t (k + 1)
  unfolding one
  up_same t k h e = omega (arith, up_by t k false h e)

  pub back_one : (t k : ℕ) → 0 < k → k ≤ t → banking_day hs k ≡ true → up_to t (k - 1) ≡ 1 + up_to t k
  unfolding one
  back_one t k p h e = up_back t k true p h e

  pub back_same : (t k : ℕ) → 0 < k → k ≤ t → banking_day hs k ≡ false → up_to t (k - 1) ≡ up_to t k
  unfolding one
  back_same t k p h e = omega (arith, up_back t k false p h e)

  among_more : (n k j : ℕ) → banking_among hs k n ≤ banking_among hs k (n + j)
  unfolding banking_among
  among_more zero k j = omega arith
  among_more (suc n) k j =
      let s : suc n + j ≡ suc (n + j) = omega arith in rw s (omega (arith, among_more n (k + 1) j))

  falls_by : (t j k : ℕ) → up_to t (k + j) ≤ up_to t k
  falls_by t zero k = let s : k + zero ≡ k = omega arith in rw s (omega arith)
  falls_by t (suc j) k =
      let s : k + suc j ≡ k + 1 + j = omega arith in
      rw s
      (⊎_elim (λ h. omega (arith, up_step t k h, falls_by t j (k + 1)))
      (λ h. omega (arith, up_none t (k + 1 + j) (omega arith)))
      (below k t))

  falls : (t j k : ℕ) → j ≤ k → up_to t k ≤ up_to t j
  falls t j k h = let s : j + (k - j) ≡ k = omega arith in rw s at (falls_by t (k - j) j)

  -- what the search from k on finds: a day that is not too old, with only days before it that are
  finds : (t n k : ℕ) → k + n ≡ t
      → (up_to t (first_good hs t k n) ≤ 5) × (k ≤ first_good hs t k n) × (first_good hs t k n ≤ t)
      × ((j : ℕ) → k ≤ j → j < first_good hs t k n → 5 < up_to t j)
  unfolding first_good
  finds t zero k h =
      (omega (arith, up_none t k (omega arith)), omega arith, omega arith, λ j p q. absurd (omega arith))
  finds t (suc n) k h =
      ⊎_elim (λ l.
      let f = finds t n (k + 1) (omega arith) in
      let s : pick (ltb 5 (up_to t k)) (first_good hs t (k + 1) n) k ≡ first_good hs t (k + 1) n = picks _ _ _ (lt-ltb 5 (up_to t k) l) in
      rw s (
        f.0,
        omega (arith, f.1),
        f.2,
        λ j p q. ⊎_elim (λ i. f.3 j (omega arith) q) (λ i. let e : j ≡ k = omega arith in rw e l)
            (below k j),
      ))
      (λ l.
      let s : pick (ltb 5 (up_to t k)) (first_good hs t (k + 1) n) k ≡ k = skips _ _ _ (le-ltb 5 (up_to t k) l) in
      rw s (l, omega arith, omega arith, λ j p q. absurd (omega arith)))
      (below 5 (up_to t k))

  abbrev first : ℕ → ℕ
  first t = first_good hs t 0 t

  first-le : (t : ℕ) → first t ≤ t
  first-le t = (finds t t 0 (omega arith)).2

  -- a day is too old where it comes before the first good one
  pub splits : (t k : ℕ) → ltb 5 (up_to t k) ≡ ltb k (first t)
  splits t k =
      let f = finds t t 0 (omega arith) in
      ⊎_elim (λ h. lt-ltb 5 (up_to t k) (f.3 k (omega arith) h) ∙ sym (lt-ltb k (first t) h))
      (λ h. le-ltb 5 (up_to t k) (omega (arith, f.0, falls t (first t) k h)) ∙ sym (le-ltb k (first t) h))
      (below k (first t))

  -- a day with five banking days after it that is a sixth itself is the first good one, and so is day 0 if it is good
  pub first_is : (t k : ℕ) → 0 < k → k ≤ t → up_to t k ≡ 5 → banking_day hs k ≡ true → first_good hs t 0 t ≡ k
  unfolding one
  first_is t k p l f e =
      let q : up_to t (k - 1) ≡ 1 + up_to t k = up_back t k true p l e in
      let a : k - 1 < first t = ltb-true (k - 1) (first t) (sym (splits t (k - 1)) ∙ lt-ltb 5 (up_to t (k - 1)) (omega arith)) in
      let b : first t ≤ k = ltb-false k (first t) (sym (splits t k) ∙ le-ltb 5 (up_to t k) (omega arith)) in
      omega arith

  pub first-zero : (t : ℕ) → up_to t 0 ≤ 5 → first_good hs t 0 t ≡ 0
  first-zero t p =
      let b : first t ≤ 0 = ltb-false 0 (first t) (sym (splits t 0) ∙ le-ltb 5 (up_to t 0) p) in omega arith

  -- a date is too old where a sixth banking day lies after it, and else not
  pub six_after : (s t : Date) → 5 < up_to (day_number t.yymmdd) (day_number s.yymmdd) → too_old hs s t ≡ true
  unfolding too_old banking_days_after
  six_after s t h = lt-ltb 5 _ h

  pub few_after : (s t : Date) → up_to (day_number t.yymmdd) (day_number s.yymmdd) ≤ 5 → too_old hs s t ≡ false
  unfolding too_old banking_days_after
  few_after s t h = le-ltb 5 _ h

  pub old_by_days : (s t : Date)
      → too_old hs s t ≡ ltb (day_number s.yymmdd) (first_good hs (day_number t.yymmdd) 0 (day_number t.yymmdd))
  unfolding too_old banking_days_after
  old_by_days s t = splits (day_number t.yymmdd) (day_number s.yymmdd)

-- ---- stamps that are too old

up_more : (hs : List ℕ) (s t u : ℕ) → t ≤ u → ltb 5 (up_to hs t s) ≡ true → ltb 5 (up_to hs u s) ≡ true
up_more hs s t u l o =
    let a : t - s + (u - s - (t - s)) ≡ u - s = omega arith in
    lt-ltb 5 (up_to hs u s)
    (omega (arith, ltb-true 5 (up_to hs t s) o, rw a at (among_more hs (t - s) s (u - s - (t - s)))))

-- what is too old stays too old
pub too_old_stays : (hs : List ℕ) (s t u : Date) → real_date t.yymmdd ≡ true → real_date u.yymmdd ≡ true
    → is_before u t ≡ false → too_old hs s t ≡ true → too_old hs s u ≡ true
unfolding too_old banking_days_after
too_old_stays hs s t u r q h o =
    up_more hs (day_number s.yymmdd) (day_number t.yymmdd) (day_number u.yymmdd) (not_earlier u.yymmdd t.yymmdd q r h) o

-- a stamp of today or of a day after today is not too old
pub ahead_not_old : (hs : List ℕ) (s t : Date) → real_date s.yymmdd ≡ true → real_date t.yymmdd ≡ true
    → is_before s t ≡ false → too_old hs s t ≡ false
unfolding too_old banking_days_after
ahead_not_old hs s t r q h =
    let j : ℕ = day_number s.yymmdd in
    let k : ℕ = day_number t.yymmdd in
    le-ltb 5 (up_to hs k j) (omega (arith, up_none hs k j (not_earlier s.yymmdd t.yymmdd r q h)))

-- one date answers for every stamp
pub too_old_earliest : (hs : List ℕ) (s t : Date) → real_date s.yymmdd ≡ true → real_date t.yymmdd ≡ true
    → too_old hs s t ≡ is_before s (earliest_good hs t)
unfolding earliest_good
too_old_earliest hs s t r q =
    let k = first hs (day_number t.yymmdd) in
    let l : k < 36525 = omega (arith, first-le hs (day_number t.yymmdd), day_number-lt t.yymmdd q) in
    old_by_days hs s t
    ∙ sym (earlier_days s.yymmdd (date_of k) r (date_real k) ∙ ap (ltb (day_number s.yymmdd)) (day_of_date k l))

pub ruleset ahead = (up_one, up_same, up_none, six_after, few_after)

pub ruleset back = (back_one, back_same, up_none, first_is, first-zero)
