-- What is read of a table by value: its holidays are those that are lent, and past the last customer stands nobody.
-- Assumes nothing.
use Rattle.std.specs.Prelude.{None, Option, Some, is_some, not}
use mathlib.Core.Path.{◌≡◌, refl, sym, ap, ap₂, ◌∙◌}
use mathlib.Core.Bool.{Bool, true, false}
use mathlib.Core.List.{List, ◌++◌}
use Prim.Native.Nat.{ℕ, ◌+◌, ◌≤◌}
use native.Mathlib.Omega.{arith}
use borrow.Author.Tests.{eqb-true, eqb-false}
use lib.Dec.{eqb}
use lib.ListN.{length, take, replicate, length-append, get_or-eq_default}
use lib.Seq.{take-take, take_at, length-take-le}
use Rattle.customer.specs.declared.Customer.{Customer}
use Rattle.table.specs.Table.{Table, place_of, nobody, customer_in, is_unknown}
use Rattle.table.specs.Named.{customer_at, named}
use Rattle.table.specs.Written.{table_size, holidays_start}
use Rattle.table.specs.Decode.{table_of, holiday_count}
use Rattle.table.specs.Stored.{holidays_of}
use Rattle.table.specs.declared.Holidays.{Holidays}
use Rattle.table.proofs.Decode.{table_sized, table_other}
use Rattle.table.proofs.Turns.{dates_length}

few_holidays : (b : List ℕ) → length (table_of b).holidays ≤ 200
few_holidays b = by (eqb (length b) table_size) refl
  where
    by : (t : Bool) → eqb (length b) table_size ≡ t → length (table_of b).holidays ≤ 200
    by true p =
        omega (
          arith,
          ap (λ (t : Table). length t.holidays) (table_sized b (eqb-true _ _ p)),
          dates_length holidays_start
              (holiday_count b) b,
        )
    by false p = omega (arith, ap (λ (t : Table). length t.holidays) (table_other b (eqb-false _ _ p)))

module _ (b : List ℕ) (h : Holidays) (e : h ≡ holidays_of (table_of b)) where
  pub lent_room : h.count ≤ length h.dates
  unfolding holidays_of
  lent_room =
      let l : length ((table_of b).holidays ++ replicate 200 0) ≡ length (table_of b).holidays + 200 = length-append (table_of b).holidays
      (replicate 200 0) in
      omega (
        arith,
        ap (λ (x : Holidays). x.count) e,
        few_holidays b,
        ap (λ (x : Holidays). length x.dates) e,
        length-take-le 200 ((table_of b).holidays ++ replicate 200 0) (omega arith),
      )

  pub lent_dates : (table_of b).holidays ≡ take h.count h.dates
  unfolding holidays_of
  lent_dates =
      sym
      (ap₂ (λ (n : ℕ) (l : List ℕ). take n l) (ap (λ (x : Holidays). x.count) e) (ap (λ (x : Holidays). x.dates) e)
      ∙ take-take _ 200 _ (few_holidays b)
      ∙ take_at (table_of b).holidays (replicate 200 0) _ refl)

  pub lent_count : h.count ≡ length (take h.count h.dates)
  unfolding holidays_of
  lent_count = ap (λ (x : Holidays). x.count) e ∙ ap length lent_dates

-- a place that is none
pub none_found : (b : Bool) (f : Option ℕ) → is_some f ≡ not b → b ≡ is_unknown f
unfolding is_unknown
none_found true None e = refl
none_found false None e = e
none_found true (Some i) e = e
none_found false (Some i) e = refl
