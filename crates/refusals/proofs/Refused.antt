-- Of a list of refusals the first that holds is given, and past those that do not the rest decides.
-- Assumes nothing.
use mathlib.Core.Path.{◌≡◌, refl, sym, ◌∙◌}
use mathlib.Core.List.{List, [], ◌∷◌}
use mathlib.Core.Bool.{Bool, true, false}
use Prim.Native.Nat.{ℕ}
use native.Mathlib.Omega.{arith}
use borrow.Author.Tests.{ltb-true}
use lib.Dec.{ltb}
use Rattle.ground.specs.First.{first_that}
use Rattle.ground.proofs.Choices.{fails-false}
use Rattle.ground.proofs.First.{first_here, first_later}
use Rattle.ground.proofs.Bools.{neither}
use Rattle.calendar.specs.Dates.{dated, real_date, is_before}
use Rattle.calendar.specs.declared.Date.{Date}
use Rattle.table.specs.Decode.{table_of, is_table}
use Rattle.refusals.specs.Refusals.{Refusal, refusal, lowest, no_table, bad_day}

-- ---- the walk

pub lowest_first : (r : Refusal) (rs : List Refusal) → r.holds ≡ true → lowest (r ∷ rs) ≡ r.number
unfolding lowest
lowest_first r rs h = first_here _ _ _ r rs h

pub lowest_next : (r : Refusal) (rs : List Refusal) → r.holds ≡ false → lowest (r ∷ rs) ≡ lowest rs
unfolding lowest
lowest_next r rs h = first_later _ _ _ r rs h

pub none_left : 0 ≡ lowest []
unfolding lowest first_that
none_left = refl

-- where none is given, none holds
pub served : (n : ℕ) (h : Bool) (rs : List Refusal) → ltb 0 n ≡ true → lowest (refusal n h ∷ rs) ≡ 0 → (h ≡ false) × (lowest rs ≡ 0)
served n true rs z e = let k : n ≡ 0 = sym (lowest_first (refusal n true) rs refl) ∙ e in absurd (omega (arith, ltb-true 0 n z))
served n false rs z e = (refl, sym (lowest_next (refusal n false) rs refl) ∙ e)

-- ---- what every call but setting up asks first

pub record Open (b : List ℕ) (today : Date) (rs : List Refusal) : Type 0 where
  pub table : is_table b ≡ true
  pub real : real_date today.yymmdd ≡ true
  pub day : is_before today (dated (table_of b).day) ≡ false
  pub rest : lowest rs ≡ 0

pub opened : (b : List ℕ) (today : Date) (rs : List Refusal)
    → lowest (refusal 2 (no_table b) ∷ refusal 4 (bad_day (table_of b) today) ∷ rs) ≡ 0 → Open b today rs
unfolding no_table bad_day
opened b today rs z =
    let s = served 2 _ _ refl z in
    let d = served 4 _ _ refl s.1 in
    let n = neither _ _ d.0 in
    record {
      table = fails-false _ s.0;
      real = fails-false _ n.0;
      day = n.1;
      rest = d.1;
    }
