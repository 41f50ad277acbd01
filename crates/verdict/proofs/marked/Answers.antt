-- The dates that are lent are the table's holidays.
use Rattle.std.proofs.Common.{rules, ◌≡◌, length}
use native.Mathlib.Omega.{arith}
use mathlib.Core.Path.{sym, ap₂, ◌∙◌}
use Prim.Native.Nat.{ℕ}
use mathlib.Core.List.{List}
use Rattle.acceptance.specs.Stamps.{with_stamp}
use Rattle.checks.proofs.Tables.{lent_room, lent_dates}
use Rattle.verdict.proofs.marked.Goals as goal

pub shared_ref_as_front-holidays : goal.shared_ref_as_front-holidays
shared_ref_as_front-holidays c =
    let n : length c.holidays_in-all.result.dates ≡ 200 = search rules in
    omega (arith, lent_room _ _ c.holidays_in-all.ensures)

pub returns : goal.returns
returns c =
    let a = c.args in
    c.with_stamp.ensures
    ∙ ap₂ (λ (h : List ℕ) (s : ℕ). with_stamp h a.today a.c s a.once)
    (sym (lent_dates _ _ c.holidays_in-all.ensures)) c.stamp.ensures
