-- The checks are made in their order.
use mathlib.Core.Path.{refl, sym, ap, ap₂, ◌∙◌}
use Prim.Native.Nat.{ℕ}
use mathlib.Core.List.{List}
use Rattle.calendar.specs.Dates.{is_before}
use Rattle.calendar.specs.Banking.{too_old}
use Rattle.calendar.specs.declared.Date.{Date}
use Rattle.acceptance.specs.Stamps.{holds_stamp}
use Rattle.message.specs.Order.{first_failing}
use Rattle.checks.specs.Checks.{stamp_checks}
use Rattle.checks.proofs.Order.{made, more}
use Rattle.checks.proofs.stamp_faults.Goals as goal

pub returns : goal.returns
unfolding stamp_checks
returns c t e =
    let a = c.args in
    let d = c.date-date.ensures in
    c.first_failing.ensures
    ∙ ap first_failing
    (more
    (made c.new.ensures (c.is_too_old.ensures ∙ ap₂ (λ (h : List ℕ) (x : Date). too_old h x a.today) (sym e) d))
    (more (made c.new-2.ensures (c.before-2.ensures ∙ ap (is_before a.today) d))
    (more (made c.new-3.ensures (c.holds_stamp.ensures ∙ ap (holds_stamp a.c) c.stamp.ensures)) refl)))
