-- The checks are made in their order.
use Rattle.std.specs.Prelude.{Option}
use mathlib.Core.Path.{refl, sym, ap, ap₂, ◌∙◌}
use Prim.Native.Nat.{ℕ}
use mathlib.Core.List.{List}
use Rattle.ground.specs.Choice.{either, fails}
use Rattle.ground.proofs.Bools.{turned}
use Rattle.calendar.specs.declared.Date.{Date}
use Rattle.keys.specs.Parity.{odd_parity}
use Rattle.changeover.specs.Held.{held_key, good_for}
use Rattle.acceptance.specs.Stamps.{once_used}
use Rattle.message.specs.Order.{first_failing}
use Rattle.checks.specs.Checks.{is_missing, checksum_differs, digest_differs, key_checks}
use Rattle.checks.proofs.Order.{made, more}
use Rattle.checks.proofs.key_faults.Goals as goal

pub returns : goal.returns
unfolding key_checks
returns c t e =
    let a = c.args in
    let d = c.date-date.ensures in
    let g = c.working_generation-working.ensures in
    let n = c.key_or_0-once.ensures in
    c.first_failing.ensures
    ∙ ap first_failing
    (more
    (made c.new.ensures
    (c.is_key_refused.ensures
    ∙ ap₂ (λ (x : ℕ) (y : Date). either (is_missing a.f.once) (fails (good_for a.c.transport x y)))
    c.transport_generation-transport.ensures d))
    (more (made c.new-2.ensures (turned (c.is_good_for.ensures ∙ ap₂ (good_for a.c.working) g d)))
    (more
    (made c.new-3.ensures
    (c.is_once_used.ensures ∙ ap₂ (λ (h : List ℕ) (k : ℕ). once_used h a.today a.c k) (sym e) n))
    (more (made c.new-4.ensures (turned (c.has_odd_parity.ensures ∙ ap odd_parity n)))
    (more (made c.new-5.ensures (c.digest_differs.ensures ∙ ap (digest_differs a.f.digest) c.digest_field-digest.ensures))
    (more
    (made c.new-6.ensures
    (c.checksum_differs.ensures
    ∙ ap (λ (k : Option ℕ). checksum_differs k a.f.var.text) (c.held-key.ensures ∙ ap (held_key a.c.working) g))) refl))))))
