-- The count is that of the stamps that are not too old.
use mathlib.Core.Path.{refl, sym, ap, ◌∙◌}
use mathlib.Core.List.{List}
use Prim.Native.Nat.{ℕ}
use lib.Dec.{leb}
use lib.ListN.{length}
use Rattle.acceptance.specs.Stamps.{live_stamps}
use Rattle.message.specs.Order.{first_failing}
use Rattle.checks.specs.Checks.{room_checks}
use Rattle.checks.proofs.Order.{made, more}
use Rattle.checks.proofs.room_faults.Goals as goal

pub returns : goal.returns
unfolding room_checks
returns c t e =
    let a = c.args in
    c.first_failing.ensures
    ∙ ap first_failing
    (more
    (made c.new.ensures
    (ap (leb 64) (c.live_count.ensures ∙ ap (λ (h : List ℕ). length (live_stamps h a.today a.c)) (sym e)))) refl)
