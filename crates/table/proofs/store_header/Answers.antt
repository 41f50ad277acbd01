-- The header's numbers are written one after the other.
use mathlib.Core.Bool.{true}
use mathlib.Core.Path.{◌≡◌, refl, ap, ◌∙◌}
use Prim.Native.Nat.{ℕ, ◌+◌, ◌*◌}
use native.Mathlib.Omega.{arith}
use Rattle.ground.specs.Choice.{both}
use Rattle.splices.specs.Bytes.{splice}
use Rattle.codec.specs.Layout.{Value, scalar, laid, enc, width}
use Rattle.codec.proofs.Laws.{laid_is, sized}
use Rattle.table.specs.Written.{total_length, header_shape}
use Rattle.table.proofs.store_header.Goals as goal

header-scalar : scalar header_shape ≡ true
unfolding both
header-scalar = refl

abbrev header : (total day holidays : ℕ) → Value header_shape
header total day holidays = (total, (day, (holidays, (82, (0, 82 + 4 * holidays)))))

pub returns : goal.returns
unfolding laid enc width
returns c =
    let a = c.args in
    let v = header (82 + 4 * a.holidays) a.day a.holidays in
    let e : 82 + 4 * a.holidays ≡ total_length a.holidays 0 = omega arith in
    rw (
      c.write4-6.ensures,
      c.write4-5.ensures,
      c.write4-4.ensures,
      c.write4-3.ensures,
      c.write4-2.ensures,
      c.write4.ensures,
    )
    (laid_is header_shape v (sized header_shape header-scalar v) 0 a.t.now (omega arith)
    ∙ ap (λ (n : ℕ). splice 0 (enc header_shape (header n a.day a.holidays)) a.t.now) e)
