-- The SUO is written, and past it the numbers, one after the other.
use mathlib.Core.Path.{◌≡◌, refl, ◌∙◌}
use Prim.Native.Nat.{◌≤◌}
use native.Mathlib.Omega.{arith}
use lib.ListN.{length}
use Rattle.codec.specs.Layout.{Shape, text, within, ◌⊗◌, Sized, enc, laid, width}
use Rattle.codec.specs.Rows.{total, widths, cells}
use Rattle.codec.proofs.Laws.{laid_is, splice_all, sized}
use Rattle.codec.proofs.Rows.{as_row}
use Rattle.build_bytes.specs.Layout.{batch_to}
use Rattle.build_bytes.specs.Bytes.{batch_bytes}
use Rattle.build_bytes.proofs.Fields.{numbers_shape, numbers_scalar}
use borrow.Author.Rules.{rules}
use Rattle.build_bytes.proofs.put_batch.Goals as goal

pub write_row-requires : goal.write_row-requires
unfolding total
write_row-requires c = (search rules, omega arith)

-- the numbers as one field past the SUO
abbrev shape : Shape
shape = text 128 ⊗ within numbers_shape

pub returns : goal.returns
unfolding batch_bytes enc laid width widths cells
returns c =
    let x = c.args.x in
    let t = c.args.b.now in
    let v = batch_to x in
    let m : 168 ≤ length t = omega (arith, c.requires) in
    let n : length x.suo ≡ 128 = search rules in
    let z : Sized shape v = (n, sized numbers_shape numbers_scalar v.1) in
    let numbers = as_row numbers_shape numbers_scalar v.1 _ _ _ _ _ refl refl c.write_row.ensures in
    rw (numbers, c.write_bytes.ensures)
    (laid_is shape v z 0 t m ∙ splice_all shape v z t c.requires)
