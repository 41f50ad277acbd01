-- The fields are written one after the other.
use mathlib.Core.Path.{◌≡◌, refl, ◌∙◌}
use Prim.Native.Nat.{◌≤◌}
use native.Mathlib.Omega.{arith}
use lib.ListN.{length}
use Rattle.codec.specs.Layout.{Sized, laid, width}
use Rattle.codec.specs.Rows.{total, widths}
use Rattle.codec.proofs.Laws.{laid_is, splice_all, sized}
use Rattle.codec.proofs.Rows.{as_row}
use Rattle.desk_bytes.specs.Layout.{keys_shape, held_shape, keys_to, held_to}
use Rattle.desk_bytes.specs.Bytes.{held_bytes}
use Rattle.desk_bytes.proofs.Fields.{keys_scalar}
use borrow.Author.Rules.{rules}
use Rattle.desk_bytes.proofs.put_held.Goals as goal

pub write_row-requires : goal.write_row-requires
unfolding total
write_row-requires c = (search rules, omega arith)

pub write_row-requires-2 : goal.write_row-requires-2
unfolding total
write_row-requires-2 c = (search rules, omega arith)

pub returns : goal.returns
unfolding held_bytes laid width widths
returns c =
    let h = c.args.h in
    let t = c.args.b.now in
    let m : 88 ≤ length t = omega (arith, c.requires) in
    let n : length h.own ≡ 25 = search rules in
    let p : length h.bank ≡ 25 = search rules in
    let z : Sized held_shape (held_to h) = (
      n,
      (p, (sized keys_shape keys_scalar (keys_to h.transport), sized keys_shape keys_scalar (keys_to h.working))),
    ) in
    let transport = as_row keys_shape keys_scalar (keys_to h.transport) _ _ _ _ _ refl c.keys_row-transport.ensures
    c.write_row.ensures in
    let working = as_row keys_shape keys_scalar (keys_to h.working) _ _ _ _ _ refl c.keys_row-working.ensures
    c.write_row-2.ensures in
    rw (working, transport, c.write_bytes-2.ensures, c.write_bytes.ensures)
    (laid_is held_shape (held_to h) z 0 t m ∙ splice_all held_shape (held_to h) z t c.requires)
