-- What is left of the row, written past what was written, is the whole.
use mathlib.Core.Path.{sym, ◌∙◌}
use Prim.Native.Nat.{◌+◌}
use native.Mathlib.Omega.{arith}
use lib.ListN.{length, drop, length-append}
use Rattle.std.proofs.Common.{rules}
use Rattle.std.proofs.lemmas.Slice.Zip.{zip_turn, zip_end}
use Rattle.splices.specs.Bytes.{splice, bytes_of}
use Rattle.codec.specs.Rows.{fields}
use Rattle.codec.proofs.Rows.{total_turn, row_turn, row_end}
use Rattle.codec.proofs.write_row.Goals as goal

pub write_number-requires : goal.write_number-requires
write_number-requires c =
    let a = c.args in
    let l = c.loop-w in
    let z =
    zip_turn a.widths.now a.numbers.now l.yielded _ _ c.next.new.self _ (search rules) (search rules) l.yielded_by _ c.in-Some.is
    c.next.ensures.steps in
    let e = total_turn a.widths.now a.numbers.now (length l.yielded) z.0 c.requires.0 in
    omega (arith, l.invariant.0, l.invariant.1, c.requires.1, z.2 0, c.from-w.ensures)

pub loop-w-preserved : goal.loop-w-preserved
loop-w-preserved c =
    let a = c.args in
    let l = c.loop-w in
    let ws = a.widths.now in
    let xs = a.numbers.now in
    let z =
    zip_turn ws xs l.yielded _ _ c.next.new.self _ (search rules) (search rules) l.yielded_by _ c.in-Some.is
    c.next.ensures.steps in
    let i = length l.yielded in
    let e = total_turn ws xs i z.0 c.requires.0 in
    let w = c.write_number in
    let f = c.from-w.ensures ∙ z.2 0 in
    let g = z.3 0 in
    rw length-append (
      omega (arith, l.invariant.0, e, f),
      omega (arith, w.auto, l.invariant.1),
      (λ j. splice (l.p + f j) (fields (drop (i + 1) ws) (drop (i + 1) xs)) ((w.ensures ∙ (λ k. splice l.p (bytes_of (f k) (g k)) l.t)) j))
          ∙ sym (row_turn ws xs i z.0 c.requires.0 l.p l.t (omega (arith, l.invariant.0, l.invariant.1, c.requires.1)))
          ∙ l.invariant.2,
    )

pub returns : goal.returns
returns c =
    let a = c.args in
    let l = c.loop-w in
    let z =
    zip_end a.widths.now a.numbers.now l.yielded _ _ c.next.new.self _ (search rules) (search rules) l.yielded_by c.in-None.is
    c.next.ensures.steps in
    row_end a.widths.now a.numbers.now (length l.yielded) l.p l.t (omega (arith, z, c.requires.0)) ∙ l.invariant.2
