-- What is left of the dates decides.
use Rattle.std.proofs.Common.{rules, ℕ, ◌-◌, ◌+◌, ◌≡◌, ◌<◌, length, get_or, drop}
use mathlib.Core.Path.{sym, ap, ap₂, ◌∙◌}
use native.Mathlib.Omega.{arith}
use Rattle.std.specs.Slice.Iter.{windows_rest}
use Rattle.std.proofs.lemmas.Iterator.{window_more}
use Rattle.calendar.specs.Dates.{earlier}
use Rattle.table.specs.Table.{rising}
use Rattle.refusals.proofs.Dates.{rising_stop, rising_more, rising_done}
use Rattle.ground.proofs.Bools.{passed, refused}
use Rattle.refusals.proofs.are_rising.Goals as goal

pub returns-then-not-before : goal.returns-then-not-before
returns-then-not-before c =
    let l = c.args.dates.now in
    let p = c.loop-w.invariant in
    let h = window_more l c.loop-w.w-iterator c.next.new.self _ _ c.in-Some.is c.next.ensures.steps (search rules) (search rules) (search rules) in
    let i = length l - length (windows_rest c.loop-w.w-iterator) in
    let z : i + 0 ≡ i = omega arith in
    rising_stop l i (omega arith) (p.3 ∙ ap rising p.2)
    (ap₂ (λ (x y : ℕ). earlier x y) (ap (λ (n : ℕ). get_or l n 0) (sym z) ∙ sym (h.3 0 0 (search rules))) (sym (h.3 1 0 (search rules)))
    ∙ refused c.before-in-loop-w.ensures c.if-not-before.true-raw)

pub loop-w-preserved : goal.loop-w-preserved
loop-w-preserved c =
    let l = c.args.dates.now in
    let p = c.loop-w.invariant in
    let h = window_more l c.loop-w.w-iterator c.next.new.self _ _ c.in-Some.is c.next.ensures.steps (search rules) (search rules) (search rules) in
    let i = length l - length (windows_rest c.loop-w.w-iterator) in
    let z : i + 0 ≡ i = omega arith in
    let next : i + 1 ≡ length l - length (windows_rest c.next.new.self) = omega (arith, h.0, h.2, p.0, p.1) in (
      search rules,
      omega (arith, h.0, p.1),
      h.1,
      rising_more l i (omega arith) (p.3 ∙ ap rising p.2)
          (ap₂ (λ (x y : ℕ). earlier x y) (ap (λ (n : ℕ). get_or l n 0) (sym z) ∙ sym (h.3 0 0 (search rules))) (sym (h.3 1 0 (search rules)))
          ∙ passed c.before-in-loop-w.ensures c.if-not-before.false-raw)
          ∙ ap rising (ap (λ (n : ℕ). drop n l) next ∙ sym h.1),
    )

pub returns : goal.returns
returns c =
    let l = c.args.dates.now in
    let p = c.loop-w.invariant in
    let short : length (windows_rest c.loop-w.w-iterator) < 2 = search rules in
    rising_done l (length l - length (windows_rest c.loop-w.w-iterator)) (omega (arith, short, p.1)) (p.3 ∙ ap rising p.2)
