-- The fields before the one that is asked for are passed; of one that no message of a customer has there is nothing.
use mathlib.Core.Path.{◌≡◌, sym, subst, ap, ap₂, ◌∙◌}
use mathlib.Core.List.{List}
use Prim.Native.Nat.{ℕ, ◌≤◌, min}
use native.Mathlib.Omega.{arith}
use borrow.Author.Tests.{ne_eqb}
use lib.Dec.{eqb}
use lib.ListN.{length, take, length-take}
use lib.Seq.{length-take-le}
use Rattle.ground.proofs.Parts.{take_kept, kept-length}
use Rattle.message.specs.Layout.{field_text}
use Rattle.message.specs.Contents.{contents_as}
use Rattle.message.proofs.Places.{Past, past_start, past_more, none_past, placed}
use borrow.Author.Rules.{rules}
use Rattle.message.proofs.field_contents.Lts as lts
use Rattle.message.proofs.field_contents.Reads as reads
use Rattle.message.proofs.field_contents.Tie as tie
use Rattle.message.proofs.field_contents.Goals as goal

abbrev Start : Type 0
Start = lts.Start tie.the-claims reads.Pre reads.Post goal.the-invariant-loop-i goal.the-decreases-loop-i

sized : (c : Start) → length c.args.m ≡ 161
sized c = search rules

-- the first characters, as many as there are of them
kept : (n count : ℕ) (m : List ℕ) → n ≡ min count 161 → length m ≡ 161 → take n m ≡ take count m
kept n count m e h = ap (λ (k : ℕ). take k m) (e ∙ sym (kept-length count 161 m h)) ∙ take_kept count m

pub loop-i-init : goal.loop-i-init
loop-i-init c = (omega arith, past_start _)

pub slice_bounds-m-end : goal.slice_bounds-m-end
slice_bounds-m-end c = omega (arith, sized c.before.before.before.before.before, c.min-n.ensures)

pub slice_bounds-span-end : goal.slice_bounds-span-end
slice_bounds-span-end c = sym (length-take-le _ _ (slice_bounds-m-end c.before))

pub span-requires : goal.span-requires
span-requires c = (omega arith, omega arith)

pub returns-then-number_of-number : goal.returns-then-number_of-number
returns-then-number_of-number c =
    c.contents_of.ensures
    ∙ ap contents_as
    (c.span.ensures
    ∙ placed c.loop-i.i (take c.min-n.result c.args.m) c.loop-i-test.true
    ∙ ap₂ field_text (sym c.number_of.ensures ∙ c.if-number_of-number.true)
    (kept c.min-n.result c.args.count c.args.m c.min-n.ensures (sized c.before.before.before.before.before.before.before.before)))

pub loop-i-preserved : goal.loop-i-preserved
loop-i-preserved c =
    let n = c.args.number in (
      omega arith,
      past_more n c.loop-i.i c.loop-i-test.true
          (ap (λ (k : ℕ). eqb k n) (sym c.number_of.ensures) ∙ ne_eqb _ _ c.if-number_of-number.false) c.loop-i.invariant.1,
    )

pub returns : goal.returns
returns c =
    let a = c.args in
    let e : c.loop-i.i ≡ 22 = omega (arith, c.loop-i.invariant.0, c.loop-i-test.false) in
    let short : length (take a.count a.m) ≤ 161 = omega (arith, length-take a.count a.m, sized c.before.before.before.before) in
    c.no_contents.ensures
    ∙ ap contents_as
    (sym (none_past a.number (take a.count a.m) short (subst (λ (k : ℕ). Past a.number k) e c.loop-i.invariant.1)))
