-- The length, the two keys before, and what the desk is.
use mathlib.Core.Path.{sym, ap, ◌∙◌}
use mathlib.Core.List.{List}
use Prim.Native.Nat.{ℕ}
use Rattle.ground.proofs.Bools.{later, passed, past, refused, stop}
use Rattle.desk_bytes.specs.Bytes.{sound_held}
use Rattle.desk_bytes.proofs.Tests.{wrong_length, by_tests}
use Rattle.desk_bytes.proofs.is_held.Lts as lts
use Rattle.desk_bytes.proofs.is_held.Reads as reads
use Rattle.desk_bytes.proofs.is_held.Tie as tie
use Rattle.desk_bytes.proofs.is_held.Goals as goal

abbrev Else1 : Type 0
Else1 = lts.Else1 tie.the-claims reads.Pre reads.Post

pub returns-then-b-ne-HELD : goal.returns-then-b-ne-HELD
returns-then-b-ne-HELD c = wrong_length c.args.b.now c.if-b-ne-HELD.true

abbrev bytes : Else1 → List ℕ
bytes c = c.args.b.now

pub returns-then-not-is_exact_before : goal.returns-then-not-is_exact_before
returns-then-not-is_exact_before c =
    stop _ _ (refused c.is_exact_before.ensures c.if-not-is_exact_before.true-raw)
    ∙ sym (by_tests (bytes c.before.before.before) c.if-b-ne-HELD.false (λ k. (c.type_inv.b k).fits))

pub returns-then-not-is_exact_before-2 : goal.returns-then-not-is_exact_before-2
returns-then-not-is_exact_before-2 c =
    later _ _ (stop _ _ (refused c.is_exact_before-2.ensures c.if-not-is_exact_before-2.true-raw))
    ∙ sym (by_tests (bytes c.before.before.before.before.before) c.if-b-ne-HELD.false (λ k. (c.type_inv.b k).fits))

pub returns : goal.returns
returns c =
    past _ _ _ (passed c.is_exact_before.ensures c.if-not-is_exact_before.false-raw)
    (past _ _ _ (passed c.is_exact_before-2.ensures c.if-not-is_exact_before-2.false-raw)
    (c.is_sound_held.ensures ∙ ap sound_held c.held_in.ensures))
    ∙ sym (by_tests (bytes c.before.before.before.before.before.before.before) c.if-b-ne-HELD.false (λ k. (c.type_inv.b k).fits))
