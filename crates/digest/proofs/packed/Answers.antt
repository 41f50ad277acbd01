-- The block so far with the characters that are left is the block with all of them.
use Rattle.std.proofs.Common.{ℕ, map, drop, ap, ◌+◌, ◌∙◌, rules}
use Rattle.text.specs.Characters.{internal}
use Rattle.digest.specs.Running.{pushed_all}
use Rattle.digest.proofs.Folds.{shifted}
use Rattle.digest.proofs.Blocks.{packed_next}
use Rattle.digest.proofs.packed.Goals as goal

pub loop-b-preserved : goal.loop-b-preserved
loop-b-preserved c =
    ap (λ (x : ℕ). pushed_all x (map internal (drop (c.loop-b.b-index + 1) c.args.bytes.now)))
    (shifted _ _ _ (c.from.ensures ∙ c.internal_code.ensures) (search rules))
    ∙ packed_next _ _ _ c.loop-b-test.true
    ∙ c.loop-b.invariant
