-- The characters fill the block on its way, then whole ones, and what is left joins the next.
use Rattle.std.proofs.Common.{◌+◌, ◌-◌, ◌%◌, ◌^◌, refl, ◌∙◌, arith, rules}
use Rattle.digest.proofs.Blocks.{fed_few, fed_head, fed_block, fed_rest}
use Rattle.digest.proofs.fed.Goals as goal

pub returns-in_default : goal.returns-in_default
returns-in_default c =
    fed_few _ c.args.s c.args.bytes.now (search rules) c.in_default.ensures.cases c.packed.ensures refl

pub loop-block-init : goal.loop-block-init
loop-block-init c =
    let s = c.args.s in
    let d = c.in-Some.ensures.cases in (
      (s.n + (8 - s.n % 8)) % 2 ^ 64,
      omega arith,
      omega arith,
      omega (arith, d.4),
      c.between-y.type_inv,
      fed_head _ _ s c.args.bytes.now _ _ _ d.0 refl d.1 d.2
          (c.between-y.ensures ∙ rw (c.first.ensures, c.packed-2.ensures)),
    )

pub loop-block-preserved : goal.loop-block-preserved
loop-block-preserved c =
    let v = c.loop-block.invariant in
    let d = c.in-Some-split_first_chunk.ensures.cases in (
      (v.0 + 8) % 2 ^ 64,
      omega arith,
      omega (arith, v.2),
      omega (arith, v.3, d.2),
      c.between-y-in-Some-split_first_chunk.type_inv,
      fed_block _ _ _ v.0 c.loop-block.rest.now _ _ v.4 v.2 (omega (arith, d.2)) d.0 d.1
          (c.between-y-in-Some-split_first_chunk.ensures
          ∙ rw (c.first-in-Some-split_first_chunk.ensures, c.packed-in-Some-split_first_chunk.ensures))
          ∙ v.5,
    )

pub returns : goal.returns
returns c =
    let v = c.loop-block.invariant in
    fed_rest _ _ _ v.0 c.loop-block.rest.now v.1 v.2 (search rules)
    c.last.ensures c.packed-3.ensures v.3
    ∙ v.5
