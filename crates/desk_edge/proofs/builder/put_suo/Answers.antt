-- Only a served call writes: the SUO fills its room.
use mathlib.Core.Path.{◌≡◌, sym, ◌∙◌}
use borrow.Author.Tests.{eq-eqb, ne_eqb}
use lib.ListN.{length}
use Rattle.ground.proofs.Choices.{picks, skips}
use Rattle.desk_edge.specs.Builder.{suo_text_after, batch_after}
use Rattle.desk_edge.proofs.Building.{copied}
use borrow.Author.Rules.{rules}
use Rattle.desk_edge.proofs.builder.put_suo.Goals as goal

pub returns-then-built-eq0 : goal.returns-then-built-eq0
unfolding suo_text_after batch_after
returns-then-built-eq0 c = let n = eq-eqb _ 0 c.if-built-eq0.true in
    let whole : length c.args.built.batch.suo ≡ 128 = search rules in
    record {
      writes = c.copy.ensures ∙ copied 128 _ _ whole c.requires ∙ sym (picks _ _ _ n);
      keeps = c.store_batch.ensures ∙ sym (picks _ _ _ n);
    }

pub returns-else-built-eq0 : goal.returns-else-built-eq0
unfolding suo_text_after batch_after
returns-else-built-eq0 c = let n = ne_eqb _ 0 c.if-built-eq0.false in
    record {
      writes = sym (skips _ _ _ n);
      keeps = sym (skips _ _ _ n);
    }
