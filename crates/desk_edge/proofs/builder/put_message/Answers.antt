-- Only a served call writes: the message fills its room.
use mathlib.Core.Path.{◌≡◌, sym, ◌∙◌}
use borrow.Author.Tests.{eq-eqb, ne_eqb}
use lib.ListN.{length}
use Rattle.ground.proofs.Choices.{picks, skips}
use Rattle.desk_edge.specs.Builder.{text_after, sent_after}
use Rattle.desk_edge.proofs.Building.{copied}
use borrow.Author.Rules.{rules}
use Rattle.desk_edge.proofs.builder.put_message.Goals as goal

pub returns-then-x-eq0 : goal.returns-then-x-eq0
unfolding text_after sent_after
returns-then-x-eq0 c = let n = eq-eqb _ 0 c.if-x-eq0.true in
    let whole : length c.args.x.text ≡ 161 = search rules in
    record {
      writes = c.copy.ensures ∙ copied 161 _ _ whole c.requires ∙ sym (picks _ _ _ n);
      keeps = c.store_sent.ensures ∙ sym (picks _ _ _ n);
    }

pub returns-else-x-eq0 : goal.returns-else-x-eq0
unfolding text_after sent_after
returns-else-x-eq0 c = let n = ne_eqb _ 0 c.if-x-eq0.false in
    record {
      writes = sym (skips _ _ _ n);
      keeps = sym (skips _ _ _ n);
    }
