-- A call that can't be served changes nothing; else the values are those of the desk that the bytes say.
use mathlib.Core.Path.{sym, ap, ◌∙◌}
use borrow.Author.Tests.{eqb-true}
use Rattle.ground.proofs.Bools.{passed, refused}
use Rattle.ground.proofs.Choices.{right, picks, skips}
use Rattle.desk_edge.specs.Calls.{values_of, are_told}
use Rattle.desk_edge.proofs.lp_held_values.Goals as goal

pub returns-then-not-are_told : goal.returns-then-not-are_told
unfolding are_told
returns-then-not-are_told c = let t = refused c.are_told.ensures c.if-not-are_told.true-raw in
    record {
      answers = sym (skips _ _ _ t);
      tells = sym (skips _ _ _ t);
    }

pub put_values-requires : goal.put_values-requires
put_values-requires c =
    eqb-true _ _ (right _ _ (passed c.are_told.ensures c.if-not-are_told.false-raw))

pub returns : goal.returns
unfolding are_told
returns c = let t = passed c.are_told.ensures c.if-not-are_told.false-raw in
    record {
      answers = sym (picks _ _ _ t);
      tells = c.put_values.ensures ∙ ap values_of c.load_held-h.ensures ∙ sym (picks _ _ _ t);
    }
