-- Bytes that are no batch's are refused and stay; else the batch with one record more is stored.
use mathlib.Core.Path.{sym, ap, ◌∙◌}
use Rattle.ground.proofs.Choices.{picks, skips}
use Rattle.ground.proofs.Bools.{passed, refused}
use Rattle.build.specs.Building.{record_added}
use Rattle.build.specs.declared.Batch.{Batch}
use Rattle.build_bytes.specs.Bytes.{batch_stored}
use Rattle.desk_edge.specs.Builder.{add_refusal, added_by}
use Rattle.desk_edge.proofs.builder.lp_add_record.Goals as goal

pub returns-then-not-is_batch : goal.returns-then-not-is_batch
unfolding add_refusal added_by
returns-then-not-is_batch c = let f = refused c.is_batch.ensures c.if-not-is_batch.true-raw in
    record {
      answers = sym (skips _ _ _ f);
      keeps = sym (skips _ _ _ f);
    }

pub returns : goal.returns
unfolding add_refusal added_by
returns c = let a = c.args in
    let t = passed c.is_batch.ensures c.if-not-is_batch.false-raw in
    let e = c.add_record-later.ensures ∙ ap (λ (b : Batch). record_added b a.characters.now) c.load_batch-b.ensures in
    record {
      answers = sym (picks _ _ _ t);
      keeps = c.store_batch.ensures ∙ ap (batch_stored a.batch.now) e ∙ sym (picks _ _ _ t);
    }
