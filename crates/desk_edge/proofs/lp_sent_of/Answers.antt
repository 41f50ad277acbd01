-- Messages that are none, or another length, are refused; else what was sent is stored.
use mathlib.Core.Path.{sym, ap, ap₂, ◌∙◌}
use mathlib.Core.List.{List}
use Prim.Native.Nat.{ℕ}
use borrow.Author.Tests.{eq-eqb, ne_eqb}
use Rattle.ground.proofs.Choices.{picks, skips, fails_left, fails_right, join}
use Rattle.ground.proofs.Bools.{passed, refused}
use Rattle.desk.specs.Sent.{sent_by}
use Rattle.desk.specs.declared.Sent.{Sent}
use Rattle.desk_bytes.specs.Bytes.{sent_stored}
use Rattle.desk_edge.specs.Calls.{sent_refusal, sent_after_call}
use Rattle.desk_edge.proofs.lp_sent_of.Goals as goal

pub returns-then-not-are_sent : goal.returns-then-not-are_sent
unfolding sent_refusal sent_after_call
returns-then-not-are_sent c = let f = refused c.are_sent.ensures c.if-not-are_sent.true-raw in
    record {
      answers = sym (skips _ _ _ (fails_left _ _ f));
      keeps = sym (skips _ _ _ f);
    }

pub returns-then-sent-ne100 : goal.returns-then-sent-ne100
unfolding sent_refusal sent_after_call sent_stored
returns-then-sent-ne100 c = let n = ne_eqb _ _ c.if-sent-ne100.true in
    let t = passed c.are_sent.ensures c.if-not-are_sent.false-raw in
    record {
      answers = sym (skips _ _ _ (fails_right _ _ n));
      keeps = sym (picks _ _ _ t ∙ skips _ _ _ n);
    }

pub returns : goal.returns
unfolding sent_refusal sent_after_call
returns c = let t = passed c.are_sent.ensures c.if-not-are_sent.false-raw in
    let e = c.sent_by-s.ensures
    ∙ ap₂ (λ (x y : List ℕ). sent_by x y) c.known_of.ensures c.known_of-2.ensures in
    record {
      answers = sym (picks _ _ _ (join _ _ t (eq-eqb _ _ c.if-sent-ne100.false)));
      keeps = c.store_sent.ensures ∙ ap (λ (s : Sent). sent_stored c.args.sent.now s) e ∙ sym (picks _ _ _ t);
    }
