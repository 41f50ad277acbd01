-- At most one reply is given, the last record's or, where it gives none, the one that is due.
use mathlib.Core.Path.{sym, ◌∙◌}
use Rattle.refusals.proofs.Found.{not_served, served}
use Rattle.calls.proofs.Serving.{end_refused_lem, end_awaits, end_last, end_over}
use Rattle.calls.proofs.end.Goals as goal

pub returns-in-Err : goal.returns-in-Err
returns-in-Err c =
    let n = c.code.ensures in
    end_refused_lem _ _ _ (n ∙ c.ending_refusal-outcome.ensures) (λ z. not_served _ _ c.in-Err.is (sym n ∙ z)) c.refused.ensures

pub returns-then-is_due : goal.returns-then-is_due
returns-then-is_due c =
    let x = c.last_ended-x.ensures in
    let y = c.put_reply-length.ensures in
    end_awaits _ _ _ c.ending_refusal-outcome.ensures (served _ _ c.in_default.is)
    x.value x.t_after c.if-reply.true y.value y.room_after c.is_due.ensures c.if-is_due.true
    c.awaiting.ensures c.answered.ensures

pub returns-then-reply : goal.returns-then-reply
returns-then-reply c =
    let x = c.last_ended-x.ensures in
    let y = c.put_reply-length.ensures in
    end_last _ _ _ c.ending_refusal-outcome.ensures (served _ _ c.in_default.is)
    x.value x.t_after c.if-reply.true y.value y.room_after c.is_due.ensures c.if-is_due.false
    c.finished.ensures c.answered-then-reply.ensures

pub shape_of-t : goal.shape_of-t
shape_of-t c =
    c.t-2-1.given ∙ c.t-1.given

pub returns : goal.returns
returns c =
    let x = c.last_ended-x.ensures in
    let o = c.file_ended-y.ensures in
    let y = c.put_reply-length-2.ensures in
    end_over _ _ _ c.ending_refusal-outcome.ensures (served _ _ c.in_default.is)
    x.value x.t_after c.if-reply.false o.value o.t_after y.value y.room_after c.finished-2.ensures c.answered-2.ensures
