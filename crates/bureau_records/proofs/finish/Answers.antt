-- With no character of a record there is no record to end.
use Rattle.std.proofs.lemmas.Result.{IfOk-weaker}
use Rattle.bureau_records.proofs.Hearing.{none_left, last_ended}
use Rattle.bureau_records.proofs.finish.Goals as goal

pub returns-then-now-eq0 : goal.returns-then-now-eq0
returns-then-now-eq0 c =
    let e = c.emptied-now.ensures in
    none_left _ _ _ e.0 e.1 c.if-now.false c.if-now-eq0.true

pub returns : goal.returns
returns c =
    let e = c.emptied-now.ensures in
    IfOk-weaker c.ended.result _ _ (λ x w. last_ended _ _ _ e.0 e.1 w c.if-now-eq0.false) c.ended.ensures
