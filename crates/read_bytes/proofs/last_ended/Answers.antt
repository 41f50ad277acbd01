-- A record on its way has gathered characters or a CR that waits, and with the CR heard it ends.
use mathlib.Core.Path.{refl, ap, ◌∙◌}
use mathlib.Core.Bool.{false}
use native.Mathlib.Omega.{arith}
use Rattle.des.specs.Des.{schedule_of}
use Rattle.session.specs.Lines.{line_ended}
use Rattle.session.specs.Machine.{with_line}
use Rattle.session.specs.declared.Session.{Session}
use Rattle.read_bytes.proofs.Steps.{none_begun, cr_begun, characters_begun}
use Rattle.ground.proofs.Bools.{passed, refused}
use Rattle.read_bytes.proofs.last_ended.Goals.{else-not-s-via-else-not-s, else-not-s-via-then-not-s+else-s-eq0}
use Rattle.read_bytes.proofs.last_ended.Goals as goal

pub returns-then-s-eq0 : goal.returns-then-s-eq0
returns-then-s-eq0 c =
    let all = none_begun _ _ (refused refl c.if-not-s.true) c.if-s-eq0.true c.no_reply.ensures in
    record { value = all.0; t_after = all.1 }

pub waiting_heard-heard-requires : goal.waiting_heard-heard-requires
waiting_heard-heard-requires c = (
  c.joined_table-boxes.ensures,
  c.schedule-keys.ensures
      ∙ ap schedule_of c.batch_key.ensures,
)

pub returns : goal.returns
unfolding line_ended
returns c = let s = c.args.s in
    let e =
    c.with_line.ensures
    ∙ ap (λ (u : Session). with_line u (record { size = s.line.size; cr = false })) c.waiting_heard-heard.ensures in
    elim c.else-not-s.branch [
      | else-not-s-via-then-not-s+else-s-eq0 w ↦
          let all = characters_begun _ _ e (c.record_ended.ensures.value, c.record_ended.ensures.t_after) (omega (arith, w.if-s-eq0.false)) in record { value = all.0; t_after = all.1 }
      | else-not-s-via-else-not-s w ↦
          let all = cr_begun _ _ e (c.record_ended.ensures.value, c.record_ended.ensures.t_after) (passed refl w.if-not-s.false) in record { value = all.0; t_after = all.1 }
    ]
