-- Past the size limit, at an LF and at any other byte the step is what the line makes of the byte.
use mathlib.Core.Path.{ap, ◌∙◌}
use native.Mathlib.Omega.{arith}
use Rattle.session.specs.Machine.{with_line}
use Rattle.read_bytes.proofs.Steps.{key_kept, past_limit, ends_record, tells}
use Rattle.read_bytes.proofs.step.Goals as goal

pub returns-then-s-eq4294967295 : goal.returns-then-s-eq4294967295
returns-then-s-eq4294967295 c =
    let all = past_limit _ _ _ (c.with_line-at.ensures ∙ ap (with_line c.args.s) c.line_after.ensures)
    (omega arith) c.size_passed.ensures in
    record { value = all.0; t_after = all.1 }

pub returns-then-b-eq10 : goal.returns-then-b-eq10
returns-then-b-eq10 c =
    let all = ends_record _ _ _ (c.with_line-at.ensures ∙ ap (with_line c.args.s) c.line_after.ensures)
    (omega arith) c.if-b-eq10.true (c.record_ended.ensures.value, c.record_ended.ensures.t_after) in
    record { value = all.0; t_after = all.1 }

pub told_by-requires : goal.told_by-requires
told_by-requires c =
    let p = c.requires in (p.0, key_kept _ _ c.with_line-at.ensures p.1)

pub returns : goal.returns
returns c =
    let all = tells _ _ _ (c.with_line-at.ensures ∙ ap (with_line c.args.s) c.line_after.ensures)
    (omega arith) c.if-b-eq10.false c.told_by.ensures c.no_reply.ensures in
    record { value = all.0; t_after = all.1 }
