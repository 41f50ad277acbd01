-- In data, where a record begins, whole records are passed if there are any; else the run is heard.
use mathlib.Core.Path.{sym, ◌∙◌}
use Rattle.read_bytes.proofs.Told.{serves}
use Rattle.read_bytes.proofs.Passing.{is_in_data, skims_records, skims_run}
use Rattle.read_bytes.proofs.run_from.Goals as goal

pub returns-then-from-p : goal.returns-then-from-p
returns-then-from-p c =
    let a = c.args in
    let p = c.requires in
    skims_records a.s a.input.now a.from
    (is_in_data a.s.place (sym c.is_data.ensures ∙ c.if-is_data.true))
    c.if-s-eq0.true
    (p.2.none_waits p.3)
    (serves a.s a.boxes.now a.keys p.0 p.1)
    c.method-m.ensures
    c.pass_records-p.ensures
    c.if-from-p.true
    c.passed_to.ensures

pub returns : goal.returns
returns c =
    let a = c.args in
    let p = c.requires in
    skims_run a.s a.input.now a.from a.end p.2 p.3 c.run_on.ensures
