-- A run over an opened file shows what the machine tells, which is the whole-file answer;
-- and an opened file is in a good state, from which a run exists.
-- Assumes nothing.
use native.Mathlib.Nat.{zero-add}
use Rattle.calls.specs.Reading.{opening_gives, opening_leaves}
use Rattle.law_protocol.proofs.Opened.{good_opened}
use Rattle.law_protocol.proofs.Cutting
use Rattle.law_protocol.proofs.Exists
use Rattle.law_demands.specs.Demands.{AnyCuts, NoneRefused, RunsExist}

pub any_cuts : AnyCuts
any_cuts = Cutting.any_cuts

pub none_refused : NoneRefused
none_refused b o file ks rooms l z r = Exists.run_served r (good_opened b o z)

pub runs_exist : RunsExist
runs_exist b o file sizes rooms z some h =
    let r = Exists.runs_exist sizes rooms some h 0 0 (opening_gives b o).session (opening_leaves b o) file (good_opened b o z) in
    (r.0, r.1, r.2, rw zero-add at r.3)
