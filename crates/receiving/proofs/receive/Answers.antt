-- A refused opening changes nothing; after a served one the reads and the ends give all that the file gives: the whole-file answer.
use mathlib.Core.List.{[]}
use Rattle.receiving.proofs.Whole.{refused_promise, opened_good, closed_promise, end_ready, ended_promise}
use Rattle.receiving.proofs.receive.Goals as goal

pub returns-then-a-ne0 : goal.returns-then-a-ne0
returns-then-a-ne0 c =
    let all = refused_promise _ _ _ _ _ c.open-a.ensures c.if-a-ne0.true in
    record { value = all.0; t_after = all.1.0; replies_after = all.1.1.0; places_after = all.1.1.1 }

pub read_all-g-requires : goal.read_all-g-requires
read_all-g-requires c =
    opened_good _ _ _ [] [] c.open-a.ensures c.if-a-ne0.false

pub returns-then-g : goal.returns-then-g
returns-then-g c =
    let all = closed_promise _ _ _ _ _ c.open-a.ensures c.if-a-ne0.false c.read_all-g.ensures c.if-g.true in
    record { value = all.0; t_after = all.1.0; replies_after = all.1.1.0; places_after = all.1.1.1 }

pub end_all-count-requires : goal.end_all-count-requires
end_all-count-requires c =
    end_ready _ _ _ _ _ c.open-a.ensures c.if-a-ne0.false c.read_all-g.ensures c.if-g.false

pub returns : goal.returns
returns c =
    let all = ended_promise _ _ _ _ _ c.open-a.ensures c.if-a-ne0.false c.read_all-g.ensures c.if-g.false
    (c.end_all-count.ensures.adds, c.end_all-count.ensures.t_after) in
    record { value = all.0; t_after = all.1.0; replies_after = all.1.1.0; places_after = all.1.1.1 }
