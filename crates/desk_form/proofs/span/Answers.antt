-- A later place begins no earlier, and what lies past the reply's end is nothing.
use Rattle.ground.proofs.Parts.{cut_ordered, cut_part}
use Rattle.message.proofs.Places.{ordered}
use Rattle.desk_form.proofs.span.Goals as goal

pub slice_bounds-result-count : goal.slice_bounds-result-count
slice_bounds-result-count c =
    cut_ordered _ _ c.args.r.now
    (ordered _ _ c.requires.0) c.start_of.ensures
    c.start_of-2.ensures c.min-a.ensures c.min-e.ensures

pub slice_bounds-result-start : goal.slice_bounds-result-start
slice_bounds-result-start c =
    cut_ordered _ _ c.args.r.now
    (ordered _ _ c.requires.0) c.start_of.ensures
    c.start_of-2.ensures c.min-a.ensures c.min-e.ensures

pub returns : goal.returns
returns c =
    cut_part _ _ _ (ordered _ _ c.requires.0)
    c.start_of.ensures c.start_of-2.ensures
    c.min-a.ensures c.min-e.ensures
