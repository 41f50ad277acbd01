-- A call without a reply adds nothing, and one with a reply adds the bytes of the room that it filled.
use Rattle.receiving.proofs.Keeping.{noted_none, noted_one}
use Rattle.receiving.proofs.note.Goals as goal

pub returns-then-length-eq0 : goal.returns-then-length-eq0
returns-then-length-eq0 c = noted_none _ _ _ _ _ _ c.if-length-eq0.true

pub returns : goal.returns
returns c =
    noted_one _ _ _ c.if-length-eq0.false c.keep.ensures
