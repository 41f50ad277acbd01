-- An end takes no byte, and its reply is noted.
use Rattle.receiving.proofs.Calling.{called_so, end_fits, end_at}
use Rattle.receiving.proofs.one_end.Goals as goal

pub note-more-requires : goal.note-more-requires
note-more-requires c =
    let p = c.requires in
    (end_fits p.0 c.end-a.ensures, p.1)

pub returns : goal.returns
returns c =
    called_so _ _ _ _ _ c.end-a.ensures (end_at c.requires.0 _) c.note-more.ensures
