-- The two names are written side by side.
use Rattle.cli_words.proofs.Names.{identity_length, sides}
use Rattle.cli_words.proofs.who.Goals as goal

pub slice_bounds-w-end-2 : goal.slice_bounds-w-end-2
slice_bounds-w-end-2 c = identity_length _ _ c.pad.ensures

pub returns : goal.returns
returns c = sides _ _ _ _ c.pad.ensures c.pad-2.ensures
