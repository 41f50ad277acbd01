-- A CR that was held back is taken, and where none was the digest stays.
use Rattle.std.proofs.Common.{◌∙◌}
use Rattle.bureau_records.proofs.Hearing.{freed_cr, freed_none}
use Rattle.bureau_records.proofs.freed.Goals as goal

pub returns-then-l : goal.returns-then-l
returns-then-l c =
    c.took.ensures.0 ∙ freed_cr _ _ c.if-l.true

pub returns-else-l : goal.returns-else-l
returns-else-l c = freed_none _ _ c.if-l.false
