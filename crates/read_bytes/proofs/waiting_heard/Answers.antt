-- A CR that waited is heard, and where none did nothing is.
use mathlib.Core.Path.{◌∙◌}
use Rattle.read_bytes.proofs.Told.{hears, waits, none_waits}
use Rattle.read_bytes.proofs.waiting_heard.Goals as goal

pub returns-then-s : goal.returns-then-s
returns-then-s c = c.hear.ensures ∙ hears _ _ _ _ c.requires ∙ waits _ _ c.if-s.true

pub returns-else-s : goal.returns-else-s
returns-else-s c = none_waits _ _ c.if-s.false
