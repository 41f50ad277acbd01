-- The rules are those of the text that the base knows of it.
use Rattle.build.proofs.suo_breaks_rules.Goals as goal

pub returns : goal.returns
returns c = c.breaks_rules.ensures _ c.known_suo.ensures
