-- Bytes that are a desk's have its length.
use mathlib.Core.Path.{sym, ◌∙◌}
use Rattle.desk_bytes.proofs.Tests.{long}
use Rattle.desk_bytes.proofs.load_held.Goals as goal

pub held_in-requires : goal.held_in-requires
held_in-requires c = long c.args.b.now (sym c.is_held.ensures ∙ c.if-is_held.true)
