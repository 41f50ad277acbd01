-- Bytes that are a batch's have its length.
use mathlib.Core.Path.{sym, ◌∙◌}
use Rattle.build_bytes.proofs.Tests.{long}
use Rattle.build_bytes.proofs.load_batch.Goals as goal

pub batch_in-requires : goal.batch_in-requires
batch_in-requires c = long c.args.b.now (sym c.is_batch.ensures ∙ c.if-is_batch.true)
