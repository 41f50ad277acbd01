-- The eight bytes as std reads them.
use Rattle.std.proofs.Common.{◌∙◌, arith}
use Rattle.std.specs.Int.{w64}
use Rattle.splices.proofs.Std.{read_is}
use Rattle.codec.proofs.read8.Goals as goal

pub returns : goal.returns
returns c = c.from_le_bytes.ensures ∙ read_is w64 c.args.t.now _ c.args.at (omega arith) c.requires c.bytes_at.ensures
