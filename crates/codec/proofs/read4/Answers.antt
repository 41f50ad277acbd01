-- The four bytes as std reads them.
use Rattle.std.proofs.Common.{◌∙◌, arith}
use Rattle.std.specs.Int.{w32}
use Rattle.splices.proofs.Std.{read_is}
use Rattle.codec.proofs.read4.Goals as goal

pub returns : goal.returns
returns c = c.from_le_bytes.ensures ∙ read_is w32 c.args.t.now _ c.args.at (omega arith) c.requires c.bytes_at.ensures
