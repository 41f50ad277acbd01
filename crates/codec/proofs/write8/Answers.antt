-- The eight bytes as std writes them.
use Rattle.std.proofs.Common.{◌∙◌, sym, ap, List, ℕ}
use Rattle.std.specs.Int.{w64}
use Rattle.splices.specs.Bytes.{splice}
use Rattle.splices.proofs.Std.{bytes_is}
use Rattle.codec.proofs.write8.Goals as goal

pub returns : goal.returns
returns c =
    c.write_bytes.ensures
    ∙ ap (λ (x : List ℕ). splice c.args.at x c.args.t.now) (c.to_le_bytes.ensures ∙ sym (bytes_is w64 c.args.n))
