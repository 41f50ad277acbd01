-- The run's characters are heard, and each is counted.
use Prim.Native.Nat.{◌+◌}
use mathlib.Core.Path.{ap, ◌∙◌}
use mathlib.Core.Bool.{false}
use lib.ListN.{length}
use Rattle.session.specs.Machine.{with_line}
use Rattle.session.specs.declared.Session.{Session}
use Rattle.read_bytes.proofs.Told.{hears}
use Rattle.read_bytes.proofs.run_on.Goals as goal

pub returns : goal.returns
returns c =
    let n = c.args.s.line.size + length c.args.bytes.now in
    c.with_line.ensures
    ∙ ap (λ (u : Session). with_line u (record { size = n; cr = false })) (c.hear-after.ensures ∙ hears _ _ _ _ (c.requires.0, c.requires.1))
