-- Zeros where there is no key before.
use mathlib.Core.Path.{sym, ap}
use Rattle.codec.specs.Rows.{cells, widths}
use Rattle.desk_bytes.specs.Layout.{keys_shape, before_to}
use Rattle.desk_bytes.proofs.keys_row.Goals as goal

pub returns-in-None : goal.returns-in-None
unfolding cells widths
returns-in-None c =
    let k = c.args.k in
    ap (λ b. cells keys_shape (k.generation, (k.key, before_to b))) (sym c.in-None.is)

pub returns-in-Some : goal.returns-in-Some
unfolding cells widths
returns-in-Some c =
    let k = c.args.k in
    ap (λ b. cells keys_shape (k.generation, (k.key, before_to b))) (sym c.in-Some.is)
