-- Each byte in turn is shown at its place.
use mathlib.Core.Path.{◌≡◌, sym, ◌∙◌}
use native.Mathlib.Omega.{arith}
use lib.ListN.{length}
use Rattle.ground.proofs.Lists.{mapped}
use Rattle.notice.specs.Codes.{shown_byte}
use borrow.Author.Rules.{rules}
use Rattle.notice.proofs.shown.Goals as goal

pub returns : goal.returns
returns c =
    let n : length c.args.text ≡ 17 = search rules in
    mapped shown_byte c.args.text c.map.result (c.map.ensures.items.long ∙ sym n)
    (λ k h. let e = c.map.ensures.items.at k 0 0 (omega arith) in search (rules, e))
