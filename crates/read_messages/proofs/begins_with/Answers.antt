-- Five characters of what is kept are as many of the text, up to the count.
use mathlib.Core.Path.{◌≡◌, sym, ap, ◌∙◌}
use mathlib.Core.List.{List}
use Prim.Native.Nat.{ℕ, min}
use native.Mathlib.Omega.{arith}
use lib.ListN.{take}
use Rattle.ground.specs.Lists.{same}
use Rattle.ground.proofs.Parts.{take_least}
use Rattle.ground.proofs.Std.{same_is}
use Rattle.read_messages.proofs.begins_with.Goals as goal

pub returns : goal.returns
returns c =
    let five : c.min.result ≡ min 5 c.args.count = omega arith in
    c.eq.ensures
    ∙ sym (same_is _ _)
    ∙ ap (λ (l : List ℕ). same l c.args.tag.now)
    (ap (λ (i : ℕ). take i c.args.text) five ∙ sym (take_least 5 c.args.count c.args.text))
