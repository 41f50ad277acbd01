-- The text is written over the zeros, and as many are counted as there is room for.
use mathlib.Core.Path.{sym, ap₂, ◌∙◌}
use mathlib.Core.List.{List}
use Prim.Native.Nat.{ℕ}
use lib.ListN.{length-take}
use Rattle.message.specs.Contents.{contents_as}
use Rattle.message.specs.declared.Contents.{Contents}
use Rattle.message.proofs.contents_of.Goals as goal

pub returns : goal.returns
unfolding contents_as
returns c =
    let text : List ℕ = c.args.text.now in
    ap₂ {C = Contents} (λ (n : ℕ) (t : List ℕ). record { count = n; text = t })
    (c.min.ensures ∙ sym (length-take 17 text))
    c.copy.ensures
