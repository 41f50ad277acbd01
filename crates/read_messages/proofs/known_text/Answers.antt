-- As many as the layout has are laid over zeros, or as many as there are.
use mathlib.Core.Path.{◌≡◌, sym, ap, ◌∙◌}
use Prim.Native.Nat.{ℕ, ◌≤◌, min}
use native.Mathlib.Omega.{arith}
use lib.ListN.{length}
use lib.Seq.{length-take-le}
use borrow.Author.Rules.{rules}
use Rattle.message.proofs.Places.{layout_within}
use Rattle.read_messages.proofs.Kept.{known_is}
use Rattle.read_messages.proofs.known_text.Lts as lts
use Rattle.read_messages.proofs.known_text.Reads as reads
use Rattle.read_messages.proofs.known_text.Tie as tie
use Rattle.read_messages.proofs.known_text.Goals as goal

abbrev After-min : Type 0
After-min = lts.After-min tie.the-claims reads.Pre reads.Post

within : (c : After-min) → c.min-n.result ≤ length c.args.text
within c =
    let e : length c.args.text ≡ 161 = search rules in
    omega (arith, c.min-n.ensures, c.length_of.ensures, layout_within c.args.k)

pub slice_bounds-copy-end-2 : goal.slice_bounds-copy-end-2
slice_bounds-copy-end-2 c = sym (length-take-le _ _ (within c.before.before))

pub returns : goal.returns
returns c =
    let a = c.args in
    c.copy.ensures
    ∙ known_is a.k a.count a.text _ (c.min-n.ensures ∙ ap (λ (m : ℕ). min m a.count) c.length_of.ensures)

pub slice_bounds-text-end : goal.slice_bounds-text-end
slice_bounds-text-end c = within c.before
