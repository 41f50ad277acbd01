-- Past the layout, or past the reply's end where that comes first, stands the same.
use mathlib.Core.Path.{◌≡◌, ap, ◌∙◌}
use Prim.Native.Nat.{ℕ, ◌-◌, min}
use native.Mathlib.Omega.{arith}
use lib.ListN.{length, drop, length-drop}
use lib.Seq.{take_all}
use Rattle.ground.proofs.Parts.{drop_least}
use Rattle.text.specs.Characters.{all_blank}
use Rattle.desk_form.specs.Replies.{reply_size}
use Rattle.desk_form.proofs.is_blank_over.Goals as goal

pub returns : goal.returns
returns c =
    let r = c.args.r.now in
    let cut : c.min-n.result ≡ min (reply_size _) (length r) =
    c.min-n.ensures ∙ ap (λ (n : ℕ). min n (length r)) c.size_of.ensures in
    let n = c.min-n.result in
    c.all_blank.ensures
    ∙ ap all_blank
    (take_all (length r - n) (drop n r) (omega (arith, length-drop n r))
    ∙ ap (λ (k : ℕ). drop k r) cut
    ∙ drop_least _ (length r) r (omega arith))
