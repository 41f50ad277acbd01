-- A blank is put, and the characters that there are as they are shown, where the code shows them.
use mathlib.Core.Path.{◌≡◌, sym, ap, ◌∙◌}
use mathlib.Core.List.{List, [], ◌∷◌, map, ◌++◌, append_assoc, append-nil}
use Prim.Native.Nat.{ℕ, min, ◌≤◌}
use native.Mathlib.Omega.{arith}
use lib.ListN.{length, take, length-take}
use Rattle.ground.proofs.Choices.{picks, skips}
use Rattle.ground.proofs.Lists.{map-take}
use Rattle.ground.proofs.Parts.{kept-length, take_kept}
use Rattle.text.specs.Letters.{letters}
use Rattle.message.specs.Contents.{held_in}
use Rattle.notice.specs.Codes.{shown_byte, value_text}
use borrow.Author.Rules.{rules}
use Rattle.notice.proofs.put_value.Goals as goal

pub put-requires : goal.put-requires
put-requires c = omega (arith, picks {A = ℕ} c.args.row.shows 18 0 c.if-row.true)

pub put-requires-then-row : goal.put-requires-then-row
put-requires-then-row c =
    let k : length (take c.min.result c.shown.result) ≤ 17 = omega (arith, length-take c.min.result c.shown.result, c.min.ensures) in
    omega (arith, k, picks {A = ℕ} c.args.row.shows 18 0 c.if-row.true)

pub returns-then-row : goal.returns-then-row
unfolding value_text held_in letters
returns-then-row c =
    let v = c.args.contents in
    let old = c.args.said.now.items in
    let sized : length v.text ≡ 17 = search rules in
    let e : take (min v.count 17) v.text ≡ take v.count v.text =
    ap (λ (k : ℕ). take k v.text) (sym (kept-length v.count 17 v.text sized)) ∙ take_kept v.count v.text in
    let s : take c.min.result c.shown.result ≡ map shown_byte (take v.count v.text) =
    ap (λ (k : ℕ). take k c.shown.result) c.min.ensures ∙ ap (take (min v.count 17)) c.shown.ensures
    ∙ map-take shown_byte (min v.count 17) v.text ∙ ap (map shown_byte) e in
    let k : length (take c.min.result c.shown.result) ≤ 17 = omega (arith, length-take c.min.result c.shown.result, c.min.ensures) in
    record {
      items =
          c.put-then-row.ensures.items ∙ ap (λ (x : List ℕ). x ++ take c.min.result c.shown.result) c.put.ensures.items
          ∙ append_assoc old (32 ∷ []) _
          ∙ ap (λ (x : List ℕ). old ++ (32 ∷ x)) s
          ∙ ap (λ (x : List ℕ). old ++ x) (sym (picks _ _ [] c.if-row.true));
      len = omega (arith, k, picks {A = ℕ} c.args.row.shows 18 0 c.if-row.true);
    }

pub returns-else-row-clause-items : goal.returns-else-row-clause-items
returns-else-row-clause-items c =
    sym (ap (λ (x : List ℕ). c.args.said.now.items ++ x) (skips _ (value_text (held_in c.args.contents)) [] c.if-row.false)
    ∙ append-nil c.args.said.now.items)
