-- The text is the ESI, and it is its own first message.
use mathlib.Core.Path.{◌≡◌, refl, ap, ◌∙◌}
use mathlib.Core.List.{List}
use Prim.Native.Nat.{ℕ}
use lib.ListN.{length}
use Rattle.message.specs.Layout.{total, layout, layout_length}
use Rattle.message.specs.declared.Kind.TheVariants.{Esi}
use Rattle.build.specs.Building.{building_refusals, esi_building}
use Rattle.build.proofs.Handed.{refused_by, built}
use borrow.Author.Rules.{rules}
use Rattle.build.proofs.build_esi.Lts as lts
use Rattle.build.proofs.build_esi.Reads as reads
use Rattle.build.proofs.build_esi.Tie as tie
use Rattle.build.proofs.build_esi.Goals as goal

abbrev After-esi_text : Type 0
After-esi_text = lts.After-esi_text tie.the-claims reads.Pre reads.Post

sized : (c : After-esi_text) → length c.esi_text-text.result ≡ 161
sized c = search rules

pub returns : goal.returns
unfolding esi_building building_refusals layout_length layout total
returns c =
    let a = c.args in
    built Esi (λ (x : List ℕ). x) (building_refusals Esi a.h) _ _ _ _ _ refl (sized c.before.before.before.before) c.esi_text-text.ensures
    (λ x e. c.building_refusal-outcome.ensures ∙ ap (refused_by a.h) (c.breaks_rules.ensures x e)) c.sent_by-sent.ensures c.message_by.ensures
