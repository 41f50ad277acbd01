-- The text is the VAR, and what was sent is read of the SUO and of it.
use mathlib.Core.Path.{◌≡◌, refl, ap, ◌∙◌}
use mathlib.Core.Bool.{Bool}
use mathlib.Core.List.{List, [], ◌∷◌}
use Prim.Native.Nat.{ℕ}
use lib.ListN.{length}
use Rattle.message.specs.Layout.{total, layout, layout_length}
use Rattle.message.specs.declared.Kind.TheVariants.{Var}
use Rattle.refusals.specs.Refusals.{refusal, lowest}
use Rattle.desk.specs.Sent.{sent_by}
use Rattle.build.specs.Messages.{var_built}
use Rattle.build.specs.Building.{breaks_rules, var_made, var_building}
use Rattle.build.proofs.Known.{known_sent}
use Rattle.build.proofs.Handed.{built}
use borrow.Author.Rules.{rules}
use Rattle.build.proofs.build_var.Goals as goal

pub returns : goal.returns
unfolding var_building var_made layout_length layout total
returns c =
    let b = c.args.b in
    let text = c.var_text-text.result in
    let z : length b.suo ≡ 128 = search rules in
    let whole : length text ≡ 161 = search rules in
    built Var (λ (x : List ℕ). b.suo) (λ (x : List ℕ). refusal 13 (breaks_rules Var x) ∷ []) _ _ _ _ _ refl whole
    (c.var_text-text.ensures
    ∙ ap (λ (d : ℕ). var_built b.suo b.working d c.args.request) c.batch_digest-digest.ensures)
    (λ x e. c.rules_refusal-outcome.ensures
    ∙ ap (λ (t : Bool). lowest (refusal 13 t ∷ [])) (c.breaks_rules.ensures x e))
    (c.sent_by-sent.ensures
    ∙ ap (λ (x : List ℕ). sent_by x text) c.known_suo.ensures ∙ known_sent b.suo z text)
    c.message_by.ensures
