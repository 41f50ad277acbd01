-- One rule names the length, and it asks only where the version has exact lengths.
use mathlib.Core.Path.{refl, sym, ap₂, ◌∙◌}
use lib.Dec.{eqb, lit≤}
use Rattle.ground.specs.Choice.{both, either, fails, pick}
use Rattle.text.specs.Numbers.{decimal}
use Rattle.message.specs.Layout.{width_in, layout_length}
use Rattle.message.specs.Rules.{only, is_exact, length_rules, obeys}
use Rattle.message.proofs.Places.{named_whole}
use Rattle.message.proofs.Tests.{asked, unasked}
use Rattle.message.proofs.length_holds.Goals as goal

pub returns-then-number-ne20 : goal.returns-then-number-ne20
unfolding length_rules
returns-then-number-ne20 c m q x = unasked length_rules _ _ _ m refl (c.if-number-ne20.true, tt)

pub returns : goal.returns
unfolding length_rules obeys both either fails width_in pick
returns c m q x =
    let length-is = named_whole 20 _ _ c.if-number-ne20.false c.requires _ c.number.ensures (lit≤ tt) in
    c.only_if.ensures
    ∙ ap₂ only (sym x) (ap₂ eqb length-is c.length_of.ensures)
    ∙ asked length_rules _ _ _ m _ q refl 20 (λ text. only (is_exact m) (eqb (decimal text) (layout_length c.args.k)))
    c.if-number-ne20.false refl
