-- The chain asks the test of each.
use Rattle.std.proofs.Common.{rules, tests, sym, ◌∙◌}
use Rattle.std.proofs.lemmas.Iterator.{YieldsList-from_slice}
use Rattle.std.proofs.lemmas.Iterator.Search.{all_from_yields_List}
use Rattle.ground.proofs.Std.{all_is}
use Rattle.text.specs.Characters.{digit}
use Rattle.text.proofs.all_digits.Goals as goal

pub returns : goal.returns
returns c =
    all_from_yields_List digit _ _ _ c.all.ensures.ran (YieldsList-from_slice c.args.s.now cc) (λ x b q k. search (rules, tests))
    ∙ sym (all_is digit _)
