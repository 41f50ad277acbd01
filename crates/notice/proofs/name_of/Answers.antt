-- The name of the row that is found is what the list of fields says.
use Rattle.std.proofs.Common.{ap, sym, ◌∙◌, rules, refl, None}
use Rattle.std.proofs.lemmas.Iterator.{YieldsList-from_slice}
use Rattle.std.proofs.lemmas.Iterator.Search.{find_from_yields_List}
use Rattle.std.specs.Slice.Iter.{iter_rest}
use Rattle.std.specs.Option.{option_map}
use borrow.Author.Tests.{tests}
use lib.Dec.{eqb}
use Rattle.text.specs.Letters.{letters}
use Rattle.notice.proofs.Rows.{keyed, name_says}
use Rattle.notice.proofs.name_of.Goals as goal

pub returns-in-Some : goal.returns-in-Some
unfolding letters
returns-in-Some c =
    name_says c.args.field _ (iter_rest c.iter.result)
    (ap (option_map (λ x. x.now)) (sym c.in-Some.is)
    ∙ find_from_yields_List (λ r. eqb r.0 c.args.field) _ _ c.find.result c.find.ensures.ran
    (YieldsList-from_slice _ refl) (λ x b q k. search (rules, tests)))
    (ap (keyed (λ r. r.0) (λ r. r.1.now)) c.iter.ensures.rest)

pub returns-in-None : goal.returns-in-None
unfolding letters
returns-in-None c =
    name_says c.args.field None (iter_rest c.iter.result)
    (ap (option_map (λ x. x.now)) (sym c.in-None.is)
    ∙ find_from_yields_List (λ r. eqb r.0 c.args.field) _ _ c.find.result c.find.ensures.ran
    (YieldsList-from_slice _ refl) (λ x b q k. search (rules, tests)))
    (ap (keyed (λ r. r.0) (λ r. r.1.now)) c.iter.ensures.rest)
