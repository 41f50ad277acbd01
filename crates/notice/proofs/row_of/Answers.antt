-- The row that is found says what the list of codes says.
use Rattle.std.proofs.Common.{ap, ◌∙◌, rules, refl}
use Rattle.std.proofs.lemmas.Iterator.{YieldsList-from_slice}
use Rattle.std.proofs.lemmas.Iterator.Search.{find_from_yields_List}
use Rattle.std.specs.Slice.Iter.{iter_rest}
use borrow.Author.Tests.{tests}
use lib.Dec.{eqb}
use Rattle.text.specs.Letters.{letters}
use Rattle.notice.specs.Rows.{code_of}
use Rattle.notice.proofs.Rows.{keyed, row_says}
use Rattle.notice.proofs.row_of.Goals as goal

pub returns : goal.returns
unfolding letters
returns c =
    row_says c.args.code _ _ _ (iter_rest c.iter.result) c.unwrap_or.ensures
    (c.copied.ensures
    ∙ find_from_yields_List (λ r. eqb r.code c.args.code) _ _ c.find.result c.find.ensures.ran
    (YieldsList-from_slice _ refl) (λ x b q k. search (rules, tests)))
    refl (ap (keyed (λ r. r.code) code_of) c.iter.ensures.rest)
