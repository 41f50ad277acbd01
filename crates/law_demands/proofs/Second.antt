-- A contract names the one answer and the one later content of each buffer, so what meets it twice is equal to the same thing.
-- Assumes nothing.
use mathlib.Core.Path.{sym, ◌∙◌}
use Rattle.law_demands.specs.Demands.{NoSecondKeeping, NoSecondOpen, NoSecondRead, NoSecondEnd}

pub no_second_keeping : NoSecondKeeping
no_second_keeping b c x y t u p q = (p.answers ∙ sym q.answers, p.leaves ∙ sym q.leaves)

pub no_second_open : NoSecondOpen
no_second_open b o x y t u p q = (p.answers ∙ sym q.answers, p.leaves ∙ sym q.leaves)

pub no_second_read : NoSecondRead
no_second_read s b input room x y t u v w p q =
    (p.answers ∙ sym q.answers, p.leaves ∙ sym q.leaves, p.shows ∙ sym q.shows)

pub no_second_end : NoSecondEnd
no_second_end s b room x y t u v w p q =
    (p.answers ∙ sym q.answers, p.leaves ∙ sym q.leaves, p.shows ∙ sym q.shows)
