-- The room is looked at first; the conditions after it are those of the list, in their order, the last one the session's.
use mathlib.Core.Path.{refl, sym, ap, ◌∙◌}
use borrow.Author.Tests.{lt-ltb, le-ltb}
use Rattle.ground.proofs.Bools.{turned}
use Rattle.session.specs.Ranges.{read_refused}
use Rattle.refusals.specs.Refusals.{lowest, no_table}
use Rattle.refusals.specs.Numbers.{number_of, code_of}
use Rattle.refusals.proofs.Found.{held, more}
use Rattle.refusals.proofs.Refused.{lowest_first, lowest_next}
use Rattle.calls.specs.Reading.{reading_refusals}
use Rattle.calls.proofs.reading_refusal.Goals as goal

pub returns-then-room-lt317 : goal.returns-then-room-lt317
unfolding reading_refusals number_of code_of
returns-then-room-lt317 c = sym (lowest_first _ _ (lt-ltb _ _ c.if-room-lt317.true))

pub returns : goal.returns
unfolding reading_refusals number_of no_table
returns c =
    c.first_of.ensures
    ∙ ap lowest
    (more (held _ (turned c.is_table.ensures))
    (more (held _ (c.is_read_refused.ensures ∙ ap (read_refused c.args.s) c.day-day.ensures)) refl))
    ∙ sym (lowest_next _ _ (le-ltb _ _ c.if-room-lt317.false))
