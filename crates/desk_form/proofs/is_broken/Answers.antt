-- A test that doesn't hold is failed.
use mathlib.Core.Path.{sym, ◌∙◌}
use Rattle.ground.proofs.Bools.{turned}
use Rattle.desk_form.specs.Replies.{fails_in, reply_value_fails}
use Rattle.desk_form.proofs.Tests.{format-fails}
use Rattle.desk_form.proofs.is_broken.Goals as goal

pub returns-in-Format : goal.returns-in-Format
unfolding fails_in
returns-in-Format c r q x y = rw c.in-Format.is (turned c.is_formed.ensures ∙ sym (format-fails _ r _ _ _ _ q x y))

pub returns-in-Value : goal.returns-in-Value
unfolding fails_in reply_value_fails
returns-in-Value c r q x y = rw c.in-Value.is (turned (c.value_holds.ensures r q x))
