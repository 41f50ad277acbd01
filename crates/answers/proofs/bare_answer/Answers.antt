-- The bank's settings go into it, and the contents of the field.
use Rattle.answers.specs.Answers.{bare_answer}
use Rattle.answers.proofs.bare_answer.Goals as goal

pub returns : goal.returns
unfolding bare_answer
returns c = rw (c.field_contents.ensures, c.settings.ensures)
