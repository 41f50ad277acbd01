-- The digits of the line that is left without its CR.
use mathlib.Core.Path.{ap, ◌∙◌}
use Rattle.cli_words.specs.Forms.{number_of, date_of}
use Rattle.cli_words.proofs.date_in.Goals as goal

pub returns : goal.returns
unfolding date_of
returns c = c.digits.ensures ∙ ap (number_of 6 6) c.without_cr.ensures
