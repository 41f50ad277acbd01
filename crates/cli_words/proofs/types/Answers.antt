-- A dash is no type, else the word is a list.
use mathlib.Core.Path.{sym, ◌∙◌}
use Rattle.ground.proofs.Choices.{picks, skips}
use Rattle.text.specs.Letters.{letters}
use Rattle.cli_words.specs.Forms.{types_of}
use Rattle.cli_words.proofs.types.Goals as goal

pub returns-then-same_bytes : goal.returns-then-same_bytes
unfolding types_of letters
returns-then-same_bytes c = sym (picks _ _ _ (sym c.same_bytes.ensures ∙ c.if-same_bytes.true))

pub returns : goal.returns
unfolding types_of letters
returns c = c.listed.ensures ∙ sym (skips _ _ _ (sym c.same_bytes.ensures ∙ c.if-same_bytes.false))
