-- The word is compared with each of the two in turn.
use Rattle.std.proofs.Common.{sym, ◌∙◌}
use Rattle.ground.proofs.Choices.{picks, skips}
use Rattle.text.specs.Letters.{letters}
use Rattle.cli_words.specs.Forms.{choice_of}
use Rattle.cli_words.proofs.choice.Goals as goal

pub returns-then-same_bytes : goal.returns-then-same_bytes
unfolding choice_of letters
returns-then-same_bytes c = sym (picks _ _ _ (sym c.same_bytes.ensures ∙ c.if-same_bytes.true))

pub returns-then-same_bytes-2 : goal.returns-then-same_bytes-2
unfolding choice_of letters
returns-then-same_bytes-2 c =
    sym (skips _ _ _ (sym c.same_bytes.ensures ∙ c.if-same_bytes.false)
    ∙ picks _ _ _ (sym c.same_bytes-else-same_bytes.ensures ∙ c.if-same_bytes-2.true))

pub returns-else-same_bytes-2 : goal.returns-else-same_bytes-2
unfolding choice_of letters
returns-else-same_bytes-2 c =
    sym (skips _ _ _ (sym c.same_bytes.ensures ∙ c.if-same_bytes.false)
    ∙ skips _ _ _ (sym c.same_bytes-else-same_bytes.ensures ∙ c.if-same_bytes-2.false))
