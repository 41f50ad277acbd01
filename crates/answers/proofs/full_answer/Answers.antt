-- The keys are those of the message's generations.
use Rattle.answers.specs.Answers.{full_answer}
use Rattle.answers.proofs.full_answer.Goals as goal

pub returns : goal.returns
unfolding full_answer
returns c =
    rw (
      c.no_contents.ensures,
      c.settings.ensures,
      c.held.ensures,
      c.working_generation-generation.ensures,
      c.held-2.ensures,
      c.transport_generation.ensures,
      c.customer_of-c.ensures,
    )
