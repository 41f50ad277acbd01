-- The fault tells.
use Rattle.std.specs.Prelude.{Result, Ok, Err, is_ok}
use mathlib.Core.Path.{◌≡◌, refl, ◌∙◌}
use Rattle.message.specs.declared.Fault.{Fault}
use Rattle.verdict.specs.Outcomes.{is_sound}
use Rattle.verdict.proofs.is_sound.Goals as goal

sound_so : (f : Result Unit Fault) → is_ok f ≡ is_sound f
unfolding is_sound
sound_so (Ok _) = refl
sound_so (Err fault) = refl

pub returns : goal.returns
returns c = c.is_ok.ensures.value ∙ sound_so c.args.fault
