-- What a run of characters is, and the characters that a byte tells with the CR that waited for it.
-- Assumes nothing.
use Rattle.std.specs.Prelude.{ℕ, ◌+◌, ◌-◌, ◌<◌, ◌≤◌, ◌≡◌, Bool, true, false, List, [], ◌∷◌, ◌++◌, eqb, length, take, drop}
use Rattle.ground.specs.Choice.{pick}
use Rattle.ground.specs.Lists.{all}
use Rattle.whole_file.specs.Records.{cr, size_limit}
use Rattle.session.specs.Lines.{waited}
use Rattle.session.specs.declared.Line.{Line}
use Rattle.law_cutting.specs.Plain.{plain}

-- the bytes from one place to another can be heard at once
pub record Runs (input : List ℕ) (from : ℕ) (l : Line) (to : ℕ) : Type 0 where
  pub starts : from ≤ to
  pub within : to ≤ length input
  pub characters : all plain (take (to - from) (drop from input)) ≡ true
  pub none_waits : from < to → l.cr ≡ false
  pub fits : l.size + (to - from) ≤ size_limit

-- a CR waits for the byte after it
unfoldable pub told_by : Bool → ℕ → List ℕ
told_by waiting b = pick (eqb b cr) (waited waiting) (waited waiting ++ (b ∷ []))
