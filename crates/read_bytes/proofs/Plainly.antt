-- A run grows by a byte that is neither LF nor CR, and ends where none waited before it and the size limit has room for it.
-- Assumes nothing.
use Prim.Native.Nat.{ℕ, suc, ◌+◌, ◌-◌, ◌<◌, ◌≤◌}
use mathlib.Core.Path.{◌≡◌, ap, ◌∙◌}
use mathlib.Core.Bool.{true, false}
use mathlib.Core.List.{List}
use native.Mathlib.Omega.{arith}
use borrow.Author.Tests.{ne_eqb}
use lib.ListN.{length, get_or, take, drop, length-drop}
use lib.Seq.{take-suc, get_or-drop}
use Rattle.ground.specs.Choice.{fails}
use Rattle.ground.specs.Lists.{all}
use Rattle.ground.proofs.Choices.{join}
use Rattle.ground.proofs.Lists.{all_snoc}
use Rattle.whole_file.specs.Records.{lf, cr, size_limit}
use Rattle.session.specs.declared.Line.{Line}
use Rattle.law_cutting.specs.Plain.{plain}
use Rattle.read_bytes.specs.Runs.{Runs}

is_plain : (b : ℕ) → (b ≡ lf → ⊥) → (b ≡ cr → ⊥) → plain b ≡ true
unfolding plain fails
is_plain b p q = join _ _ (ap fails (ne_eqb b lf p)) (ap fails (ne_eqb b cr q))

-- the bytes from one place to another
abbrev pub between : List ℕ → ℕ → ℕ → List ℕ
between input from to = take (to - from) (drop from input)

module _ (input : List ℕ) (from : ℕ) where
  pub none_yet : all plain (between input from from) ≡ true
  unfolding all
  none_yet = let z : from - from ≡ 0 = omega arith in rw z

  module _ (to : ℕ) (s : from ≤ to) where
    pub one_more : to < length input → all plain (between input from to) ≡ true
        → (get_or input to 0 ≡ lf → ⊥) → (get_or input to 0 ≡ cr → ⊥) → all plain (between input from (to + 1)) ≡ true
    one_more h a p q =
        let n : to + 1 - from ≡ suc (to - from) = omega arith in
        let k : from + (to - from) ≡ to = omega arith in
        let i : to - from < length (drop from input) = omega (arith, length-drop from input) in
        let g : get_or (drop from input) (to - from) 0 ≡ get_or input to 0 =
        get_or-drop from input (to - from) 0 ∙ ap (λ (j : ℕ). get_or input j 0) k in
        rw (n, take-suc (drop from input) (to - from) 0 i, g) (all_snoc plain (between input from to) (get_or input to 0) a (is_plain _ p q))

    pub run_to : (l : Line) → to ≤ length input → all plain (between input from to) ≡ true → to - from ≤ size_limit - l.size
        → l.size ≤ size_limit → l.cr ≡ false → Runs input from l to
    run_to l w a f z c = record { starts = s; within = w; characters = a; none_waits = λ h. c; fits = omega arith }

  -- a CR waits, and no run begins
  pub no_run : (l : Line) → from ≤ length input → l.size ≤ size_limit → Runs input from l from
  no_run l w z =
      record { starts = omega arith; within = w; characters = none_yet; none_waits = λ h. absurd (omega arith); fits = omega arith }
