-- An empty line has no CR at its end.
-- Assumes nothing.
use Rattle.std.proofs.Common.{◌≡◌, ℕ, List, [], ◌∷◌, length, refl, arith}
use Rattle.ground.specs.Choice.{pick}
use Rattle.cli_words.specs.Forms.{without_cr}

pub empty_line : (l : List ℕ) → length l ≡ 0 → without_cr l ≡ l
unfolding without_cr pick
empty_line [] e = refl
empty_line (x ∷ l) e = let z : ◌≡◌ {A = ℕ} 0 1 = omega arith in cc
