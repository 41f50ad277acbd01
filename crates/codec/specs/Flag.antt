-- A flag: 0 or 1.
-- Assumes nothing.
use Rattle.std.specs.Prelude.{◌≡◌, refl, Bool, true, false, ℕ, zero, suc, ◌<◌, eqb}
use Rattle.std.proofs.Common.{arith}
use Rattle.ground.specs.Choice.{one}
use Rattle.codec.specs.Layout.{Shape, named}

pub flag_small : (b : Bool) → one b < 2
unfolding one
flag_small true = omega arith
flag_small false = omega arith

pub flag_there : (b : Bool) → eqb (one b) 1 ≡ b
unfolding one
flag_there true = refl
flag_there false = refl

pub flag_back : (x : ℕ) → x < 2 → one (eqb x 1) ≡ x
unfolding one
flag_back zero h = refl
flag_back (suc zero) h = refl
flag_back (suc (suc x)) h = absurd (omega arith)

abbrev pub flag : Shape
flag =
    named
    (record {
      size = 2;
      number = one;
      numbered = λ x. eqb x 1;
      byte = omega arith;
      small = flag_small;
      there = flag_there;
      back = flag_back;
    })
