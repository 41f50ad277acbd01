-- One turn of each repetition.
-- Assumes nothing.
use mathlib.Core.Path.{◌≡◌, refl, ap, ◌∙◌}
use mathlib.Core.List.{List}
use Prim.Native.Nat.{ℕ, zero, suc, ◌+◌, ◌-◌, ◌≤◌, ◌<◌}
use native.Mathlib.Omega.{arith}
use lib.ListN.{get_or}
use Rattle.des.specs.Des.{cipher, schedule_of}
use Rattle.bench_des.specs.Again.{again, scheduled}

less : (n : ℕ) → suc n - 1 ≡ n
less n = omega arith

again_step : (ks : List ℕ) (x n : ℕ) → 0 < n → again ks x n ≡ again ks (cipher ks x) (n - 1)
unfolding again
again_step ks x zero h = omega arith
again_step ks x (suc n) h = rw (less n)

turn_less : (n i : ℕ) → i < n → n - i - 1 ≡ n - (i + 1)
turn_less n i h = omega arith

pub again_turn : (ks : List ℕ) (x n i : ℕ) → i < n → again ks x (n - i) ≡ again ks (cipher ks x) (n - (i + 1))
again_turn ks x n i h = again_step ks x (n - i) (omega arith) ∙ ap (again ks (cipher ks x)) (turn_less n i h)

pub again_done : (ks : List ℕ) (x n : ℕ) → n ≤ 0 → again ks x n ≡ x
unfolding again
again_done ks x zero h = refl
again_done ks x (suc n) h = omega arith

scheduled_step : (k n : ℕ) → 0 < n → scheduled k n ≡ scheduled (get_or (schedule_of k) 15 0) (n - 1)
unfolding scheduled
scheduled_step k zero h = omega arith
scheduled_step k (suc n) h = rw (less n)

pub scheduled_turn : (k n i : ℕ) → i < n → scheduled k (n - i) ≡ scheduled (get_or (schedule_of k) 15 0) (n - (i + 1))
scheduled_turn k n i h = scheduled_step k (n - i) (omega arith) ∙ ap (scheduled (get_or (schedule_of k) 15 0)) (turn_less n i h)

pub scheduled_done : (k n : ℕ) → n ≤ 0 → scheduled k n ≡ k
unfolding scheduled
scheduled_done k zero h = refl
scheduled_done k (suc n) h = omega arith
