-- The first row that fits is what the choices one after the other lead to: by cases on the key used and the request.
-- Assumes nothing.
use Rattle.std.specs.Prelude.{None, Some}
use mathlib.Core.Path.{◌≡◌, refl}
use mathlib.Core.Bool.{Bool, true, false}
use Prim.Native.Nat.{ℕ}
use lib.Dec.{eqb}
use Rattle.ground.specs.Choice.{both, fails, pick}
use Rattle.ground.specs.First.{first_that}
use Rattle.calendar.specs.declared.Date.{Date}
use Rattle.keys.specs.declared.KeyMaker.{KeyMaker}
use Rattle.customer.specs.declared.Customer.{Customer}
use Rattle.changeover.specs.Held.{changing}
use Rattle.changeover.specs.Changes.{without_previous}
use Rattle.acceptance.specs.Grants.{on_acceptance, given, fits, nothing_granted, granted_by}
use Rattle.acceptance.specs.Steps.{granted, under_previous, new_key, under_current}
use Rattle.acceptance.specs.declared.Granted.{Granted}

module _ (c : Customer) (maker : KeyMaker) (clock : ℕ) (today : Date) where
  -- the code with the customer and the seed as they were
  abbrev only : ℕ → Granted
  only code = granted code c None 0 maker.seed

  abbrev with_current : ℕ → Granted
  with_current code = granted code c (Some c.working.key) 0 maker.seed

  -- current: the current key was used; keeps: request 0; asks: request 1
  by_tests : (current keeps asks : Bool)
      → first_that (fits (fails current) (pick keeps 0 (pick asks 1 2))) (given c maker clock today) (nothing_granted c maker)
      (on_acceptance c today)
      ≡ pick current
      (pick keeps (only 1001)
      (pick asks
      (pick (fails c.leave) (only 1004) (pick (changing c.working.previous today) (only 1005) (new_key c maker clock today)))
      (pick (changing c.working.previous today) (granted 1036 (without_previous c) None 0 maker.seed) (only 1037))))
      (pick keeps (with_current 1002) (pick asks (with_current 1003) (only 1037)))
  unfolding first_that on_acceptance both fails pick new_key
  by_tests true true asks = refl
  by_tests true false true = refl
  by_tests true false false = refl
  by_tests false true asks = refl
  by_tests false false true = refl
  by_tests false false false = refl

pub by_rows : (c : Customer) (maker : KeyMaker) (clock : ℕ) (today : Date) (generation request : ℕ)
    → granted_by c maker clock today generation request
    ≡ pick (eqb c.working.generation generation) (under_current c maker clock today request) (under_previous c maker request)
unfolding granted_by under_current under_previous
by_rows c maker clock today generation request =
    by_tests c maker clock today (eqb c.working.generation generation) (eqb request 0) (eqb request 1)
