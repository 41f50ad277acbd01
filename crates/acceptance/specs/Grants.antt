-- What acceptance grants (document 01, 'Keys', 'On acceptance'): a table in the document's order, and the first row that fits is given.
-- Assumes nothing.
use Rattle.std.specs.Prelude.{ℕ, Bool, true, false, List, [], ◌∷◌, eqb, None, Option, Some}
use Rattle.ground.specs.Choice.{both, fails, pick}
use Rattle.ground.specs.First.{first_that}
use Rattle.calendar.specs.declared.Date.{Date}
use Rattle.keys.specs.Maker.{key_of, next_seed}
use Rattle.keys.specs.declared.KeyMaker.{KeyMaker}
use Rattle.customer.specs.declared.Customer.{Customer}
use Rattle.changeover.specs.Held.{changing}
use Rattle.changeover.specs.Changes.{with_working, without_previous}
use Rattle.acceptance.specs.declared.Granted.{Granted}

-- ---- the table

-- the key that the reply encloses
pub data Enclosed : Type 0 where
  NoKey : Enclosed
  CurrentKey : Enclosed
  NewKey : Enclosed

-- what becomes of the customer's working keys
pub data Effect : Type 0 where
  Unchanged : Effect
  KeyMade : Effect
  PreviousDropped : Effect

pub record Row : Type 0 where
  -- the previous working key was used, and else the current one
  pub previous : Bool
  pub request : ℕ
  pub condition : Bool
  pub code : ℕ
  pub encloses : Enclosed
  pub effect : Effect

abbrev row : (previous : Bool) (request : ℕ) (condition : Bool) (code : ℕ) → Enclosed → Effect → Row
row previous request condition code encloses effect =
    record {
      previous = previous;
      request = request;
      condition = condition;
      code = code;
      encloses = encloses;
      effect = effect;
    }

-- the condition of a row that asks for the key used and the request alone
abbrev always : Bool
always = true

-- key used, request, condition, code, key enclosed, effect
unfoldable pub on_acceptance : Customer → (today : Date) → List Row
on_acceptance c today =
    let no_leave : Bool = fails c.leave in
    let busy : Bool = changing c.working.previous today in
    -- with the previous working key used
    row true 0 always 1002 CurrentKey Unchanged ∷
    row true 1 always 1003 CurrentKey Unchanged ∷
    row true 2 always 1037 NoKey Unchanged ∷
    -- with the current key
    row false 0 always 1001 NoKey Unchanged ∷
    row false 1 no_leave 1004 NoKey Unchanged ∷
    row false 1 busy 1005 NoKey Unchanged ∷
    row false 1 always 1003 NewKey KeyMade ∷
    row false 2 busy 1036 NoKey PreviousDropped ∷
    row false 2 always 1037 NoKey Unchanged ∷
    []

-- ---- what a row says

abbrev new_key : KeyMaker → (clock : ℕ) → ℕ
new_key maker clock = key_of maker.key maker.seed clock

abbrev customer_after : Effect → Customer → KeyMaker → (clock : ℕ) (today : Date) → Customer
customer_after Unchanged c maker clock today = c
customer_after KeyMade c maker clock today = with_working c (new_key maker clock) today
customer_after PreviousDropped c maker clock today = without_previous c

abbrev enclosed_by : Enclosed → Customer → KeyMaker → (clock : ℕ) → Option ℕ
enclosed_by NoKey c maker clock = None
enclosed_by CurrentKey c maker clock = Some c.working.key
enclosed_by NewKey c maker clock = Some (new_key maker clock)

-- how many keys were made
abbrev made_by : Effect → ℕ
made_by Unchanged = 0
made_by KeyMade = 1
made_by PreviousDropped = 0

-- the key maker's seed afterwards
abbrev seed_after : Effect → KeyMaker → (clock : ℕ) → ℕ
seed_after Unchanged maker clock = maker.seed
seed_after KeyMade maker clock = next_seed maker.key maker.seed clock
seed_after PreviousDropped maker clock = maker.seed

abbrev pub given : Customer → KeyMaker → (clock : ℕ) (today : Date) → Row → Granted
given c maker clock today r =
    record {
      code = r.code;
      customer = customer_after r.effect c maker clock today;
      enclosed = enclosed_by r.encloses c maker clock;
      made = made_by r.effect;
      seed = seed_after r.effect maker clock;
    }

-- ---- the first row that fits

abbrev pub fits : (previous : Bool) (request : ℕ) → Row → Bool
fits previous request r = both (pick r.previous previous (fails previous)) (both (eqb r.request request) r.condition)

-- the form check lets 0, 1 and 2 through; any other number would be served as 2 is
abbrev pub asked : (request : ℕ) → ℕ
asked request = pick (eqb request 0) 0 (pick (eqb request 1) 1 2)

-- what no row gives: the code 0. A row always fits, since each code that is granted is the table's (`grant_code`)
abbrev pub nothing_granted : Customer → KeyMaker → Granted
nothing_granted c maker = record { code = 0; customer = c; enclosed = None; made = 0; seed = maker.seed }

-- the working generation of the message is the current one, or else the previous one
unfoldable pub granted_by : Customer → KeyMaker → (clock : ℕ) (today : Date) (generation request : ℕ) → Granted
granted_by c maker clock today generation request =
    first_that (fits (fails (eqb c.working.generation generation)) (asked request)) (given c maker clock today) (nothing_granted c maker)
    (on_acceptance c today)
