-- The stamps that a customer's record holds (document 01, 'Order of checks' 1015, 1017, 1018, 1034).
-- Assumes nothing.
use Rattle.std.specs.Prelude.{ℕ, ◌+◌, ◌/◌, Bool, List, [], ◌∷◌, ◌++◌, eqb, length, take, replicate}
use Rattle.ground.specs.Choice.{both, fails, pick}
use Rattle.ground.specs.Lists.{member}
use Rattle.calendar.specs.Dates.{dated}
use Rattle.calendar.specs.Banking.{too_old}
use Rattle.calendar.specs.declared.Date.{Date}
use Rattle.customer.specs.declared.Customer.{Customer}

-- the stamps of accepted messages that the record holds, and their one-time keys (0 for an ESI)
abbrev pub held_stamps : Customer → List ℕ
held_stamps c = take c.count c.stamps

abbrev pub held_once : Customer → List ℕ
held_once c = take c.count c.once

-- 1018: the customer holds that stamp
unfoldable pub holds_stamp : Customer → (stamp : ℕ) → Bool
holds_stamp c s = member s (held_stamps c)

-- the date of a stamp yymmddhhmmssnnn
abbrev pub stamp_date : (stamp : ℕ) → Date
stamp_date s = dated (s / 1000000000)

-- the stamp's date is too old today
abbrev pub stamp_old : (holidays : List ℕ) (today : Date) (stamp : ℕ) → Bool
stamp_old holidays today s = too_old holidays (stamp_date s) today

-- of a list beside the stamps, what stands by a stamp that is not too old
unfoldable pub live_of : (holidays : List ℕ) (today : Date) (stamps beside : List ℕ) → List ℕ
live_of holidays today [] xs = []
live_of holidays today (s ∷ ss) [] = []
live_of holidays today (s ∷ ss) (x ∷ xs) =
    pick (stamp_old holidays today s) (live_of holidays today ss xs) (x ∷ live_of holidays today ss xs)

abbrev pub live_stamps : (holidays : List ℕ) (today : Date) → Customer → List ℕ
live_stamps holidays today c = live_of holidays today (held_stamps c) (held_stamps c)

abbrev pub live_once : (holidays : List ℕ) (today : Date) → Customer → List ℕ
live_once holidays today c = live_of holidays today (held_stamps c) (held_once c)

-- 1017: an accepted batch of this customer, its stamp not yet too old, had the same one-time key (an ESI has none)
unfoldable pub once_used : (holidays : List ℕ) (today : Date) → Customer → (key : ℕ) → Bool
once_used holidays today c key = both (fails (eqb key 0)) (member key (live_once holidays today c))

-- 64 places, those that are not used zero
abbrev pub in_places : List ℕ → List ℕ
in_places l = take 64 (l ++ replicate 64 0)

-- the record with those alone that are not too old, in their order
unfoldable pub with_live : (holidays : List ℕ) (today : Date) → Customer → Customer
with_live holidays today c =
    record {
      who = c.who;
      types = c.types;
      agreed = c.agreed;
      leave = c.leave;
      length = c.length;
      transport = c.transport;
      working = c.working;
      count = length (live_stamps holidays today c);
      stamps = in_places (live_stamps holidays today c);
      once = in_places (live_once holidays today c);
    }

-- the record with a stamp marked used: those that are not too old, in their order, then the new one, with the one-time key of a batch
unfoldable pub with_stamp : (holidays : List ℕ) (today : Date) → Customer → (stamp once : ℕ) → Customer
with_stamp holidays today c stamp once =
    record {
      who = c.who;
      types = c.types;
      agreed = c.agreed;
      leave = c.leave;
      length = c.length;
      transport = c.transport;
      working = c.working;
      count = length (live_stamps holidays today c) + 1;
      stamps = in_places (live_stamps holidays today c ++ (stamp ∷ []));
      once = in_places (live_once holidays today c ++ (once ∷ []));
    }
