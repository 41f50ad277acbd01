-- What a new key makes of a customer's keys (document 01, 'Keys').
-- Assumes nothing.
use Rattle.std.specs.Prelude.{ℕ, None, Some}
use Rattle.calendar.specs.Dates.{later}
use Rattle.calendar.specs.declared.CalendarDays.{CalendarDays}
use Rattle.calendar.specs.declared.Date.{Date}
use Rattle.keys.specs.Keys.{next_generation}
use Rattle.customer.specs.declared.KeyPair.{KeyPair}
use Rattle.customer.specs.declared.Customer.{Customer}

-- a new key starts today; the one before it is the previous one, from today to today plus the length in calendar days
unfoldable pub changed : (old : KeyPair) (generation key : ℕ) (today : Date) (days : CalendarDays) → KeyPair
changed old generation key today days =
    record {
      generation = generation;
      key = key;
      previous =
          Some
          (record {
            generation = old.generation;
            key = old.key;
            first = today;
            last = later today days;
          });
    }

-- the customer with other keys, and all else as it was
unfoldable pub with_keys : Customer → (transport working : KeyPair) → Customer
with_keys c transport working =
    record {
      who = c.who;
      types = c.types;
      agreed = c.agreed;
      leave = c.leave;
      length = c.length;
      transport = transport;
      working = working;
      count = c.count;
      stamps = c.stamps;
      once = c.once;
    }

-- the customer with a new transport key
unfoldable pub with_transport : Customer → (generation key : ℕ) (today : Date) → Customer
with_transport c generation key today = with_keys c (changed c.transport generation key today c.length) c.working

-- the customer with a new working key, of the next generation
unfoldable pub with_working : Customer → (key : ℕ) (today : Date) → Customer
with_working c key today =
    with_keys c c.transport
    (changed c.working (next_generation c.working.generation) key today c.length)

-- the customer without its previous working key
unfoldable pub without_previous : Customer → Customer
without_previous c =
    with_keys c c.transport
    (record { generation = c.working.generation; key = c.working.key; previous = None })
