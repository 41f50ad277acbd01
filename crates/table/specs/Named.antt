-- The customer that a call or a message names.
-- Assumes nothing.
use Rattle.std.specs.Prelude.{ℕ, List, None, Option, Some}
use Rattle.customer.specs.declared.Customer.{Customer}
use Rattle.table.specs.Table.{Table, place_of, nobody, customer_in, with_customer}

unfoldable pub customer_at : Table → Option ℕ → Customer
customer_at t (Some i) = customer_in t i
customer_at t None = nobody

unfoldable pub replaced_at : Table → Option ℕ → Customer → Table
replaced_at t (Some i) c = with_customer t i c
replaced_at t None c = t

-- the customer with that identity and qualifier
unfoldable pub named : Table → List ℕ → Customer
named t who = customer_at t (place_of t who)

-- the table with another record for that customer
unfoldable pub with_named : Table → List ℕ → Customer → Table
with_named t who c = replaced_at t (place_of t who) c
