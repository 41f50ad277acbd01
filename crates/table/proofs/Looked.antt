-- The customer whom a name finds, and nobody past the last one.
-- Assumes nothing.
use Rattle.std.specs.Prelude.{Option, Some, None}
use mathlib.Core.Path.{◌≡◌, sym, ap, ◌∙◌}
use mathlib.Core.List.{List}
use Prim.Native.Nat.{ℕ}
use native.Mathlib.Omega.{arith}
use lib.ListN.{length, get_or-eq_default}
use Rattle.customer.specs.declared.Customer.{Customer}
use Rattle.table.specs.Table.{Table, place_of, nobody, customer_in}
use Rattle.table.specs.Named.{customer_at, named}

-- the customer who is found, and nobody
module _ (t : Table) (who : List ℕ) (f : Option ℕ) (r : Customer) (p : f ≡ place_of t who) where
  pub found_at : (i : ℕ) → f ≡ Some i → r ≡ customer_in t i → r ≡ named t who
  unfolding named customer_at
  found_at i q e = e ∙ sym (ap (customer_at t) (sym p ∙ q))

  pub found_none : (n : ℕ) → f ≡ None → n ≡ length t.customers → r ≡ customer_in t n → r ≡ named t who
  unfolding named customer_at customer_in
  found_none n q k e =
      e ∙ get_or-eq_default t.customers nobody {n = n} (omega arith) ∙ sym (ap (customer_at t) (sym p ∙ q))
