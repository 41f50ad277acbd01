-- What is read at a customer's place is the customer there, and past the end stands nobody.
-- Assumes nothing.
use mathlib.Core.Path.{◌≡◌, refl, sym, ap, ◌∙◌}
use mathlib.Core.List.{List, []}
use Prim.Native.Nat.{ℕ, ◌+◌, ◌*◌, ◌≤◌, ◌<◌}
use native.Mathlib.Omega.{arith}
use lib.ListN.{length, get_or, replicate, get_or-eq_default}
use Rattle.ground.specs.Choice.{pick}
use Rattle.ground.specs.Lists.{part}
use Rattle.splices.specs.Bytes.{num, chunks, nums}
use Rattle.codec.specs.Layout.{width, dec}
use Rattle.customer_bytes.specs.Layout.{record_width, customer_of, customer_at, settings_at}
use Rattle.customer_bytes.proofs.Laws as bytes
use Rattle.table.specs.Table.{Table, nobody, customer_in}
use Rattle.table.specs.Written.{table_size, customers_start}
use Rattle.table.specs.Decode.{holiday_count, customer_count, table_of}
use Rattle.table.specs.Tests.{customers_at}
use Rattle.table.proofs.Decode.{table_sized, table_other}
use Rattle.table.proofs.Turns

-- all-zero bytes say nobody
zeros : customer_of (replicate record_width 0) ≡ nobody
unfolding customer_of nobody dec width part num nums chunks pick
zeros = refl

-- ---- past the end

customer_past : (b : List ℕ) → customer_at (length b) b ≡ nobody
customer_past b = bytes.customer_past (length b) b (omega arith) ∙ zeros

pub settings_past : (b : List ℕ) → (length b ≡ table_size → ⊥) → settings_at (length b) b ≡ (table_of b).settings
settings_past b n =
    bytes.settings_past (length b) b (omega arith)
    ∙ sym (bytes.settings_past 0 [] (omega arith))
    ∙ sym (ap (λ (t : Table). t.settings) (table_other b n))

pub load_other : (b : List ℕ) (i : ℕ) → (length b ≡ table_size → ⊥) → customer_at (length b) b ≡ customer_in (table_of b) i
unfolding customer_in
load_other b i n = customer_past b ∙ sym (ap (λ (t : Table). get_or t.customers i nobody) (table_other b n))

-- ---- bytes of the right length

in_table : (b : List ℕ) (i : ℕ) → length b ≡ table_size → customer_in (table_of b) i
    ≡ get_or (customers_at (customers_start (holiday_count b)) (customer_count b) b) i nobody
unfolding customer_in
in_table b i n = ap (λ (t : Table). get_or t.customers i nobody) (table_sized b n)

pub load_past : (b : List ℕ) (i : ℕ) → length b ≡ table_size → customer_count b ≤ i → customer_at (length b) b ≡ customer_in (table_of b) i
load_past b i n h =
    let l = customers_at (customers_start (holiday_count b)) (customer_count b) b in
    let m : length l ≤ i = omega (arith, Turns.customers_length (customers_start (holiday_count b)) (customer_count b) b) in
    customer_past b ∙ sym (in_table b i n ∙ get_or-eq_default l nobody {n = i} m)

pub load_there : (b : List ℕ) (i : ℕ) → length b ≡ table_size → i < customer_count b
    → customer_at (customers_start (holiday_count b) + record_width * i) b ≡ customer_in (table_of b) i
load_there b i n h =
    bytes.customer_at_lem (customers_start (holiday_count b) + record_width * i) b (omega arith)
    ∙ sym (in_table b i n ∙ Turns.get_or_customers (customer_count b) (customers_start (holiday_count b)) b i nobody h)
