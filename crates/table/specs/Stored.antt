-- What the functions that write leave: for any bytes. On a table they write the table changed, by the laws of proofs/.
-- Assumes nothing.
use Rattle.std.specs.Prelude.{ℕ, ◌+◌, ◌*◌, List, [], ◌++◌, eqb, ltb, leb, length, take, replicate}
use Rattle.ground.specs.Choice.{both, pick}
use Rattle.splices.specs.Bytes.{bytes_of, put}
use Rattle.customer_bytes.specs.Layout.{record_width, customer_bytes}
use Rattle.customer.specs.declared.Customer.{Customer}
use Rattle.customer.specs.declared.Settings.{Settings}
use Rattle.table.specs.Table.{Table}
use Rattle.table.specs.Written.{table_size, settings_start, customers_start, total_length, written}
use Rattle.table.specs.Decode.{holiday_count, customer_count}
use Rattle.table.specs.declared.Holidays.{Holidays}

-- another day
unfoldable pub day_stored : List ℕ → ℕ → List ℕ
day_stored b d = pick (eqb (length b) table_size) (put 4 (bytes_of 4 d) b) b

-- another seed of the key maker: the last eight bytes of the settings
unfoldable pub seed_stored : List ℕ → ℕ → List ℕ
seed_stored b v = pick (eqb (length b) table_size) (put (settings_start + 50) (bytes_of 8 v) b) b

-- another record for the customer at place i
unfoldable pub customer_stored : List ℕ → ℕ → Customer → List ℕ
customer_stored b i c =
    pick (both (eqb (length b) table_size) (ltb i (customer_count b)))
    (put (customers_start (holiday_count b) + record_width * i) (customer_bytes c) b)
    b

-- one customer more, at the end: its record, the count and the total length
unfoldable pub customer_added : List ℕ → Customer → List ℕ
customer_added b c =
    pick (both (eqb (length b) table_size) (ltb (customer_count b) 32))
    (put 0 (bytes_of 4 (total_length (holiday_count b) (customer_count b + 1)))
    (put 16 (bytes_of 4 (customer_count b + 1))
    (put (customers_start (holiday_count b) + record_width * customer_count b) (customer_bytes c) b)))
    b

-- a new table without customers
unfoldable pub table_set_up : List ℕ → ℕ → Settings → List ℕ → List ℕ
table_set_up b day settings holidays =
    pick (both (eqb (length b) table_size) (leb (length holidays) 200))
    (written b (record { day = day; settings = settings; holidays = holidays; customers = [] }))
    b

-- the holidays of a table by value: their count, and room for 200
unfoldable pub holidays_of : Table → Holidays
holidays_of t =
    record { count = length t.holidays; dates = take 200 (t.holidays ++ replicate 200 0) }
