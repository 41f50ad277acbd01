-- The table that bytes say, and the test that they are one.
-- Assumes nothing.
use Rattle.std.specs.Prelude.{ℕ, min, Bool, List, [], map, eqb, length, take}
use Rattle.ground.specs.Choice.{both, pick}
use Rattle.ground.specs.Lists.{same}
use Rattle.codec.specs.Layout.{Value, dec}
use Rattle.customer_bytes.specs.Layout.{customer_from, settings_from, settings_at}
use Rattle.table.specs.Table.{Table, sound_table}
use Rattle.table.specs.Written.{table_size, header_shape, table_shape, encode}

-- what stands in a header
abbrev pub holidays_in : Value header_shape → ℕ
holidays_in (total, (day, (holidays, (start, (customers, offset))))) = holidays

abbrev pub customers_in : Value header_shape → ℕ
customers_in (total, (day, (holidays, (start, (customers, offset))))) = customers

-- the counts in the header, none more than a table has room for
abbrev pub holiday_count : List ℕ → ℕ
holiday_count b = min 200 (holidays_in (dec header_shape 0 b))

abbrev pub customer_count : List ℕ → ℕ
customer_count b = min 32 (customers_in (dec header_shape 0 b))

-- the table that a table's fields are
abbrev pub table_from : (h n : ℕ) → Value (table_shape h n) → Table
table_from h n ((total, (day, rest)), (settings, (holidays, customers))) =
    record { day = day; settings = settings_from settings; holidays = holidays; customers = map customer_from customers }

-- the table that bytes of the right length say; of any other length, one without holidays and customers
unfoldable pub table_of : List ℕ → Table
table_of b =
    pick (eqb (length b) table_size)
    (table_from (holiday_count b) (customer_count b) (dec (table_shape (holiday_count b) (customer_count b)) 0 b))
    (record { day = 0; settings = settings_at 0 []; holidays = []; customers = [] })

-- a table is written as these bytes: the table they say is sound, and they are what it is written as
unfoldable pub is_table : List ℕ → Bool
is_table b =
    both (eqb (length b) table_size)
    (both (sound_table (table_of b)) (same (encode (table_of b)) (take (length (encode (table_of b))) b)))
