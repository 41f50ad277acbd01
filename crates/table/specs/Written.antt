-- The bytes that a table is written as, field by field in the order of docs/FORMAT.md,
-- and what 'no table is written as these bytes' (refusal 2) means.
-- Assumes nothing.
use Rattle.std.specs.Prelude.{ℕ, ◌+◌, ◌*◌, ◌≡◌, true, List, ◌++◌, map, length, drop}
use Rattle.codec.specs.Layout.{Shape, number, many, within, ◌⊗◌, Value, enc}
use Rattle.customer_bytes.specs.Layout.{record_width, settings_width, customer_shape, settings_shape, customer_to, settings_to}
use Rattle.table.specs.Table.{Table, sound_table}

-- a table is lent as this many bytes
abbrev pub table_size : ℕ
table_size = 49152

-- the settings stand after the header's six numbers of four bytes
abbrev pub settings_start : ℕ
settings_start = 24

-- the holidays stand after the settings
abbrev pub holidays_start : ℕ
holidays_start = settings_start + settings_width

-- the customers stand after the holidays, four bytes each
abbrev pub customers_start : ℕ → ℕ
customers_start holidays = holidays_start + 4 * holidays

abbrev pub total_length : ℕ → ℕ → ℕ
total_length holidays customers = customers_start holidays + record_width * customers

-- ---- the layout

abbrev pub header_shape : Shape
header_shape =
    number 4 ⊗  -- total length
    number 4 ⊗  -- day
    number 4 ⊗  -- holiday count
    number 4 ⊗  -- holiday offset
    number 4 ⊗  -- customer count
    number 4  -- customer offset

-- a table with that many holidays and customers
abbrev pub table_shape : ℕ → ℕ → Shape
table_shape holidays customers =
    within header_shape ⊗  -- the header, field by field
    within settings_shape ⊗  -- the settings, field by field
    many holidays (number 4) ⊗  -- holidays
    many customers customer_shape  -- customers

-- the header that the day and the two counts give
abbrev pub header_to : (day holidays customers : ℕ) → Value header_shape
header_to day holidays customers =
    (total_length holidays customers, (day, (holidays, (holidays_start, (customers, customers_start holidays)))))

-- a table's fields
abbrev pub table_to : (t : Table) → Value (table_shape (length t.holidays) (length t.customers))
table_to t = (
  header_to t.day (length t.holidays) (length t.customers),
  (settings_to t.settings, (t.holidays, map customer_to t.customers)),
)

-- what a table is written as
unfoldable pub encode : Table → List ℕ
encode t = enc (table_shape (length t.holidays) (length t.customers)) (table_to t)

-- the table t is written as the bytes b: those past its total length are unread
pub record WrittenAs (t : Table) (b : List ℕ) : Type 0 where
  pub sound : sound_table t ≡ true
  pub rest : List ℕ
  pub bytes : b ≡ encode t ++ rest
  pub size : length b ≡ table_size

-- b with the table t written at its start, and what is past it kept
unfoldable pub written : List ℕ → Table → List ℕ
written b t = encode t ++ drop (length (encode t)) b
