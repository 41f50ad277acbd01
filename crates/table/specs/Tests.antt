-- What the private functions answer: the records of a run by their place, and the tests that make up the test of a whole table.
-- Assumes nothing.
use Rattle.std.specs.Prelude.{ℕ, zero, suc, ◌+◌, Bool, true, List, ◌++◌, map, eqb, leb, take, replicate}
use Rattle.ground.specs.Choice.{both}
use Rattle.ground.specs.Lists.{all, part}
use Rattle.codec.specs.Layout.{number, many, Value, dec}
use Rattle.calendar.specs.Dates.{real_date}
use Rattle.customer.specs.Customer.{sound_customer}
use Rattle.customer.specs.declared.Customer.{Customer}
use Rattle.customer_bytes.specs.Layout.{record_width, customer_shape, customer_from, customer_at, exact_at}
use Rattle.table.specs.Table.{rising, place_from, is_unknown}
use Rattle.table.specs.Written.{holidays_start, customers_start, total_length, header_shape}

-- n dates, and n customers, that stand from p on
unfoldable pub dates_at : ℕ → ℕ → List ℕ → List ℕ
dates_at p n b = dec (many n (number 4)) p b

unfoldable pub customers_at : ℕ → ℕ → List ℕ → List Customer
customers_at p n b = map customer_from (dec (many n customer_shape) p b)

-- dates in an array of 200
abbrev pub filled : List ℕ → List ℕ
filled l = take 200 (l ++ replicate 200 0)

-- the header's counts are within their limits, and its offsets and total length follow from them
abbrev pub ok_head : Value header_shape → Bool
ok_head (total, (day, (holidays, (start, (customers, offset))))) =
    both (leb holidays 200)
    (both (leb customers 32)
    (both (eqb start holidays_start)
    (both (eqb offset (customers_start holidays)) (eqb total (total_length holidays customers)))))

unfoldable pub ok_header : List ℕ → Bool
ok_header b = ok_head (dec header_shape 0 b)

-- real dates, strictly rising
unfoldable pub ok_dates : List ℕ → Bool
ok_dates l = both (all real_date l) (rising l)

-- a record at p with n records after it: it is written exactly, sound, and its name does not come again
unfoldable pub ok_record : ℕ → ℕ → List ℕ → Bool
ok_record n p b =
    both (both (exact_at p b) (sound_customer (customer_at p b)))
    (is_unknown (place_from 0 (part p 25 b) (customers_at (p + record_width) n b)))

-- n records from p on: each is written exactly, sound, and its name does not come again
unfoldable pub ok_records : ℕ → ℕ → List ℕ → Bool
ok_records zero p b = true
ok_records (suc n) p b =
    both (exact_at p b)
    (both (sound_customer (customer_at p b))
    (both (is_unknown (place_from 0 (customer_at p b).who (customers_at (p + record_width) n b)))
    (ok_records n (p + record_width) b)))
