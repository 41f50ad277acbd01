-- What the tests of a customer's bytes look at: the number of eight bytes at a place, and the day of a stamp. No public promise names them.
-- Assumes nothing.
use Rattle.std.specs.Prelude.{ℕ, ◌/◌, ◌%◌, Bool, List, eqb}
use Rattle.ground.specs.Choice.{both}
use Rattle.ground.specs.Lists.{part}
use Rattle.splices.specs.Bytes.{num}
use Rattle.calendar.specs.Dates.{real_date}
use Rattle.customer.specs.Customer.{real_stamp, sound_once}

abbrev pub word_at : List ℕ → ℕ → ℕ
word_at l p = num (part p 8 l)

abbrev pub real_at : List ℕ → ℕ → Bool
real_at l p = real_stamp (word_at l p)

abbrev pub once_at : List ℕ → ℕ → Bool
once_at l p = sound_once (word_at l p)

abbrev pub zero_at : List ℕ → ℕ → Bool
zero_at l p = eqb (word_at l p) 0

-- the start of a real day as a stamp's fifteen digits, which is kept while stamps are tested
unfoldable pub starts_day : ℕ → Bool
starts_day day = both (eqb (day % 1000000000) 0) (real_date (day / 1000000000))
