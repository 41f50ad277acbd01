-- A table, and which tables there are (document 01, 'Covered', 'Call refusals'; our reading 72).
-- Assumes nothing.
use Rattle.std.specs.Prelude.{ℕ, ◌+◌, ◌^◌, Bool, true, false, List, [], ◌∷◌, ◌++◌, eqb, ltb, leb, length, get_or, set, replicate, None, Option, Some}
use Rattle.ground.specs.Choice.{both, pick}
use Rattle.ground.specs.Lists.{all, same}
use Rattle.calendar.specs.Dates.{real_date, earlier}
use Rattle.customer.specs.Customer.{sound_customer}
use Rattle.customer.specs.Settings.{sound_settings}
use Rattle.customer.specs.declared.KeyPair.{KeyPair}
use Rattle.customer.specs.declared.Customer.{Customer}
use Rattle.customer.specs.declared.Settings.{Settings}
use Rattle.customer.specs.declared.Changeover.{Changeover}

-- a table: the day, the bank's settings, the holidays, the customers
pub record Table : Type 0 where
  pub day : ℕ
  pub settings : Settings
  pub holidays : List ℕ
  pub customers : List Customer

-- ---- numbers that fit their places

-- bytes
abbrev pub bytes : List ℕ → Bool
bytes l = all (λ x. ltb x 256) l

-- a key is eight bytes
abbrev pub word : ℕ → Bool
word x = ltb x (2 ^ 64)

unfoldable pub previous_fits : Option Changeover → Bool
previous_fits None = true
previous_fits (Some p) = word p.key

abbrev pub pair_fits : KeyPair → Bool
pair_fits k = both (word k.key) (previous_fits k.previous)

-- identity and qualifier are 25 characters; there is room for 64 stamps; keys are eight bytes
unfoldable pub customer_fits : Customer → Bool
customer_fits c =
    both (eqb (length c.who) 25)
    (both (eqb (length c.stamps) 64)
    (both (eqb (length c.once) 64)
    (both (all word c.once) (both (pair_fits c.transport) (pair_fits c.working)))))

unfoldable pub settings_fit : Settings → Bool
settings_fit s =
    both (eqb (length s.bank) 25)
    (both (eqb (length s.software) 16) (both (word s.maker.key) (word s.maker.seed)))

-- ---- which tables there are

-- strictly rising in the calendar's order
unfoldable pub rising : List ℕ → Bool
rising [] = true
rising (x ∷ []) = true
rising (x ∷ y ∷ l) = both (earlier x y) (rising (y ∷ l))

-- the first customer with that identity and qualifier, all 25 characters, counted from i
unfoldable pub place_from : ℕ → List ℕ → List Customer → Option ℕ
place_from i who [] = None
place_from i who (c ∷ l) = pick (same c.who who) (Some i) (place_from (i + 1) who l)

unfoldable pub is_unknown : Option ℕ → Bool
is_unknown (Some i) = false
is_unknown None = true

-- no identity with qualifier is there twice
unfoldable pub distinct : List Customer → Bool
distinct [] = true
distinct (c ∷ l) = both (is_unknown (place_from 0 c.who l)) (distinct l)

unfoldable pub each_sound : List Customer → Bool
each_sound [] = true
each_sound (c ∷ l) = both (both (customer_fits c) (sound_customer c)) (each_sound l)

-- a real day; sound settings; at most 200 real holidays, strictly rising; at most 32 sound customers, none twice
unfoldable pub sound_table : Table → Bool
sound_table t =
    both (real_date t.day)
    (both (both (settings_fit t.settings) (sound_settings t.settings))
    (both (leb (length t.holidays) 200)
    (both (all real_date t.holidays)
    (both (rising t.holidays)
    (both (leb (length t.customers) 32) (both (each_sound t.customers) (distinct t.customers)))))))

-- ---- who is in a table, and what a call may change

unfoldable pub place_of : Table → List ℕ → Option ℕ
place_of t who = place_from 0 who t.customers

-- the customer of all-zero bytes, which is in no table
abbrev pub no_keys : KeyPair
no_keys = record { generation = 0; key = 0; previous = None }

unfoldable pub nobody : Customer
nobody =
    record {
      who = replicate 25 0;
      types = 0;
      agreed = false;
      leave = false;
      length = record { 0 = 0 };
      transport = no_keys;
      working = no_keys;
      count = 0;
      stamps = replicate 64 0;
      once = replicate 64 0;
    }

unfoldable pub customer_in : Table → ℕ → Customer
customer_in t i = get_or t.customers i nobody

unfoldable pub with_customer : Table → ℕ → Customer → Table
with_customer t i c =
    record { day = t.day; settings = t.settings; holidays = t.holidays; customers = set t.customers i c }

unfoldable pub with_added : Table → Customer → Table
with_added t c =
    record { day = t.day; settings = t.settings; holidays = t.holidays; customers = t.customers ++ (c ∷ []) }

unfoldable pub with_day : Table → ℕ → Table
with_day t d = record { day = d; settings = t.settings; holidays = t.holidays; customers = t.customers }

-- the settings with the key maker's seed moved on
unfoldable pub with_seed : Table → ℕ → Table
with_seed t v =
    record {
      day = t.day;
      settings =
          record {
            bank = t.settings.bank;
            software = t.settings.software;
            floor = t.settings.floor;
            maker = record { key = t.settings.maker.key; seed = v };
          };
      holidays = t.holidays;
      customers = t.customers;
    }
