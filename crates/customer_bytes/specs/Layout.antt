-- How a customer's record and a bank's settings are laid out as bytes, field by field in the order of docs/FORMAT.md, and how their fields
-- are a customer's and the settings'. Every number is written lowest byte first.
-- Assumes nothing.
use Rattle.std.specs.Prelude.{ℕ, ◌+◌, Bool, List, leb, length, replicate, None, Option, Some}
use Rattle.std.proofs.Math.Option.{none, some}
use Rattle.ground.specs.Choice.{pick}
use Rattle.ground.specs.Lists.{part, same}
use Rattle.codec.specs.Layout.{Shape, number, text, numbers, perhaps, within, ◌⊗◌, Value, enc, dec}
use Rattle.codec.specs.Flag.{flag}
use Rattle.customer.specs.declared.KeyPair.{KeyPair}
use Rattle.customer.specs.declared.Customer.{Customer}
use Rattle.customer.specs.declared.Settings.{Settings}
use Rattle.customer.specs.declared.Changeover.{Changeover}

-- a customer's record takes 1,109 bytes, the terms 60 of them, the keys of one kind 27, a previous key 18; the settings take 58
abbrev pub record_width : ℕ
record_width = 1109

abbrev pub terms_width : ℕ
terms_width = 60

abbrev pub pair_width : ℕ
pair_width = 27

abbrev pub previous_width : ℕ
previous_width = 18

abbrev pub settings_width : ℕ
settings_width = 58

-- ---- the layouts

-- a previous key, where one is held
abbrev pub previous_held : Shape
previous_held =
    number 1 ⊗  -- previous generation
    number 8 ⊗  -- previous key
    number 4 ⊗  -- first day of the changeover
    number 4  -- last day of the changeover

-- the keys of one kind
abbrev pub pair_shape : Shape
pair_shape =
    number 1 ⊗  -- current generation
    number 8 ⊗  -- current key
    perhaps previous_held  -- previous key held

-- what is agreed with a customer, and its keys
abbrev pub terms_shape : Shape
terms_shape =
    number 2 ⊗  -- data types
    flag ⊗  -- agreed
    flag ⊗  -- leave to ask for keys
    number 1 ⊗  -- changeover length in calendar days
    pair_shape ⊗  -- transport keys
    pair_shape ⊗  -- working keys
    number 1  -- number of stamps

abbrev pub customer_shape : Shape
customer_shape =
    text 25 ⊗  -- identity and qualifier
    within terms_shape ⊗  -- the terms, field by field
    numbers 64 8 ⊗  -- stamps
    numbers 64 8  -- one-time keys

abbrev pub settings_shape : Shape
settings_shape =
    text 25 ⊗  -- bank identity and qualifier
    text 16 ⊗  -- software name
    number 1 ⊗  -- version floor
    number 8 ⊗  -- key maker K
    number 8  -- key maker V

-- ---- the fields are a customer's, and a customer's fields

abbrev pub previous_from : Value (perhaps previous_held) → Option Changeover
previous_from none = None
previous_from (some (g, (k, (f, l)))) =
    Some (record { generation = g; key = k; first = record { yymmdd = f }; last = record { yymmdd = l } })

abbrev pub previous_to : Option Changeover → Value (perhaps previous_held)
previous_to None = none
previous_to (Some p) = some (p.generation, (p.key, (p.first.yymmdd, p.last.yymmdd)))

abbrev pub pair_from : Value pair_shape → KeyPair
pair_from (g, (k, p)) = record { generation = g; key = k; previous = previous_from p }

abbrev pub pair_to : KeyPair → Value pair_shape
pair_to k = (k.generation, (k.key, previous_to k.previous))

abbrev pub customer_from : Value customer_shape → Customer
customer_from (who, ((types, (agreed, (leave, (days, (transport, (working, count)))))), (stamps, once))) =
    record {
      who = who;
      types = types;
      agreed = agreed;
      leave = leave;
      length = record { 0 = days };
      transport = pair_from transport;
      working = pair_from working;
      count = count;
      stamps = stamps;
      once = once;
    }

abbrev pub terms_to : Customer → Value terms_shape
terms_to c =
    (c.types, (c.agreed, (c.leave, (c.length.0, (pair_to c.transport, (pair_to c.working, c.count))))))

abbrev pub customer_to : Customer → Value customer_shape
customer_to c = (c.who, (terms_to c, (c.stamps, c.once)))

abbrev pub settings_from : Value settings_shape → Settings
settings_from (bank, (software, (floor, (key, seed)))) =
    record { bank = bank; software = software; floor = floor; maker = record { key = key; seed = seed } }

abbrev pub settings_to : Settings → Value settings_shape
settings_to s = (s.bank, (s.software, (s.floor, (s.maker.key, s.maker.seed))))

-- ---- as bytes: what each is written as, and what bytes say

unfoldable pub customer_bytes : Customer → List ℕ
customer_bytes c = enc customer_shape (customer_to c)

unfoldable pub customer_of : List ℕ → Customer
customer_of l = customer_from (dec customer_shape 0 l)

unfoldable pub settings_bytes : Settings → List ℕ
settings_bytes s = enc settings_shape (settings_to s)

unfoldable pub settings_of : List ℕ → Settings
settings_of l = settings_from (dec settings_shape 0 l)

-- ---- records in a longer list, for any place: where there is no room for one, what all-zero bytes say

unfoldable pub raw_at : ℕ → ℕ → List ℕ → List ℕ
raw_at w at l = pick (leb (at + w) (length l)) (part at w l) (replicate w 0)

unfoldable pub customer_at : ℕ → List ℕ → Customer
customer_at at l = customer_of (raw_at record_width at l)

unfoldable pub settings_at : ℕ → List ℕ → Settings
settings_at at l = settings_of (raw_at settings_width at l)

-- the bytes at `at` are just what the customer they say is written as: flags are 0 or 1, and what is not there is zero
unfoldable pub exact_at : ℕ → List ℕ → Bool
exact_at at l = same (customer_bytes (customer_at at l)) (raw_at record_width at l)
