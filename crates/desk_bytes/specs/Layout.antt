-- A desk, and what was sent, as bytes that a bureau keeps (docs/FORMAT.md): the fields in their order, each a line. Every number is written
-- lowest byte first.
-- Assumes nothing.
use Rattle.std.specs.Prelude.{ℕ, None, Option, Some}
use Rattle.std.proofs.Math.Option.{none, some}
use Rattle.codec.specs.Layout.{Shape, number, text, perhaps, within, ◌⊗◌, Value}
use Rattle.desk.specs.declared.Keys.{Keys}
use Rattle.desk.specs.declared.Held.{Held}
use Rattle.desk.specs.declared.Sent.{Sent}
use Rattle.desk.specs.declared.Numbered.{Numbered}

-- a desk takes 88 bytes, what was sent 100, the keys of one kind 19 and the one before the current one 10
abbrev pub held_size : ℕ
held_size = 88

abbrev pub sent_size : ℕ
sent_size = 100

abbrev pub keys_width : ℕ
keys_width = 19

abbrev pub before_width : ℕ
before_width = 10

-- ---- the layouts

abbrev pub numbered_shape : Shape
numbered_shape =
    number 1 ⊗  -- generation
    number 8  -- key

abbrev pub keys_shape : Shape
keys_shape =
    number 1 ⊗  -- current generation
    number 8 ⊗  -- current key
    perhaps numbered_shape  -- the key before it

abbrev pub held_shape : Shape
held_shape =
    text 25 ⊗  -- the customer's identity and qualifier
    text 25 ⊗  -- the bank's
    within keys_shape ⊗  -- transport keys
    within keys_shape  -- working keys

abbrev pub names_shape : Shape
names_shape =
    text 25 ⊗  -- receiver
    text 25 ⊗  -- sender
    number 1 ⊗  -- transport generation, a character
    number 1  -- working generation, a character

abbrev pub blocks_shape : Shape
blocks_shape =
    text 15 ⊗  -- stamp
    number 1 ⊗  -- field 13
    text 16 ⊗  -- one-time key
    text 16  -- digest

abbrev pub sent_shape : Shape
sent_shape =
    within names_shape ⊗  -- whose it is, and the keys
    within blocks_shape  -- what is repeated

-- ---- the fields are a desk's, and what was sent

abbrev pub before_from : Value (perhaps numbered_shape) → Option Numbered
before_from none = None
before_from (some (generation, key)) = Some (record { generation = generation; key = key })

abbrev pub keys_from : Value keys_shape → Keys
keys_from (generation, (key, before)) = record { generation = generation; key = key; before = before_from before }

abbrev pub held_from : Value held_shape → Held
held_from (own, (bank, (transport, working))) =
    record { own = own; bank = bank; transport = keys_from transport; working = keys_from working }

abbrev pub sent_from : Value sent_shape → Sent
sent_from ((receiver, (sender, (transport, working))), (stamp, (area, (once, digest)))) =
    record {
      receiver = receiver;
      sender = sender;
      transport = transport;
      working = working;
      stamp = stamp;
      area = area;
      once = once;
      digest = digest;
    }

-- ---- and theirs are the fields

abbrev pub before_to : Option Numbered → Value (perhaps numbered_shape)
before_to None = none
before_to (Some k) = some (k.generation, k.key)

abbrev pub keys_to : Keys → Value keys_shape
keys_to k = (k.generation, (k.key, before_to k.before))

abbrev pub held_to : Held → Value held_shape
held_to h = (h.own, (h.bank, (keys_to h.transport, keys_to h.working)))

abbrev pub names_to : Sent → Value names_shape
names_to s = (s.receiver, (s.sender, (s.transport, s.working)))

abbrev pub blocks_to : Sent → Value blocks_shape
blocks_to s = (s.stamp, (s.area, (s.once, s.digest)))

abbrev pub sent_to : Sent → Value sent_shape
sent_to s = (names_to s, blocks_to s)
