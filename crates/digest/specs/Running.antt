-- The digest as it runs, byte by byte: what the code keeps. That it is the definition's MAC is a law (proofs/).
-- Assumes nothing.
use Rattle.std.specs.Prelude.{ℕ, ◌+◌, ◌-◌, ◌*◌, ◌%◌, ◌^◌, List, [], ◌∷◌, ◌==◌, bit_xor, None, Option, Some}
use Rattle.ground.specs.Choice.{pick}
use Rattle.text.specs.Characters.{blank, internal}
use Rattle.digest.specs.declared.Method.{Method}
use Rattle.digest.specs.declared.Method.TheVariants.{Skh, Ske}
use Rattle.digest.specs.declared.State.{State}
use Rattle.digest.specs.declared.Running.{Running}

-- nothing kept yet
unfoldable pub begun : State
begun = record { chain = 0; block = 0; n = 0 }

-- the block so far with one byte more
abbrev pub pushed : ℕ → ℕ → ℕ
pushed block b = (block * 256 + b) % 2 ^ 64

-- and with more
unfoldable pub pushed_all : ℕ → List ℕ → ℕ
pushed_all block [] = block
pushed_all block (b ∷ l) = pushed_all (pushed block b) l

-- one byte more: the eighth closes the block
unfoldable pub fed_byte : (ℕ → ℕ) → State → ℕ → State
fed_byte e s b =
    pick (s.n % 8 == 7)
    (record { chain = e (bit_xor s.chain (pushed s.block b)); block = 0; n = (s.n + 1) % 2 ^ 64 })
    (record { chain = s.chain; block = pushed s.block b; n = (s.n + 1) % 2 ^ 64 })

unfoldable pub fed_bytes : (ℕ → ℕ) → State → List ℕ → State
fed_bytes e s [] = s
fed_bytes e s (b ∷ l) = fed_bytes e (fed_byte e s b) l

-- the MAC where it stops here: zero bytes fill a block that is not full
unfoldable pub closed : (ℕ → ℕ) → State → ℕ
closed e s =
    pick (s.n % 8 == 0) s.chain (e (bit_xor s.chain (s.block * 256 ^ (8 - s.n % 8) % 2 ^ 64)))

unfoldable pub answered : (ℕ → ℕ) → State → Option ℕ
answered e s = pick (s.n == 0) None (Some (closed e s))

-- ---- a record on its way: the states at its start, after its last character that is no blank, after its last character

unfoldable pub alike : State → Running
alike s = record { start = s; solid = s; last = s }

-- one character more
unfoldable pub took_byte : (ℕ → ℕ) → Running → ℕ → Running
took_byte e r b =
    record {
      start = r.start;
      solid = pick (b == blank) r.solid (fed_byte e r.last (internal b));
      last = fed_byte e r.last (internal b);
    }

unfoldable pub took_bytes : (ℕ → ℕ) → Running → List ℕ → Running
took_bytes e r [] = r
took_bytes e r (b ∷ l) = took_bytes e (took_byte e r b) l

-- the record's end: SKH goes on after the last character that is no blank, SKE after the last
unfoldable pub ended : Method → Running → Running
ended Skh r = alike r.solid
ended Ske r = alike r.last

-- a record's last characters, with the state that its end leaves: what isn't kept never goes into the digest
unfoldable pub took_last : (ℕ → ℕ) → Method → Running → List ℕ → Running
took_last e m r l =
    record { start = r.start; solid = (ended m (took_bytes e r l)).last; last = (ended m (took_bytes e r l)).last }

-- records one after the other, each with its end
unfoldable pub took_records : (ℕ → ℕ) → Method → Running → List (List ℕ) → Running
took_records e m r [] = r
took_records e m r (p ∷ ps) = took_records e m (ended m (took_bytes e r p)) ps
