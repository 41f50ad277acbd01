-- Which bytes are a desk's, and what a desk and what was sent are written as.
-- Assumes nothing.
use Rattle.std.specs.Prelude.{ℕ, Bool, true, List, eqb, leb, length, replicate, None, Option, Some}
use Rattle.ground.specs.Choice.{both, pick}
use Rattle.ground.specs.Lists.{same}
use Rattle.codec.specs.Layout.{enc, dec}
use Rattle.keys.specs.Parity.{odd_parity}
use Rattle.keys.specs.Keys.{next_generation}
use Rattle.customer.specs.Settings.{sound_who}
use Rattle.desk.specs.Held.{no_desk}
use Rattle.desk.specs.declared.Keys.{Keys}
use Rattle.desk.specs.declared.Held.{Held}
use Rattle.desk.specs.declared.Sent.{Sent}
use Rattle.desk_bytes.specs.Layout.{held_size, sent_size, held_shape, sent_shape, held_from, sent_from, held_to, sent_to}
use Rattle.desk.specs.declared.Numbered.{Numbered}

-- ---- which desks there are

-- the current generation follows the one before it; keys have odd parity
unfoldable pub sound_before : ℕ → Option Numbered → Bool
sound_before current None = true
sound_before current (Some k) = both (leb k.generation 9) (both (eqb (next_generation k.generation) current) (odd_parity k.key))

unfoldable pub sound_keys : Keys → Bool
sound_keys k = both (leb k.generation 9) (both (odd_parity k.key) (sound_before k.generation k.before))

-- both identities are names, and so on
unfoldable pub sound_held : Held → Bool
sound_held h =
    both (sound_who h.own) (both (sound_who h.bank) (both (sound_keys h.transport) (sound_keys h.working)))

-- ---- a desk

unfoldable pub held_bytes : Held → List ℕ
held_bytes h = enc held_shape (held_to h)

unfoldable pub held_of : List ℕ → Held
held_of l = held_from (dec held_shape 0 l)

-- the bytes are just what the desk they say is written as, and there is such a desk
unfoldable pub is_held : List ℕ → Bool
is_held b = both (eqb (length b) held_size) (both (same (held_bytes (held_of b)) b) (sound_held (held_of b)))

-- the desk that bytes say; bytes that are none say no desk
unfoldable pub held_in : List ℕ → Held
held_in b = pick (is_held b) (held_of b) no_desk

-- bytes with a desk written over them; those of another length stay
unfoldable pub held_stored : List ℕ → Held → List ℕ
held_stored b h = pick (eqb (length b) held_size) (held_bytes h) b

-- ---- what was sent: any characters

unfoldable pub sent_bytes : Sent → List ℕ
sent_bytes s = enc sent_shape (sent_to s)

unfoldable pub sent_of : List ℕ → Sent
sent_of l = sent_from (dec sent_shape 0 l)

-- bytes of another length say nothing: all zeros
unfoldable pub nothing_sent : Sent
nothing_sent =
    record {
      receiver = replicate 25 0;
      sender = replicate 25 0;
      transport = 0;
      working = 0;
      stamp = replicate 15 0;
      area = 0;
      once = replicate 16 0;
      digest = replicate 16 0;
    }

unfoldable pub sent_in : List ℕ → Sent
sent_in b = pick (eqb (length b) sent_size) (sent_of b) nothing_sent

unfoldable pub sent_stored : List ℕ → Sent → List ℕ
sent_stored b s = pick (eqb (length b) sent_size) (sent_bytes s) b
