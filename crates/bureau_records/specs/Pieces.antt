-- The records of a batch as they are read, byte by byte: what goes into the digest. Lines end with LF or CR LF, so a CR waits for the byte
-- after it.
-- Assumes nothing.
use Rattle.std.specs.Prelude.{ℕ, Bool, true, false, List, [], ◌∷◌, ◌==◌}
use Rattle.ground.specs.Choice.{pick}
use Rattle.digest.specs.Running.{took_byte, ended}
use Rattle.digest.specs.declared.Method.{Method}
use Rattle.digest.specs.declared.Running.{Running}

-- the digest, and whether a CR waits
pub record Heard : Type 0 where
  pub running : Running
  pub waits : Bool

-- a CR that waited is a character of its record after all
unfoldable pub freed : (ℕ → ℕ) → Heard → Running
freed e h = pick h.waits (took_byte e h.running 13) h.running

-- one byte more: LF ends the record, and a CR before it is of the line end; CR waits; any other is a character
unfoldable pub heard_byte : (ℕ → ℕ) → Method → Heard → ℕ → Heard
heard_byte e m h b =
    pick (b == 10) (record { running = ended m h.running; waits = false })
    (pick (b == 13) (record { running = freed e h; waits = true })
    (record { running = took_byte e (freed e h) b; waits = false }))

unfoldable pub heard_bytes : (ℕ → ℕ) → Method → Heard → List ℕ → Heard
heard_bytes e m h [] = h
heard_bytes e m h (b ∷ l) = heard_bytes e m (heard_byte e m h b) l
