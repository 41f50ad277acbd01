-- The known fields stand in room of one size, whatever the message has.
-- Assumes nothing.
use Prim.Native.Nat.{ℕ}
use mathlib.Core.Path.{◌≡◌}
use mathlib.Core.List.{List}
use native.Mathlib.Omega.{arith}
use lib.ListN.{length, length-append, length-take, length-replicate}
use Rattle.message.specs.declared.Kind.{Kind}
use Rattle.whole_file.specs.Messages.{known_text}

pub known_length : (kind : Kind) (l : List ℕ) → length (known_text kind l) ≡ 161
unfolding known_text
known_length kind l = simp (length-take, length-append, length-replicate) (omega arith)
