use Rattle.std.proofs.Common.{◌≡◌, ℕ, ◌+◌, ◌%◌, ◌^◌, ◌<◌, map, length}
use Rattle.text.specs.Characters.{internal}
use Rattle.des.specs.Joined.{joined_by}
use Rattle.digest.specs.Running.{fed_bytes}
use Rattle.digest.proofs.Blocks.{halved}
use Rattle.digest.proofs.fed.Given as goal

-- after m characters, whole blocks, what is left makes the whole
abbrev pub invariant-loop-block : goal.invariant-loop-block
invariant-loop-block l =
    (m : ℕ) × (m < 2 ^ 64) × (m % 8 ≡ 0) × (l.n ≡ (m + length l.rest) % 2 ^ 64) × (l.y < 2 ^ 64)
    × (fed_bytes (joined_by l.table l.keys) (halved l.y m) (map internal l.rest) ≡ fed_bytes (joined_by l.table l.keys) l.fn.s (map internal l.fn.bytes))

abbrev pub decreases-loop-block : goal.decreases-loop-block
decreases-loop-block l = length l.rest
