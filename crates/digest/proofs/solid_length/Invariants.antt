use Rattle.std.proofs.Common.{◌≡◌, ◌≤◌, length, take}
use Rattle.digest.specs.Kept.{stripped}
use Rattle.digest.proofs.solid_length.Given as goal

abbrev pub invariant-loop-last : goal.invariant-loop-last
invariant-loop-last l = (l.last ≤ length l.bytes) × (stripped (take l.last l.bytes) ≡ stripped l.bytes)
