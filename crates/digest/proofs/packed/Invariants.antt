use Rattle.std.proofs.Common.{◌≡◌, map, drop}
use Rattle.text.specs.Characters.{internal}
use Rattle.digest.specs.Running.{pushed_all}
use Rattle.digest.proofs.packed.Given as goal

abbrev pub invariant-loop-b : goal.invariant-loop-b
invariant-loop-b l = pushed_all l.x (map internal (drop l.b-index l.bytes)) ≡ pushed_all l.fn.block (map internal l.bytes)
