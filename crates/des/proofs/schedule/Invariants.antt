use mathlib.Core.Path.{◌≡◌}
use mathlib.Core.List.{◌++◌, map}
use lib.ListN.{take, drop}
use Rattle.des.specs.Tables.{choice2}
use Rattle.des.specs.Des.{permute, schedule_of}
use Rattle.des.proofs.schedule.Given as goal

abbrev pub invariant-loop-k : goal.invariant-loop-k
invariant-loop-k l =
    take l.k-index l.k-items ++ map (permute choice2 56) (drop l.k-index l.k-items) ≡ schedule_of l.fn.key
