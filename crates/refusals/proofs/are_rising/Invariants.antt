use Rattle.std.proofs.Common.{◌≡◌, ◌-◌, ◌≤◌, length, drop}
use Rattle.std.specs.Slice.Iter.{windows_size, windows_rest}
use Rattle.table.specs.Table.{rising}
use Rattle.refusals.proofs.are_rising.Given as goal

abbrev pub invariant-loop-w : goal.invariant-loop-w
invariant-loop-w l =
    let rest = windows_rest l.w-iterator in
    (windows_size l.w-iterator ≡ 2) × (length rest ≤ length l.dates) × (rest ≡ drop (length l.dates - length rest) l.dates)
    × (rising l.dates ≡ rising rest)
