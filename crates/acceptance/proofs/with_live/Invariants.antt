use Rattle.std.proofs.Common.{◌≡◌, ◌≤◌, length, take}
use Rattle.acceptance.specs.Stamps.{held_stamps, held_once}
use Rattle.acceptance.proofs.Lives.{live_in}
use Rattle.acceptance.proofs.with_live.Given as goal

abbrev pub invariant-loop-s : goal.invariant-loop-s
invariant-loop-s l = record {
  low : l.live.count ≤ length l.yielded;
  whole : l.live ≡ live_in l.day.holidays.now l.day.today l.fn.c (take (length l.yielded) (held_stamps l.fn.c)) (take (length l.yielded) (held_once l.fn.c));
}
