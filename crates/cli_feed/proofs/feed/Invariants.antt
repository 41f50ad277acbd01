-- What is left of a part falls with each step, since a step takes at least a byte.
use Rattle.std.proofs.Common.{length}
use Rattle.cli_feed.proofs.feed.Given as goal

abbrev pub decreases-loop-rest : goal.decreases-loop-rest
decreases-loop-rest l = length l.rest
