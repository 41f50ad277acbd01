use Rattle.std.proofs.Common.{◌≡◌, map}
use Rattle.cli_words.specs.Parts.{split_at}
use Rattle.cli_words.specs.Forms.{bit_of, with_types}
use Rattle.cli_words.proofs.Bits.{bits_left, to_go}
use Rattle.cli_words.proofs.listed.Given as goal

abbrev pub invariant-loop-left : goal.invariant-loop-left
invariant-loop-left l = with_types l.set (bits_left l.left) ≡ with_types 0 (map bit_of (split_at 0x2C l.s))

abbrev pub decreases-loop-left : goal.decreases-loop-left
decreases-loop-left l = to_go l.left
