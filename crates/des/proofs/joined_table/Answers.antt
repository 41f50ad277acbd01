-- The constant is the boxes joined with P, by one test that antt computes over the 512 entries.
use mathlib.Core.Path.{refl}
use Rattle.des.specs.Des.{select, box}
use Rattle.des.specs.Joined.{joined_entry, joined_box, joined_from, joined}
use Rattle.des.proofs.joined_table.Goals as goal

pub returns : goal.returns
unfolding joined joined_from joined_box joined_entry box select
returns c = refl
