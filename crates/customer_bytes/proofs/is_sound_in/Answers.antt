-- Each field is tested.
use Rattle.std.proofs.Common.{rules}
use Rattle.customer_bytes.proofs.Laws.{sound_test}
use Rattle.customer_bytes.proofs.is_sound_in.Goals as goal

pub returns-then-count-le64 : goal.returns-then-count-le64
returns-then-count-le64 c = rw (sound_test c.args.at c.args.t.now) (search rules)

pub returns-else-count-le64 : goal.returns-else-count-le64
returns-else-count-le64 c = rw (sound_test c.args.at c.args.t.now) (search rules)
