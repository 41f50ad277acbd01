-- The count of the header is the number of dates that are read.
use mathlib.Core.Path.{◌≡◌, sym, ap, ◌∙◌}
use Prim.Native.Nat.{ℕ}
use lib.ListN.{length}
use Rattle.table.specs.Written.{holidays_start}
use Rattle.table.specs.Tests.{dates_at, filled}
use Rattle.table.specs.Stored.{holidays_of}
use Rattle.table.proofs.Decode.{table_sized, table_other}
use Rattle.table.proofs.Turns.{dates_length}
use Rattle.table.proofs.holidays_in.Goals as goal

pub returns-then-t-ne-SIZE : goal.returns-then-t-ne-SIZE
unfolding holidays_of
returns-then-t-ne-SIZE c = sym (ap holidays_of (table_other _ c.if-t-ne-SIZE.true))

pub returns : goal.returns
unfolding holidays_of
returns c =
    let b = c.args.t.now in
    let n = c.count_holidays-n.ensures.0 in
    let k : c.count_holidays-n.result ≡ length (dates_at holidays_start c.count_holidays-n.result b) =
    sym (dates_length holidays_start _ b) in
    (λ i. record { count = k i; dates = c.dates_at.ensures i })
    ∙ ap (λ (m : ℕ). record { count = length (dates_at holidays_start m b); dates = filled (dates_at holidays_start m b) }) n
    ∙ sym (ap holidays_of (table_sized b c.if-t-ne-SIZE.false))
