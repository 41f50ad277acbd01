-- Header, settings and holidays are written one after the other, if the length is right and the holidays have room.
use mathlib.Core.Path.{◌≡◌, sym}
use lib.ListN.{length}
use borrow.Author.Rules.{rules}
use borrow.Author.Tests.{ne_eqb, lt-leb}
use Rattle.ground.proofs.Choices.{fails_left, fails_right, skips}
use Rattle.table.specs.Stored.{table_set_up}
use Rattle.table.proofs.Stores.{set_up_writes}
use Rattle.table.proofs.set_up.Goals.{else-t-eq-SIZE-via-then-t-eq-SIZE+else-holidays-le200, else-t-eq-SIZE-via-else-t-eq-SIZE}
use Rattle.table.proofs.set_up.Goals as goal

pub returns-then-holidays-le200 : goal.returns-then-holidays-le200
returns-then-holidays-le200 c =
    let a = c.args in
    let n : length a.s.bank ≡ 25 = search rules in
    let m : length a.s.software ≡ 16 = search rules in
    set_up_writes a.t.now a.day.yymmdd a.s a.holidays.now _ _ _ c.if-t-eq-SIZE.true c.if-holidays-le200.true
    (n, (m, (tt, (tt, tt)))) c.store_header.ensures c.store_settings.ensures c.store_dates.ensures

pub returns-else-t-eq-SIZE : goal.returns-else-t-eq-SIZE
unfolding table_set_up
returns-else-t-eq-SIZE c = elim c.else-t-eq-SIZE.branch [
  | else-t-eq-SIZE-via-then-t-eq-SIZE+else-holidays-le200 w ↦ sym (skips _ _ _ (fails_right _ _ (lt-leb _ _ w.if-holidays-le200.false)))
  | else-t-eq-SIZE-via-else-t-eq-SIZE w ↦ sym (skips _ _ _ (fails_left _ _ (ne_eqb _ _ w.if-t-eq-SIZE.false)))
]
