-- A file that was just opened is good: the opening's refusals rule out what a read would refuse,
-- and it stores the day that its session has.
-- Assumes nothing.
use Prim.Native.Nat.{ℕ}
use mathlib.Core.Path.{◌≡◌, refl, sym, ap, ◌∙◌, subst}
use mathlib.Core.List.{List}
use mathlib.Core.Bool.{true, false}
use borrow.Author.Tests.{eq-eqb, le-leb}
use Rattle.ground.specs.Choice.{fails, between}
use Rattle.ground.proofs.Choices.{picks, join, fails-false}
use Rattle.ground.proofs.Bools.{either_none, neither}
use Rattle.calendar.specs.Dates.{real_date, real_time}
use Rattle.table.specs.Table.{Table, sound_table, with_day}
use Rattle.table.specs.Written.{written}
use Rattle.table.specs.Decode.{is_table, table_of}
use Rattle.table.proofs.Sound
use Rattle.table.proofs.Decode
use Rattle.refusals.specs.Refusals.{no_table, bad_day}
use Rattle.refusals.proofs.Refused.{served}
use Rattle.table_calls.proofs.Rewritten.{served_leaves}
use Rattle.opening.specs.declared.Opening.{Opening}
use Rattle.session.specs.Machine.{opened}
use Rattle.session.specs.Ranges.{is_cut, in_range, is_closed, read_refused}
use Rattle.session.specs.declared.Session.{Session}
use Rattle.session.proofs.Fresh.{opened_fits}
use Rattle.law_cutting.proofs.Stays.{nothing_kept}
use Rattle.calls.specs.Reading.{opening_refusals, opening_answer, opening_gives, opening_leaves}
use Rattle.law_protocol.specs.Ready.{Good}
use Rattle.law_protocol.proofs.Good.{Going, going}

-- ---- what a served opening asked

pub record Served (b : List ℕ) (o : Opening) : Type 0 where
  pub table : is_table b ≡ true
  pub real : real_date o.today.yymmdd ≡ true
  pub time : real_time o.time ≡ true
  pub kind : between 1 16 o.kind ≡ true

pub opening_served : (b : List ℕ) (o : Opening) → opening_answer b o ≡ 0 → Served b o
unfolding opening_answer opening_refusals no_table bad_day
opening_served b o z =
    let s = served 2 _ _ refl z in
    let d = served 4 _ _ refl s.1 in
    let n = neither _ _ d.0 in
    let k = served 11 _ _ refl d.1 in
    record {
      table = fails-false _ s.0;
      real = fails-false _ (neither _ _ n.0).0;
      time = fails-false _ n.1;
      kind = fails-false _ k.0;
    }

-- ---- what it gives and leaves

module _ (b : List ℕ) (o : Opening) (z : opening_answer b o ≡ 0) where
  asked : Served b o
  asked = opening_served b o z

  pub session_is : (opening_gives b o).session ≡ opened o
  unfolding opening_gives
  session_is = picks {A = Session} _ _ _ (eq-eqb _ 0 z)

  pub opening_leaves_lem : opening_leaves b o ≡ written b (with_day (table_of b) o.today.yymmdd)
  unfolding opening_leaves
  opening_leaves_lem = served_leaves _ b _ z

  pub day_sound : sound_table (with_day (table_of b) o.today.yymmdd) ≡ true
  day_sound = Sound.sound_day (table_of b) o.today.yymmdd (Decode.is_written b asked.table).sound asked.real

  pub opening_table : is_table (opening_leaves b o) ≡ true
  opening_table = ap is_table opening_leaves_lem ∙ (Decode.rewritten_is b _ asked.table day_sound).0

  pub opening_says : table_of (opening_leaves b o) ≡ with_day (table_of b) o.today.yymmdd
  opening_says = ap table_of opening_leaves_lem ∙ (Decode.rewritten_is b _ asked.table day_sound).1

  day_is : o.today.yymmdd ≡ (table_of (opening_leaves b o)).day
  unfolding with_day
  day_is = sym (ap (λ (t : Table). t.day) opening_says)

  -- ---- its session

  opened_ranged : in_range (opened o) ≡ true
  unfolding opened in_range is_cut fails
  opened_ranged =
      join _ _ asked.time (join _ _ asked.kind (join _ _ (le-leb _ _ nothing_kept.0) refl))

  opened_going : Going (opened o) (table_of (opening_leaves b o)).day
  unfolding opened is_closed
  opened_going = record { opened = refl; open_place = refl; day_is = day_is; ranged = opened_ranged }

  opened_reads : read_refused (opened o) (table_of (opening_leaves b o)).day ≡ false
  unfolding read_refused opened
  opened_reads = either_none false _ refl (going (opened o) _ opened_going)

  pub good_opened : Good (opening_gives b o).session (opening_leaves b o)
  good_opened =
      subst (λ (s : Session). Good s (opening_leaves b o)) (sym session_is)
      (record { table = opening_table; fits = opened_fits o; reads = opened_reads })
