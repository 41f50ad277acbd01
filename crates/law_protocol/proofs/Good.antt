-- In a good state no call with room for a reply is refused:
-- each of the refusals is one that the state rules out, and what a step keeps keeps it good.
-- Assumes nothing.
use Prim.Native.Nat.{ℕ, ◌≤◌}
use mathlib.Core.Path.{◌≡◌, sym, ap, ◌∙◌}
use mathlib.Core.List.{List, [], ◌∷◌}
use mathlib.Core.Bool.{Bool, true, false}
use borrow.Author.Tests.{eq-eqb, eqb-true, le-ltb}
use lib.Dec.{eqb}
use lib.ListN.{length}
use Rattle.ground.proofs.Choices.{picks, fails-false}
use Rattle.ground.proofs.Bools.{agree, either_none, neither, not_failed}
use Rattle.calendar.specs.Dates.{real_date}
use Rattle.table.specs.Decode.{is_table, table_of}
use Rattle.table.proofs.Sound
use Rattle.table.proofs.Decode
use Rattle.refusals.specs.Refusals.{refusal, lowest, no_table}
use Rattle.refusals.proofs.Refused.{lowest_next, none_left}
use Rattle.opening.specs.declared.Opening.{Opening}
use Rattle.session.specs.Events.{Turn, file_ended}
use Rattle.session.specs.Machine.{scanned, last_ended}
use Rattle.session.specs.Ranges.{in_range, is_closed, end_refused, read_refused}
use Rattle.session.specs.declared.Session.{Session}
use Rattle.law_cutting.proofs.Keeps.{Keeps}
use Rattle.law_cutting.proofs.Ranged.{in_range_lem, still_fits, same_opening, same_opened, same_ended}
use Rattle.law_cutting.proofs.Tables.{still_table, same_table_day}
use Rattle.law_protocol.specs.Ready.{Good, EndGood}
use Rattle.calls.specs.Reading.{Done, reading_refusals, ending_refusals, read_served, read_done, end_served, end_done, awaits}

-- ---- what refusal 3 asks, part by part

pub record Going (s : Session) (day : ℕ) : Type 0 where
  pub opened : s.opened ≡ true
  pub open_place : is_closed s.place ≡ false
  pub day_is : s.opening.today.yymmdd ≡ day
  pub ranged : in_range s ≡ true

pub goes : (s : Session) (day : ℕ) → end_refused s day ≡ false → Going s day
unfolding end_refused
goes s day e =
    let a = neither _ _ e in
    let b = neither _ _ a.1 in
    let c = neither _ _ b.1 in
    record {
      opened = fails-false _ a.0;
      open_place = b.0;
      day_is = eqb-true _ _ (fails-false _ c.0);
      ranged = fails-false _ c.1;
    }

pub going : (s : Session) (day : ℕ) → Going s day → end_refused s day ≡ false
unfolding end_refused
going s day g =
    either_none _ _ (not_failed _ g.opened)
    (either_none _ _ g.open_place (either_none _ _ (agree _ _ g.day_is) (not_failed _ g.ranged)))

module _ {s : Session} {w : List ℕ} (g : Good s w) where
  not_ended : s.ended ≡ false
  unfolding read_refused
  not_ended = (neither _ _ g.reads).0

  -- where a read is taken an end is
  pub end_good : EndGood s w
  unfolding read_refused
  end_good = record { table = g.table; fits = g.fits; ends = (neither _ _ g.reads).1 }

module _ {s : Session} {w : List ℕ} (g : EndGood s w) where
  pub goes_on : Going s (table_of w).day
  goes_on = goes s (table_of w).day g.ends

  -- the day is real, since the table's is
  pub real_day : real_date s.opening.today.yymmdd ≡ true
  real_day = ap real_date goes_on.day_is ∙ (Sound.parts (table_of w) (Decode.is_written w g.table).sound).day

-- ---- no refusal

none_refused : (a b c : Bool) → a ≡ false → b ≡ false → c ≡ false → eqb (lowest (refusal 1 a ∷ refusal 2 b ∷ refusal 3 c ∷ [])) 0 ≡ true
none_refused a b c p q r =
    eq-eqb _ 0
    (lowest_next (refusal 1 a) _ p ∙ lowest_next (refusal 2 b) _ q ∙ lowest_next (refusal 3 c) _ r ∙ sym none_left)

is_table_fact : (w : List ℕ) → is_table w ≡ true → no_table w ≡ false
unfolding no_table
is_table_fact w e = not_failed _ e

pub read_served_lem : (s : Session) (w input room : List ℕ) → 317 ≤ length room → Good s w
    → read_done s w input room ≡ read_served (scanned s w input) room
unfolding read_done reading_refusals
read_served_lem s w input room h g = picks {A = Done} _ _ _ (none_refused _ _ _ (le-ltb (length room) 317 h) (is_table_fact w g.table) g.reads)

pub end_served_lem : (s : Session) (w room : List ℕ) → 317 ≤ length room → EndGood s w
    → end_done s w room ≡ end_served (last_ended s w) (file_ended (last_ended s w).out.session (last_ended s w).table) room
unfolding end_done ending_refusals
end_served_lem s w room h g = picks {A = Done} _ _ _ (none_refused _ _ _ (le-ltb (length room) 317 h) (is_table_fact w g.table) g.ends)

-- ---- a turn that leaves the file open leaves the state good

module _ {s : Session} {w : List ℕ} {x : Turn} (k : Keeps s w x) (c : is_closed x.out.session.place ≡ false) where
  keeps_going : EndGood s w → Going x.out.session (table_of x.table).day
  keeps_going g =
      let a = goes_on g in
      record {
        opened = same_opened k ∙ a.opened;
        open_place = c;
        day_is =
            ap (λ (o : Opening). o.today.yymmdd) (same_opening k)
            ∙ a.day_is
            ∙ sym (same_table_day k g.table g.fits (real_day g));
        ranged = in_range_lem k a.ranged;
      }

  pub keeps_end_good : EndGood s w → EndGood x.out.session x.table
  keeps_end_good g =
      record {
        table = still_table k g.table g.fits (real_day g);
        fits = still_fits k g.fits;
        ends = going _ _ (keeps_going g);
      }

  pub keeps_good : Good s w → Good x.out.session x.table
  unfolding read_refused
  keeps_good g =
      let e = keeps_end_good (end_good g) in
      record {
        table = e.table;
        fits = e.fits;
        reads = either_none _ _ (same_ended k ∙ not_ended g) e.ends;
      }

-- with an end signalled, an end may follow
pub awaits_good : {s : Session} {w : List ℕ} → EndGood s w → EndGood (awaits s) w
unfolding awaits end_refused in_range
awaits_good g =
    record {
      table = g.table;
      fits = record {
        message_long = g.fits.message_long;
        suo_long_fact = g.fits.suo_long_fact;
        sender_long = g.fits.sender_long;
        key_fits =
            g.fits.key_fits;
      };
      ends = g.ends;
    }
