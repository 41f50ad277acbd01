-- A step leaves a table a table, of the same day, and changes it with a reply alone: read off what it keeps, as the ranges are (Ranged).
-- Assumes nothing.
use Prim.Native.Nat.{ℕ}
use mathlib.Core.Path.{◌≡◌}
use mathlib.Core.List.{List}
use mathlib.Core.Bool.{true, false}
use Rattle.calendar.specs.Dates.{real_date}
use Rattle.table.specs.Decode.{is_table, table_of}
use Rattle.session.specs.Events.{Turn}
use Rattle.session.specs.Ranges.{Fits}
use Rattle.session.specs.declared.Session.{Session}
use Rattle.law_cutting.proofs.Keeps.{Keeps}

module _ {s : Session} {w : List ℕ} {x : Turn} (k : Keeps s w x) where
  module _ (e : is_table w ≡ true) (f : Fits s) (d : real_date s.opening.today.yymmdd ≡ true) where
    pub still_table : is_table x.table ≡ true
    still_table = (k.still e f d).is_table_fact

    pub same_table_day : (table_of x.table).day ≡ (table_of w).day
    same_table_day = (k.still e f d).same_day

  -- without a reply it is the same
  pub silent_table : x.out.reply.given ≡ false → x.table ≡ w
  silent_table = k.silent_same
