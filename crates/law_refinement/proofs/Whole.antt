-- The machine says what the whole-file answer says: a session just opened stands for the standing at the start of the file.
-- Assumes nothing.
use Prim.Native.Nat.{ℕ}
use mathlib.Core.Path.{◌≡◌, refl}
use mathlib.Core.Bool.{true}
use mathlib.Core.List.{List, []}
use native.Mathlib.Omega.{arith}
use lib.ListN.{length}
use Rattle.calendar.specs.Dates.{real_date}
use Rattle.table.specs.Written.{written}
use Rattle.table.specs.Decode.{table_of, is_table}
use Rattle.opening.specs.declared.Opening.{Opening}
use Rattle.whole_file.specs.Records.{without_cr}
use Rattle.whole_file.specs.WholeFile.{at_start, whole_file}
use Rattle.session.specs.Lines.{waited}
use Rattle.session.specs.Machine.{opened}
use Rattle.session.specs.Told.{all_told}
use Rattle.law_refinement.specs.Stands.{digested, Hears, Stands, answered_as}
use Rattle.law_refinement.proofs.Gathers
use Rattle.law_refinement.proofs.Tables
use Rattle.law_refinement.proofs.Refines

hears_opened : (o : Opening) (w : List ℕ) → is_table w ≡ true → Hears o w 0 (at_start (table_of w)) [] (opened o) w
unfolding opened at_start digested
hears_opened o w e =
    record {
      opening = refl;
      made = refl;
      sender = refl;
      table = Tables.first_bytes w e;
      counted = omega arith;
      situated = (refl, Gathers.gathered_none);
    }

pub stands_opened : (o : Opening) (w : List ℕ) → is_table w ≡ true → Stands o w (at_start (table_of w)) [] 0 (opened o) w
unfolding opened at_start digested without_cr waited
stands_opened o w e =
    record {
      chars = [];
      raw_is = refl;
      without = refl;
      size = refl;
      within = omega arith;
      counted = omega arith;
      hears = hears_opened o w e;
    }

pub machine_is : (o : Opening) (w file : List ℕ) → is_table w ≡ true → real_date o.today.yymmdd ≡ true
    → all_told 0 (opened o) w file
    ≡ record { given = (whole_file o (table_of w) file).given; table = written w (whole_file o (table_of w) file).standing.table }
unfolding whole_file answered_as
machine_is o w file e d =
    Refines.refines o w d file (length file) 0 (omega arith) (at_start (table_of w)) [] (opened o) w (stands_opened o w e)
