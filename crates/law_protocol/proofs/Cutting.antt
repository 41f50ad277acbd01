-- No way of cutting a file into reads matters: what a run shows is what the machine tells,
-- and that is the whole-file answer over the bytes lent at opening.
-- Assumes nothing.
use Prim.Native.Nat.{ℕ}
use mathlib.Core.Path.{◌≡◌, ap, ◌∙◌}
use mathlib.Core.List.{List, []}
use native.Mathlib.Omega.{arith}
use lib.ListN.{length}
use Rattle.table.specs.Table.{Table, with_day}
use Rattle.table.specs.Written.{written}
use Rattle.table.specs.Decode.{table_of}
use Rattle.opening.specs.declared.Opening.{Opening}
use Rattle.whole_file.specs.WholeFile.{at_start, whole_file}
use Rattle.session.specs.Told.{Answered, all_told}
use Rattle.session.specs.Machine.{opened}
use Rattle.session.specs.declared.Session.{Session}
use Rattle.law_refinement.specs.Stands.{TableIs, Stands, answered_as}
use Rattle.law_refinement.proofs.Whole.{stands_opened}
use Rattle.law_refinement.proofs.Refines.{refines}
use Rattle.calls.specs.Reading.{opening_answer, opening_gives, opening_leaves}
use Rattle.law_protocol.specs.Protocol.{Saw, Lent, Runs}
use Rattle.law_protocol.proofs.Runs.{runs_are}
use Rattle.law_protocol.proofs.Opened.{opening_served, session_is, opening_leaves_lem, opening_table, opening_says, good_opened}

module _ (b : List ℕ) (o : Opening) (z : opening_answer b o ≡ 0) where
  -- the table as the opening leaves it
  abbrev dated : Table
  dated = with_day (table_of b) o.today.yymmdd

  -- its bytes are those lent at opening, with it written over them
  table_is : TableIs b dated (opening_leaves b o)
  table_is = record { is = opening_table b o z; says = opening_says b o z; bytes = opening_leaves_lem b o z }

  first_stands : Stands o (opening_leaves b o) (at_start dated) [] 0 (opened o) (opening_leaves b o)
  first_stands =
      rw (opening_says b o z) at (stands_opened o (opening_leaves b o) (opening_table b o z))

  begins : Stands o b (at_start dated) [] 0 (opened o) (opening_leaves b o)
  unfolding at_start
  begins =
      let k = first_stands in
      let h = k.hears in
      record {
        chars = k.chars;
        raw_is = k.raw_is;
        without = k.without;
        size = k.size;
        within = k.within;
        counted = k.counted;
        hears =
            record {
              opening = h.opening;
              made = h.made;
              sender = h.sender;
              table = table_is;
              counted = h.counted;
              situated = h.situated;
            };
      }

  -- the machine says the whole-file answer, and leaves its table over the bytes lent at opening
  told_is : (file : List ℕ) → all_told 0 (opened o) (opening_leaves b o) file
      ≡ record { given = (whole_file o dated file).given; table = written b (whole_file o dated file).standing.table }
  unfolding whole_file answered_as
  told_is file = refines o b (opening_served b o z).real file (length file) 0 (omega arith) (at_start dated) [] (opened o)
      (opening_leaves b o) begins

  pub all_told_lem : (file : List ℕ) → all_told 0 (opening_gives b o).session (opening_leaves b o) file
      ≡ record { given = (whole_file o dated file).given; table = written b (whole_file o dated file).standing.table }
  all_told_lem file = ap (λ (s : Session). all_told 0 s (opening_leaves b o) file) (session_is b o z) ∙ told_is file

-- THE THEOREM: whatever the sizes of the reads,
-- a run over an opened file shows the whole-file answer, each reply at the place that settles it
pub any_cuts : (b : List ℕ) (o : Opening) (file : List ℕ) (ks : List Lent) (rooms : List (List ℕ)) (l : Saw) → opening_answer b o ≡ 0
    → Runs ks rooms 0 (opening_gives b o).session (opening_leaves b o) file l
    → l ≡ record {
      given = (whole_file o (with_day (table_of b) o.today.yymmdd) file).given;
      table = written b (whole_file o (with_day (table_of b) o.today.yymmdd) file).standing.table;
    }
any_cuts b o file ks rooms l z r =
    runs_are r (good_opened b o z) ∙ ap (λ (a : Answered). record { given = a.given; table = a.table }) (all_told_lem b o z file)
