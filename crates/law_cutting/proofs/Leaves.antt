-- What a verdict leaves is still a table, of the same day:
-- it writes a sound table over the one before, and changes customers and seed alone.
-- Assumes nothing.
use Rattle.std.specs.Prelude.{Err, Ok, Result}
use Prim.Native.Nat.{ℕ, ◌<◌, ◌^◌}
use mathlib.Core.Path.{◌≡◌, refl, ap, ◌∙◌}
use mathlib.Core.List.{List}
use mathlib.Core.Bool.{true}
use lib.ListN.{length}
use Rattle.calendar.specs.Dates.{real_date}
use Rattle.table.specs.Table.{Table, sound_table}
use Rattle.table.specs.Written.{written}
use Rattle.table.specs.Decode.{table_of, is_table}
use Rattle.table.proofs.Decode.{rewritten_is}
use Rattle.message.specs.declared.Fault.{Fault}
use Rattle.message.specs.Order.{first_failing}
use Rattle.checks.specs.Checks.{esi_checks, frame_checks, key_or0}
use Rattle.verdict.specs.Outcomes.{table_by, esi_table, frame_table, esi_leaves, frame_leaves}
use Rattle.message.specs.declared.Collected.{Collected}
use Rattle.checks.specs.declared.Frame.{Frame}
use Rattle.checks.specs.declared.Occasion.{Occasion}
use Rattle.verdict.proofs.Laws.{after_day}
use Rattle.verdict.proofs.Leaves.{esi_leaves_table, frame_leaves_table}

-- v is a table, of the day that b says
pub record Still (b v : List ℕ) : Type 0 where
  pub is_table_fact : is_table v ≡ true
  pub same_day : (table_of v).day ≡ (table_of b).day

-- ---- the day

by_day : (f : Result Unit Fault) (t u : Table) → u.day ≡ t.day → (table_by f t u).day ≡ t.day
unfolding table_by
by_day (Ok _) t u e = e
by_day (Err fault) t u e = refl

esi_day : (t : Table) (o : Occasion) (m : Collected) → (esi_table t o m).day ≡ t.day
unfolding esi_table
esi_day t o m = by_day (first_failing (esi_checks t o.today m)) t _ (after_day t o m.text m.text 0)

frame_day : (t : Table) (o : Occasion) (f : Frame) → (frame_table t o f).day ≡ t.day
unfolding frame_table
frame_day t o f =
    by_day (first_failing (frame_checks t o.today o.kind f)) t _
    (after_day t o f.suo.text f.var.text (key_or0 f.once))

-- ---- the bytes

written_still : (b v : List ℕ) (u : Table) → is_table b ≡ true → v ≡ written b u → sound_table u ≡ true → u.day ≡ (table_of b).day → Still b v
written_still b v u e is s d =
    let r = rewritten_is b u e s in
    record {
      is_table_fact = ap is_table is ∙ r.0;
      same_day = ap (λ (x : List ℕ). (table_of x).day) is ∙ ap (λ (t : Table). t.day) r.1 ∙ d;
    }

pub esi_still : (b : List ℕ) (o : Occasion) (m : Collected) → is_table b ≡ true → real_date o.today.yymmdd ≡ true
    → length m.text ≡ 161
    → Still b (esi_leaves b o m)
esi_still b o m e d l =
    let k = esi_leaves_table b o m e d l in
    written_still b (esi_leaves b o m) (esi_table (table_of b) o m) e k.0 k.1 (esi_day (table_of b) o m)

pub frame_still : (b : List ℕ) (o : Occasion) (f : Frame) → is_table b ≡ true → real_date o.today.yymmdd ≡ true
    → length f.suo.text ≡ 161 → key_or0 f.once < 2 ^ 64
    → Still b (frame_leaves b o f)
frame_still b o f e d l w =
    let k = frame_leaves_table b o f e d l w in
    written_still b (frame_leaves b o f) (frame_table (table_of b) o f) e k.0 k.1 (frame_day (table_of b) o f)
