-- A verdict leaves a table with as many holidays and customers,
-- so writing it over the bytes of the one before is writing it over the first bytes.
-- Assumes nothing.
use Rattle.std.specs.Prelude.{None, Option, Some, Err, Ok, Result}
use Prim.Native.Nat.{ℕ, ◌<◌, ◌^◌}
use mathlib.Core.Path.{◌≡◌, refl, sym, ap, ap₂, ◌∙◌}
use mathlib.Core.Bool.{true}
use mathlib.Core.List.{List, ◌++◌}
use lib.ListN.{length, drop, length-set}
use lib.Seq.{drop_at}
use Rattle.calendar.specs.Dates.{real_date}
use Rattle.customer.specs.declared.Customer.{Customer}
use Rattle.table.specs.Table.{Table, sound_table, with_customer, with_seed}
use Rattle.table.specs.Named.{replaced_at, with_named}
use Rattle.table.specs.Written.{total_length, encode, written}
use Rattle.table.specs.Decode.{table_of, is_table}
use Rattle.table.proofs.Encode.{encode-length, sound_fit}
use Rattle.table.proofs.Decode.{is_written, rewritten_is}
use Rattle.table_calls.proofs.Rewritten.{written_twice}
use Rattle.message.specs.declared.Fault.{Fault}
use Rattle.checks.specs.Checks.{key_or0}
use Rattle.verdict.specs.Outcomes.{table_after, table_by, esi_table, frame_table, esi_leaves, frame_leaves}
use Rattle.message.specs.declared.Collected.{Collected}
use Rattle.checks.specs.declared.Frame.{Frame}
use Rattle.checks.specs.declared.Occasion.{Occasion}
use Rattle.verdict.proofs.Leaves.{esi_leaves_table, frame_leaves_table}
use Rattle.law_refinement.specs.Stands.{TableIs}

-- ---- as many holidays and customers

record Sized (t u : Table) : Type 0 where
  holidays : length u.holidays ≡ length t.holidays
  customers : length u.customers ≡ length t.customers

sized_same : (t : Table) → Sized t t
sized_same t = record { holidays = refl; customers = refl }

sized_at : (t : Table) (f : Option ℕ) (c : Customer) → Sized t (replaced_at t f c)
unfolding replaced_at with_customer
sized_at t (Some i) c = record { holidays = refl; customers = length-set t.customers i c }
sized_at t None c = sized_same t

sized_seed : (t u : Table) (v : ℕ) → Sized t u → Sized t (with_seed u v)
unfolding with_seed
sized_seed t u v k = record { holidays = k.holidays; customers = k.customers }

sized_after : (t : Table) (o : Occasion) (m closing : List ℕ) (once : ℕ) → Sized t (table_after t o m closing once)
unfolding table_after with_named
sized_after t o m closing once = sized_seed t _ _ (sized_at t _ _)

sized_by : (f : Result Unit Fault) (t u : Table) → Sized t u → Sized t (table_by f t u)
unfolding table_by
sized_by (Ok _) t u k = k
sized_by (Err fault) t u k = sized_same t

sized_esi : (t : Table) (o : Occasion) (m : Collected) → Sized t (esi_table t o m)
unfolding esi_table
sized_esi t o m = sized_by _ t _ (sized_after t o _ _ 0)

sized_frame : (t : Table) (o : Occasion) (f : Frame) → Sized t (frame_table t o f)
unfolding frame_table
sized_frame t o f = sized_by _ t _ (sized_after t o _ _ _)

encode_sized : (t u : Table) → sound_table t ≡ true → sound_table u ≡ true → Sized t u → length (encode t) ≡ length (encode u)
encode_sized t u p q k =
    encode-length t (sound_fit t p)
    ∙ sym (encode-length u (sound_fit u q) ∙ ap₂ total_length k.holidays k.customers)

-- ---- the first bytes: their own table is written over them

pub first_bytes : (w : List ℕ) → is_table w ≡ true → TableIs w (table_of w) w
unfolding written
first_bytes w e =
    let r = is_written w e in
    let n = length (encode (table_of w)) in
    record {
      is = e;
      says = refl;
      bytes =
          r.bytes
          ∙ ap (λ (l : List ℕ). encode (table_of w) ++ l) (sym (ap (drop n) r.bytes ∙ drop_at (encode (table_of w)) r.rest n refl));
    }

-- ---- the bytes after

moves : (w₀ w x : List ℕ) (t u : Table) → TableIs w₀ t w → Sized t u → x ≡ written w u → sound_table u ≡ true → TableIs w₀ u x
moves w₀ w x t u k z e s =
    let r = rewritten_is w u k.is s in
    let p : sound_table t ≡ true = ap sound_table (sym k.says) ∙ (is_written w k.is).sound in
    record {
      is = ap is_table e ∙ r.0;
      says = ap table_of e ∙ r.1;
      bytes = e ∙ ap (λ (y : List ℕ). written y u) k.bytes ∙ written_twice w₀ t u (encode_sized t u p s z);
    }

module _ (w₀ w : List ℕ) (t : Table) (k : TableIs w₀ t w) (o : Occasion) (d : real_date o.today.yymmdd ≡ true) where
  pub esi_moves : (m : Collected) → length m.text ≡ 161 → TableIs w₀ (esi_table t o m) (esi_leaves w o m)
  esi_moves m l =
      let r = esi_leaves_table w o m k.is d l in
      let e : esi_table (table_of w) o m ≡ esi_table t o m = ap (λ (u : Table). esi_table u o m) k.says in
      moves w₀ w _ t (esi_table t o m) k (sized_esi t o m) (r.0 ∙ ap (written w) e) (ap sound_table (sym e) ∙ r.1)

  pub frame_moves : (f : Frame) → length f.suo.text ≡ 161 → key_or0 f.once < 2 ^ 64
      → TableIs w₀ (frame_table t o f) (frame_leaves w o f)
  frame_moves f l h =
      let r = frame_leaves_table w o f k.is d l h in
      let e : frame_table (table_of w) o f ≡ frame_table t o f = ap (λ (u : Table). frame_table u o f) k.says in
      moves w₀ w _ t (frame_table t o f) k (sized_frame t o f) (r.0 ∙ ap (written w) e) (ap sound_table (sym e) ∙ r.1)
