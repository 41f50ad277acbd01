-- A read or an end is served, and then its session passed refusal 3, or is refused with 1, 2 or 3: the refusals are a list of those three.
-- Assumes nothing.
use Prim.Native.Nat.{ℕ, ◌≤◌}
use mathlib.Core.Path.{◌≡◌, refl}
use mathlib.Core.List.{List, [], ◌∷◌}
use mathlib.Core.Bool.{Bool, true, false}
use native.Mathlib.Omega.{arith}
use borrow.Author.Tests.{eqb-true, eqb-false}
use lib.Dec.{eqb}
use Rattle.ground.specs.Choice.{pick}
use Rattle.ground.specs.First.{first_that}
use Rattle.ground.proofs.Bools.{neither, picked}
use Rattle.table.specs.Decode.{table_of}
use Rattle.refusals.specs.Refusals.{refusal, lowest}
use Rattle.refusals.proofs.Refused.{served}
use Rattle.session.specs.Events.{Turn, file_ended, is_due}
use Rattle.session.specs.Machine.{scanned, last_ended}
use Rattle.session.specs.Ranges.{read_refused}
use Rattle.session.specs.declared.Session.{Session}
use Rattle.calls.specs.Reading.{Done, awaits, finishes, refused_by, served_by, read_served, end_served, read_done, end_done}
use Rattle.calls.specs.Reading.{reading_refusals, ending_refusals}
use Rattle.law_protocol.proofs.Good.{Going, goes}

-- what the third refusal asks
third : (x y z : Bool) → lowest (refusal 1 x ∷ refusal 2 y ∷ refusal 3 z ∷ []) ≡ 0 → z ≡ false
third x y z e = (served 3 _ _ refl (served 2 _ _ refl (served 1 _ _ refl e).1).1).0

at_most : (x y z : Bool) → lowest (refusal 1 x ∷ refusal 2 y ∷ refusal 3 z ∷ []) ≤ 3
unfolding lowest first_that
at_most x y z =
    picked (λ (n : ℕ). n ≤ 3) x _ _ (λ e. omega arith)
    (λ e. picked (λ (n : ℕ). n ≤ 3) y _ _ (λ e. omega arith) (λ e. picked (λ (n : ℕ). n ≤ 3) z _ _ (λ e. omega arith) (λ e. omega arith)))

module _ (s : Session) (w room : List ℕ) where
  pub read_asked : lowest (reading_refusals s w room) ≡ 0 → Going s (table_of w).day
  unfolding reading_refusals read_refused
  read_asked z = goes s (table_of w).day (neither _ _ (third _ _ _ z)).1

  pub end_asked : lowest (ending_refusals s w room) ≡ 0 → Going s (table_of w).day
  unfolding ending_refusals
  end_asked z = goes s (table_of w).day (third _ _ _ z)

  read_most : lowest (reading_refusals s w room) ≤ 3
  unfolding reading_refusals
  read_most = at_most _ _ _

  end_most : lowest (ending_refusals s w room) ≤ 3
  unfolding ending_refusals
  end_most = at_most _ _ _

-- what holds of a served answer, and of a refused one, holds of the answer
module _ (P : Done → Type 0) (s : Session) (w room : List ℕ) (refused : (n : ℕ) → n ≤ 3 → (n ≡ 0 → ⊥) → P (refused_by n s w room)) where
  by_number : (n : ℕ) (d : Done) → n ≤ 3 → (n ≡ 0 → P d) → P (pick {A = Done} (eqb n 0) d (refused_by n s w room))
  by_number n d h p = picked P (eqb n 0) d (refused_by n s w room) (λ e. p (eqb-true n 0 e)) (λ e. refused n h (eqb-false n 0 e))

  pub read_cases : (input : List ℕ) → (Going s (table_of w).day → P (read_served (scanned s w input) room)) → P (read_done s w input room)
  unfolding read_done
  read_cases input p = by_number (lowest (reading_refusals s w room)) _ (read_most s w room) (λ z. p (read_asked s w room z))

  abbrev last_turn : Turn
  last_turn = last_ended s w

  abbrev file_turn : Turn
  file_turn = file_ended last_turn.out.session last_turn.table

  -- an end answers in three ways: another reply is due, the last record gave the last one, or the file's end speaks
  pub end_cases : (Going s (table_of w).day → P (served_by last_turn (awaits last_turn.out.session) 0 false room))
      → (Going s (table_of w).day → P (served_by last_turn (finishes last_turn.out.session) 0 true room))
      → (Going s (table_of w).day → P (served_by file_turn (finishes file_turn.out.session) 0 true room))
      → P (end_done s w room)
  unfolding end_done end_served
  end_cases p q r =
      by_number (lowest (ending_refusals s w room)) _ (end_most s w room)
      (λ z.
      let g = end_asked s w room z in
      picked P last_turn.out.reply.given _ _
      (λ e. picked P (is_due last_turn.out.session.place) _ _ (λ f. p g) (λ f. q g))
      (λ e. r g))
