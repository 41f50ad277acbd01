-- The refusals of each call stand with rising numbers and the first that holds is given, so it is the lowest; a refused call takes the
-- branch that keeps all.
-- Assumes nothing.
use Prim.Native.Nat.{ℕ}
use mathlib.Core.Path.{◌≡◌, refl, sym, ap, ◌∙◌}
use mathlib.Core.List.{List}
use mathlib.Core.Bool.{Bool, true, false, false≢true}
use native.Mathlib.Omega.{arith}
use borrow.Author.Tests.{eqb-true}
use lib.Dec.{eqb}
use Rattle.ground.proofs.Choices.{fails-true}
use Rattle.ground.specs.Choice.{both, fails, pick}
use Rattle.ground.proofs.Bools.{picked}
use Rattle.table.specs.Table.{Table}
use Rattle.table.specs.Written.{WrittenAs}
use Rattle.table.specs.Decode.{table_of, is_table}
use Rattle.table.proofs.Decode.{written_is, is_written}
use Rattle.refusals.specs.Refusals.{Refusal, lowest, no_table}
use Rattle.table_calls.specs.Calls.{setting_up_answer, adding_answer, entering_answer, ordering_answer}
use Rattle.table_calls.proofs.Laws.{rises, lowest_is, lowest_holds, setting_up_rises, adding_rises, entering_rises, ordering_rises}
use Rattle.opening.specs.declared.Opening.{Opening}
use Rattle.session.specs.Events.{file_ended}
use Rattle.session.specs.Machine.{scanned, last_ended}
use Rattle.session.specs.declared.Session.{Session}
use Rattle.calls.specs.Reading.{Done, refused_by, served_by, read_served, end_served, opening_refusals, opening_answer, reading_refusals}
use Rattle.calls.specs.Reading.{ending_refusals, read_done, end_done}
use Rattle.calls.specs.Calls.{Call, setting_up, adding, entering, ordering, opening, reading, ending, refusal_of}
use Rattle.law_history.proofs.Stays
use Rattle.law_demands.specs.Demands.{HoldsFirst, conditions_of, RefusedExactly, NoTableExactly, Untouched, RefusedStays}
use Rattle.law_demands.specs.Demands.{RefusedReadStays, RefusedEndStays}

-- ---- a served read or end, or a refused one

module _ (n : ℕ) (d : Done) (s : Session) (b room : List ℕ) (z : d.answer.refusal ≡ 0) where
  given : (pick {A = Done} (eqb n 0) d (refused_by n s b room)).answer.refusal ≡ n
  unfolding refused_by
  given =
      picked (λ (x : Done). x.answer.refusal ≡ n) (eqb n 0) d (refused_by n s b room) (λ e. z ∙ sym (eqb-true n 0 e)) (λ e. refl)

  untouched : ((pick {A = Done} (eqb n 0) d (refused_by n s b room)).answer.refusal ≡ 0 → ⊥)
      → Untouched s b room (pick {A = Done} (eqb n 0) d (refused_by n s b room))
  unfolding refused_by
  untouched =
      picked (λ (x : Done). (x.answer.refusal ≡ 0 → ⊥) → Untouched s b room x) (eqb n 0) d (refused_by n s b room) (λ e q. absurd (q z))
      (λ e q.
      record {
        nothing_taken = refl;
        no_reply = refl;
        not_finished = refl;
        same_session = refl;
        same_table = refl;
        same_room = refl;
      })

abbrev read : Session → List ℕ → List ℕ → List ℕ → Done
read s b input room = read_served (scanned s b input) room

read-zero : (s : Session) (b input room : List ℕ) → (read s b input room).answer.refusal ≡ 0
unfolding read_served served_by
read-zero s b input room = refl

abbrev end : Session → List ℕ → List ℕ → Done
end s b room = end_served (last_ended s b) (file_ended (last_ended s b).out.session (last_ended s b).table) room

end-zero : (s : Session) (b room : List ℕ) → (end s b room).answer.refusal ≡ 0
unfolding end_served served_by
end-zero s b room =
    picked (λ (x : Done). x.answer.refusal ≡ 0) _ _ _
    (λ e. picked (λ (x : Done). x.answer.refusal ≡ 0) _ _ _ (λ f. refl) (λ f. refl))
    (λ e. refl)

-- ---- which refusal is given

opening-rises : (b : List ℕ) (o : Opening) → rises 0 (opening_refusals b o) ≡ true
unfolding rises both opening_refusals
opening-rises b o = refl

reading-rises : (s : Session) (b room : List ℕ) → rises 0 (reading_refusals s b room) ≡ true
unfolding rises both reading_refusals
reading-rises s b room = refl

ending-rises : (s : Session) (b room : List ℕ) → rises 0 (ending_refusals s b room) ≡ true
unfolding rises both ending_refusals
ending-rises s b room = refl

conditions_rise : (b : List ℕ) (c : Call) → rises 0 (conditions_of b c) ≡ true
unfolding conditions_of
conditions_rise b (setting_up s holidays) = setting_up_rises b s holidays
conditions_rise b (adding a) = adding_rises b a
conditions_rise b (entering e) = entering_rises b e
conditions_rise b (ordering o) = ordering_rises b o
conditions_rise b (opening o) = opening-rises b o
conditions_rise b (reading s input room) = reading-rises s b room
conditions_rise b (ending s room) = ending-rises s b room

pub gives_lowest : (b : List ℕ) (c : Call) → refusal_of b c ≡ lowest (conditions_of b c)
unfolding refusal_of conditions_of setting_up_answer adding_answer entering_answer ordering_answer opening_answer read_done end_done
gives_lowest b (setting_up s holidays) = refl
gives_lowest b (adding a) = refl
gives_lowest b (entering e) = refl
gives_lowest b (ordering o) = refl
gives_lowest b (opening o) = refl
gives_lowest b (reading s input room) = given (lowest (reading_refusals s b room)) (read s b input room) s b room (read-zero s b input room)
gives_lowest b (ending s room) = given (lowest (ending_refusals s b room)) (end s b room) s b room (end-zero s b room)

module _ (rs : List Refusal) (n : ℕ) (e : rises 0 rs ≡ true) where
  holds_first : (n ≡ 0 → ⊥) → lowest rs ≡ n → HoldsFirst rs n
  holds_first z p =
      let l = lowest_holds 0 rs e (λ q. z (sym p ∙ q)) in
      let q = l.2 ∙ p in
      record {
        place = l.0;
        there = l.1.there;
        number = q;
        holds = l.1.holds;
        lower = λ j k m. l.1.lower j k (omega arith);
      }

  first_given : HoldsFirst rs n → lowest rs ≡ n
  first_given h =
      let q = h.number in
      lowest_is 0 rs h.place e (record { there = h.there; holds = h.holds; lower = λ j k m. h.lower j k (omega arith) }) ∙ q

pub refused_exactly : RefusedExactly
refused_exactly b c n z = (
  λ p. holds_first (conditions_of b c) n (conditions_rise b c) z (sym (gives_lowest b c) ∙ p),
  λ h. gives_lowest b c ∙ first_given (conditions_of b c) n (conditions_rise b c) h,
)

-- ---- condition 2

none_written : (b : List ℕ) → no_table b ≡ true → (t : Table) → WrittenAs t b → ⊥
unfolding no_table
none_written b e t w = false≢true (sym (fails-true _ e) ∙ (written_is t b w).0)

is_none : (b : List ℕ) (v : Bool) → is_table b ≡ v → ((t : Table) → WrittenAs t b → ⊥) → no_table b ≡ true
unfolding no_table fails
is_none b true e n = absurd (n (table_of b) (is_written b e))
is_none b false e n = ap fails e

pub no_table_exactly : NoTableExactly
no_table_exactly b = (none_written b, is_none b (is_table b) refl)

-- ---- what a refused call leaves

pub refused_stays : RefusedStays
refused_stays = Stays.refused_stays

pub refused_read_stays : RefusedReadStays
unfolding read_done
refused_read_stays s b input room z =
    untouched (lowest (reading_refusals s b room)) (read s b input room) s b room (read-zero s b input room) z

pub refused_end_stays : RefusedEndStays
unfolding end_done
refused_end_stays s b room z =
    untouched (lowest (ending_refusals s b room)) (end s b room) s b room (end-zero s b room) z
