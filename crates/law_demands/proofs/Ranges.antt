-- A served opening had a real time and a data type of 1 to 16, a refused one hands back a session in range, and no step leaves the range.
-- Assumes nothing.
use Prim.Native.Nat.{ℕ}
use mathlib.Core.Path.{◌≡◌, refl, ap, ◌∙◌}
use mathlib.Core.List.{List, [], ◌∷◌}
use mathlib.Core.Bool.{Bool, true, false}
use borrow.Author.Tests.{eqb-true, eqb-false}
use lib.Dec.{eqb}
use Rattle.ground.specs.Choice.{both, fails, pick, between}
use Rattle.ground.proofs.Choices.{skips, left, right, join}
use Rattle.ground.proofs.Bools.{picked}
use Rattle.calendar.specs.Dates.{real_time}
use Rattle.refusals.specs.Refusals.{refusal, lowest}
use Rattle.refusals.proofs.Refused.{served}
use Rattle.opening.specs.declared.Opening.{Opening}
use Rattle.session.specs.Events.{Turn, placed, nothing}
use Rattle.session.specs.Machine.{last_ended, unopened}
use Rattle.session.specs.Ranges.{is_cut, in_range}
use Rattle.session.specs.declared.Session.{Session}
use Rattle.law_cutting.proofs.Keeps.{keeps_scan, keeps_last, keeps_file}
use Rattle.law_cutting.proofs.Ranged.{in_range_lem}
use Rattle.calls.specs.Reading.{Done, awaits, finishes, refused_by, served_by, read_served, end_served, opening_answer, opening_gives}
use Rattle.calls.specs.Reading.{reading_refusals, ending_refusals, read_done, end_done}
use Rattle.law_protocol.proofs.Good.{end_good, goes_on}
use Rattle.law_protocol.proofs.Opened.{good_opened}
use Rattle.law_edge.proofs.Asked.{read_asked, end_asked}
use Rattle.law_demands.specs.Demands.{SessionsInRange}

served_opening : (b : List ℕ) (o : Opening) → opening_answer b o ≡ 0 → in_range (opening_gives b o).session ≡ true
served_opening b o z = (goes_on (end_good (good_opened b o z))).ranged

midnight : real_time 0 ≡ true
unfolding real_time both
midnight = refl

unopened_ranged : in_range unopened ≡ true
unfolding unopened in_range is_cut fails nothing between
unopened_ranged = join _ _ midnight (join _ _ (join _ _ refl refl) (join _ _ refl refl))

refused_opening : (b : List ℕ) (o : Opening) → eqb (opening_answer b o) 0 ≡ false → in_range (opening_gives b o).session ≡ true
unfolding opening_gives
refused_opening b o e = ap in_range (skips {A = Session} _ _ _ e) ∙ unopened_ranged

opening_ranged : (b : List ℕ) (o : Opening) → in_range (opening_gives b o).session ≡ true
opening_ranged b o = by (eqb (opening_answer b o) 0) refl
  where
    by : (v : Bool) → eqb (opening_answer b o) 0 ≡ v → in_range (opening_gives b o).session ≡ true
    by true e = served_opening b o (eqb-true _ 0 e)
    by false e = refused_opening b o e

-- what the third refusal asks
pub third : (x y z : Bool) → lowest (refusal 1 x ∷ refusal 2 y ∷ refusal 3 z ∷ []) ≡ 0 → z ≡ false
third x y z e = (served 3 _ _ refl (served 2 _ _ refl (served 1 _ _ refl e).1).1).0

-- a call that is not refused hands back what the served one does
served_ranged : (n : ℕ) (d : Done) (s : Session) (b room : List ℕ) → (n ≡ 0 → in_range d.answer.session ≡ true)
    → (pick {A = Done} (eqb n 0) d (refused_by n s b room)).answer.refusal ≡ 0
    → in_range (pick {A = Done} (eqb n 0) d (refused_by n s b room)).answer.session ≡ true
unfolding refused_by
served_ranged n d s b room r =
    picked (λ (x : Done). x.answer.refusal ≡ 0 → in_range x.answer.session ≡ true) (eqb n 0) d (refused_by n s b room)
    (λ e q. r (eqb-true n 0 e)) (λ e q. absurd (eqb-false n 0 e q))

-- ---- a read

reading_ranged : (s : Session) (b input room : List ℕ) → (read_done s b input room).answer.refusal ≡ 0
    → in_range (read_done s b input room).answer.session ≡ true
unfolding read_done read_served served_by
reading_ranged s b input room =
    served_ranged (lowest (reading_refusals s b room)) _ s b room (λ z. in_range_lem (keeps_scan input s b) (read_asked s b room z).ranged)

-- ---- an end

awaits_ranged : (s : Session) → in_range s ≡ true → in_range (awaits s) ≡ true
unfolding in_range awaits
awaits_ranged s e = e

finishes_ranged : (s : Session) → in_range s ≡ true → in_range (finishes s) ≡ true
unfolding in_range finishes awaits placed nothing
finishes_ranged s e =
    join _ _ (left _ _ e) (join _ _ (left _ _ (right _ _ e)) (join _ _ refl (right _ _ (right _ _ (right _ _ e)))))

end_served_lem : (x y : Turn) (room : List ℕ) → in_range x.out.session ≡ true → in_range y.out.session ≡ true
    → in_range (end_served x y room).answer.session ≡ true
unfolding end_served served_by
end_served_lem x y room p q =
    picked (λ (d : Done). in_range d.answer.session ≡ true) _ _ _
    (λ e. picked (λ (d : Done). in_range d.answer.session ≡ true) _ _ _ (λ f. awaits_ranged _ p) (λ f. finishes_ranged _ p))
    (λ e. finishes_ranged _ q)

ending_ranged : (s : Session) (b room : List ℕ) → (end_done s b room).answer.refusal ≡ 0 → in_range (end_done s b room).answer.session ≡ true
unfolding end_done
ending_ranged s b room =
    served_ranged (lowest (ending_refusals s b room)) _ s b room
    (λ z.
    let p = in_range_lem (keeps_last s b) (end_asked s b room z).ranged in
    end_served_lem _ _ room p (in_range_lem (keeps_file (last_ended s b).out.session (last_ended s b).table) p))

pub sessions_in_range : SessionsInRange
sessions_in_range = (opening_ranged, reading_ranged, ending_ranged)
