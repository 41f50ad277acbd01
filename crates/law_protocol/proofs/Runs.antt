-- However a file is cut into reads, the caller sees what the machine says over it:
-- a read shows what its scan says, and the rest is told from there.
-- Assumes nothing.
use Prim.Native.Nat.{ℕ, ◌+◌, ◌≤◌}
use mathlib.Core.Path.{◌≡◌, sym, ap, ap₂, ◌∙◌, subst}
use mathlib.Core.List.{List, ◌++◌, append-nil}
use mathlib.Core.Bool.{true, false}
use lib.ListN.{length, take, drop, take-append-drop}
use lib.Seq.{drop-append-le}
use Rattle.whole_file.specs.WholeFile.{Given, given_at}
use Rattle.session.specs.Machine.{Scan, scanned}
use Rattle.session.specs.Told.{Answered, said_by, before, all_told}
use Rattle.session.specs.declared.Session.{Session}
use Rattle.law_cutting.proofs.Cuts.{scan_taken, scan_cut}
use Rattle.law_cutting.proofs.Keeps.{keeps_scan}
use Rattle.law_refinement.proofs.Quiet.{closed_quiet}
use Rattle.calls.specs.Reading.{Done, served_by, read_served, read_done}
use Rattle.calls.specs.Calls.{shown_by}
use Rattle.law_protocol.specs.Protocol.{Saw, seen_at, sooner, Lent, Runs, read, shut, close}
use Rattle.law_protocol.specs.Ready.{Good}
use Rattle.law_protocol.proofs.Good.{end_good, read_served_lem, keeps_good}
use Rattle.law_protocol.proofs.Lengths.{scan_long}
use Rattle.law_protocol.proofs.Shown.{seen_is}
use Rattle.law_protocol.proofs.Ends.{saw, ends_are}

-- ---- one read of the front of what is left

-- all that is told over the rest, after the scan r of its front
abbrev told_from : ℕ → Scan → List ℕ → Answered
told_from at r rest = all_told (at + r.taken) r.turn.out.session r.turn.table (drop r.taken rest)

read_told : (k at : ℕ) (s : Session) (w rest : List ℕ)
    → all_told at s w rest
    ≡ before (given_at (at + (scanned s w (take k rest)).taken) (said_by (scanned s w (take k rest)).turn))
    (told_from at (scanned s w (take k rest)) rest)
read_told k at s w rest =
    let r = scanned s w (take k rest) in
    let e : drop r.taken (take k rest) ++ drop k rest ≡ drop r.taken rest =
    sym (drop-append-le r.taken (take k rest) (drop k rest) (scan_taken (take k rest) s w))
    ∙ ap (drop r.taken) (take-append-drop k rest) in
    ap (all_told at s w) (sym (take-append-drop k rest))
    ∙ scan_cut (take k rest) (drop k rest) at s w
    ∙ ap (λ (l : List ℕ). before (given_at (at + r.taken) (said_by r.turn))
    (all_told (at + r.taken) r.turn.out.session r.turn.table l)) e

module _ (k at : ℕ) (s : Session) (w rest room : List ℕ) (h : 317 ≤ length room) (g : Good s w) where
  abbrev scan : Scan
  scan = scanned s w (take k rest)

  abbrev done : Done
  done = read_served scan room

  read_seen : seen_at (at + scan.taken) (shown_by done) ≡ given_at (at + scan.taken) (said_by scan.turn)
  unfolding read_served
  read_seen = seen_is (at + scan.taken) scan.turn _ scan.taken _ room (scan_long (take k rest) s w (end_good g)) h

  -- what a read that goes on leaves, and what it shows with the reads after it
  pub record GoesOn (d : Done) : Type 0 where
    pub good : Good d.answer.session d.table
    pub shows : (l : Saw)
        → l ≡ saw (all_told (at + d.answer.taken) d.answer.session d.table (drop d.answer.taken rest))
        → sooner (seen_at (at + d.answer.taken) (shown_by d)) l ≡ saw (all_told at s w rest)

  goes_on : done.answer.finished ≡ false → GoesOn done
  unfolding read_served served_by sooner before
  goes_on f =
      record {
        good = keeps_good (keeps_scan (take k rest) s w) f g;
        shows = λ l ih. ap₂ sooner read_seen ih ∙ sym (ap saw (read_told k at s w rest));
      }

  -- a read that closes the file shows all that is told
  abbrev Finishes : Done → Type 0
  Finishes d = record { given = seen_at (at + d.answer.taken) (shown_by d); table = d.table } ≡ saw (all_told at s w rest)

  closes : done.answer.finished ≡ true → Finishes done
  unfolding read_served served_by before
  closes f =
      ap (λ (l : List Given). record { given = l; table = scan.turn.table }) (read_seen ∙ sym (append-nil _))
      ∙ ap (λ (a : Answered). saw (before (given_at (at + scan.taken) (said_by scan.turn)) a))
      (sym (closed_quiet (drop scan.taken rest) (at + scan.taken) scan.turn.out.session scan.turn.table f))
      ∙ sym (ap saw (read_told k at s w rest))

  is : read_done s w (take k rest) room ≡ done
  is = read_served_lem s w (take k rest) room h g

  pub read_goes_on : (read_done s w (take k rest) room).answer.finished ≡ false → GoesOn (read_done s w (take k rest) room)
  read_goes_on = subst (λ (d : Done). d.answer.finished ≡ false → GoesOn d) (sym is) goes_on

  pub read_closes : (read_done s w (take k rest) room).answer.finished ≡ true → Finishes (read_done s w (take k rest) room)
  read_closes = subst (λ (d : Done). d.answer.finished ≡ true → Finishes d) (sym is) closes

-- ---- a whole run

pub runs_are : {ks : List Lent} {rooms : List (List ℕ)} {at : ℕ} {s : Session} {w rest : List ℕ} {l : Saw}
    → Runs ks rooms at s w rest l → Good s w
    → l ≡ record { given = (all_told at s w rest).given; table = (all_told at s w rest).table }
unfolding all_told
runs_are (read {at = at} {s = s} {b = w} {rest = rest} {l = l} k room h f r) g =
    let a = read_goes_on k at s w rest room h g f in
    a.shows l (runs_are r a.good)
runs_are (shut {at = at} {s = s} {b = w} {rest = rest} k room h f) g = read_closes k at s w rest room h g f
runs_are (close e) g = ends_are e (end_good g)
