-- A closed file says nothing more: no byte moves the session from its place, or touches the table.
-- Assumes nothing.
use Prim.Native.Nat.{ℕ, ◌+◌}
use mathlib.Core.Path.{◌≡◌, refl, ap, ap₂, ◌∙◌}
use mathlib.Core.Bool.{true}
use mathlib.Core.List.{List, [], ◌∷◌, ◌++◌}
use Rattle.ground.specs.Choice.{pick}
use Rattle.ground.proofs.Bools.{picked}
use Rattle.reply.specs.declared.Answering.{Answering}
use Rattle.opening.specs.declared.Opening.{Opening}
use Rattle.whole_file.specs.Records.{Item, line, past_size}
use Rattle.whole_file.specs.WholeFile.{Situation, closed, Standing, Step, Given, silent as stays, record_in, past_in, end_in, given_at, sooner}
use Rattle.whole_file.specs.WholeFile.{told_of}
use Rattle.session.specs.Lines.{Event, characters, record_ends, size_passed, waited, event_of, line_after, line_ended}
use Rattle.session.specs.Events.{Turn, silent, heard_by, heard, ends_in, record_ended, passed_in, passed, finished_in, file_ended}
use Rattle.session.specs.Machine.{with_line, on_event, stepped, is_begun, last_ended}
use Rattle.session.specs.Ranges.{is_closed}
use Rattle.session.specs.Told.{said_by, Answered, before, end_told, all_told}
use Rattle.session.specs.declared.Place.{Place}
use Rattle.session.specs.declared.Place.TheVariants.{BeforeEsi, Outside, Collecting, InData, Closed}
use Rattle.session.specs.declared.Session.{Session}

pub is_closed_lem : (p : Place) → is_closed p ≡ true → p ≡ Closed
unfolding is_closed
is_closed_lem BeforeEsi e = cc
is_closed_lem Outside e = cc
is_closed_lem (Collecting kind) e = cc
is_closed_lem InData e = cc
is_closed_lem Closed e = refl

pub closed_is : (p : Place) → p ≡ Closed → is_closed p ≡ true
unfolding is_closed
closed_is p e = ap is_closed e

-- ---- the session's side

-- a turn that says nothing, on the table w, in a closed file
record Still (w : List ℕ) (y : Turn) : Type 0 where
  says : said_by y ≡ []
  place : y.out.session.place ≡ Closed
  table : y.table ≡ w

silent_still : (s : Session) (w : List ℕ) → s.place ≡ Closed → Still w (silent s w)
unfolding silent said_by pick
silent_still s w e = record { says = refl; place = e; table = refl }

as_silent : (s : Session) (w : List ℕ) (y : Turn) → y ≡ silent s w → s.place ≡ Closed → Still w y
as_silent s w y q e = rw q (silent_still s w e)

module _ (s : Session) (w : List ℕ) (e : s.place ≡ Closed) where
  ended_still : Still w (record_ended s w)
  unfolding record_ended ends_in
  ended_still = as_silent s w _ (ap (λ (p : Place). ends_in p s w) e) e

  passed_still : Still w (passed s w)
  unfolding passed passed_in
  passed_still = as_silent s w _ (ap (λ (p : Place). passed_in p s w) e) e

  finished_still : Still w (file_ended s w)
  unfolding file_ended finished_in
  finished_still = as_silent s w _ (ap (λ (p : Place). finished_in p s w) e) e

  heard_place : (l : List ℕ) → (heard s l).place ≡ Closed
  unfolding heard heard_by
  heard_place l = e

  event_still : (v : Event) → Still w (on_event v s w)
  unfolding on_event
  event_still (characters l) = silent_still (heard s l) w (heard_place l)
  event_still record_ends = ended_still
  event_still size_passed = passed_still

step_still : (s : Session) (w : List ℕ) (b : ℕ) → s.place ≡ Closed → Still w (stepped s w b)
unfolding stepped with_line
step_still s w b e = event_still (with_line s (line_after s.line b)) w e (event_of s.line b)

last_still : (s : Session) (w : List ℕ) → s.place ≡ Closed → Still w (last_ended s w)
unfolding last_ended with_line
last_still s w e =
    picked (Still w) (is_begun s) _ _ (λ t. ended_still (with_line (heard s (waited s.line.cr)) (line_ended s.line)) w
    (heard_place s w e (waited s.line.cr)))
    (λ t. silent_still s w e)

pub answered_eq : {l k : List Given} {t u : List ℕ} → l ≡ k → t ≡ u → ◌≡◌ {A = Answered} (record { given = l; table = t })
    (record { given = k; table = u })
answered_eq p q = rw (p, q)

none_said : (at : ℕ) (l k : List Answering) → l ≡ [] → k ≡ [] → given_at at (l ++ k) ≡ []
unfolding given_at
none_said at l k p q = rw (p, q)

end_quiet : (at : ℕ) (s : Session) (w : List ℕ) → s.place ≡ Closed → end_told at s w ≡ record { given = []; table = w }
unfolding end_told
end_quiet at s w e =
    let x = last_still s w e in
    let y = finished_still (last_ended s w).out.session (last_ended s w).table x.place in
    answered_eq (none_said at _ _ x.says y.says) (y.table ∙ x.table)

quiet_from : (bs : List ℕ) (at : ℕ) (s : Session) (w : List ℕ) → s.place ≡ Closed → all_told at s w bs ≡ record { given = []; table = w }
unfolding all_told before given_at
quiet_from [] at s w e = end_quiet at s w e
quiet_from (b ∷ bs) at s w e =
    let x = step_still s w b e in
    let r = quiet_from bs (at + 1) (stepped s w b).out.session (stepped s w b).table x.place in
    answered_eq
    (ap₂ (λ (l k : List Given). l ++ k) (ap (given_at (at + 1)) x.says) (ap (λ (a : Answered). a.given) r))
    (ap (λ (a : Answered). a.table) r ∙ x.table)

pub closed_quiet : (bs : List ℕ) (at : ℕ) (s : Session) (w : List ℕ) → is_closed s.place ≡ true → all_told at s w bs
    ≡ record { given = []; table = w }
closed_quiet bs at s w e = quiet_from bs at s w (is_closed_lem s.place e)

-- ---- the whole-file answer's side

pub closed_told : (items : List Item) (o : Opening) (size : ℕ) (st : Standing) → st.situation ≡ closed → told_of o size st items
    ≡ record { given = []; standing = st }
unfolding told_of given_at sooner record_in past_in end_in stays
closed_told [] o size st e = ap (λ (x : Step). record { given = given_at size x.says; standing = x.after }) (ap (end_in o st) e)
closed_told (line r ∷ l) o size st e =
    ap (λ (x : Step). sooner (given_at r.end x.says) (told_of o size x.after l))
    (ap (λ (x : Situation). record_in o st x r.chars) e)
    ∙ ap (sooner []) (closed_told l o size st e)
closed_told (past_size at ∷ l) o size st e =
    ap (λ (x : Step). sooner (given_at at x.says) (told_of o size x.after l)) (ap (past_in o st) e)
    ∙ ap (sooner []) (closed_told l o size st e)
