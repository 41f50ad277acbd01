-- The end calls show what the file's end says:
-- where a last record replies and another reply is due there are two, each with its reply, else one.
-- Assumes nothing.
use Prim.Native.Nat.{ℕ, ◌≤◌}
use mathlib.Core.Path.{◌≡◌, refl, sym, ap, ap₂, ◌∙◌, subst}
use mathlib.Core.List.{List, [], ◌∷◌, ◌++◌, append-nil}
use mathlib.Core.Bool.{Bool, true, false, false≢true}
use lib.ListN.{length}
use Rattle.ground.specs.Choice.{pick}
use Rattle.ground.proofs.Bools.{picked}
use Rattle.reply.specs.declared.Answering.{Answering}
use Rattle.whole_file.specs.WholeFile.{Given, given_at}
use Rattle.session.specs.Events.{Turn, file_ended, is_due}
use Rattle.session.specs.Machine.{last_ended}
use Rattle.session.specs.Ranges.{is_closed}
use Rattle.session.specs.Told.{Answered, said_by, end_told}
use Rattle.session.specs.declared.Place.{Place}
use Rattle.session.specs.declared.Place.TheVariants.{BeforeEsi, Outside, Collecting, InData, Closed}
use Rattle.session.specs.declared.Reply.{Reply}
use Rattle.session.specs.declared.Session.{Session}
use Rattle.law_cutting.proofs.Keeps.{keeps_last, keeps_file}
use Rattle.calls.specs.Reading.{Done, served_by, awaits, finishes, end_served, end_done}
use Rattle.calls.specs.Calls.{shown_by}
use Rattle.law_refinement.proofs.Last.{given_append}
use Rattle.law_protocol.specs.Protocol.{Saw, seen_at, sooner, Ends, again, last}
use Rattle.law_protocol.specs.Ready.{EndGood}
use Rattle.law_protocol.proofs.Good.{end_served_lem, keeps_end_good, awaits_good}
use Rattle.law_protocol.proofs.Lengths.{last_long, file_long}
use Rattle.law_protocol.proofs.Shown.{seen_is, said_none}
use Rattle.law_protocol.proofs.Second.{due_given, Next, next_end}

-- what the machine says, as the caller sees it
abbrev pub saw : Answered → Saw
saw a = record { given = a.given; table = a.table }

-- ---- the three answers of an end

-- x is the last record's turn, y that of the file's end after it
pub data EndCase (x y : Turn) (room : List ℕ) (d : Done) : Type 0 where
  another_due : x.out.reply.given ≡ true → is_due x.out.session.place ≡ true
      → d ≡ served_by x (awaits x.out.session) 0 false room → EndCase x y room d
  last_reply : x.out.reply.given ≡ true → is_due x.out.session.place ≡ false
      → d ≡ served_by x (finishes x.out.session) 0 true room → EndCase x y room d
  file_only : x.out.reply.given ≡ false → d ≡ served_by y (finishes y.out.session) 0 true room → EndCase x y room d

end_case : (x y : Turn) (room : List ℕ) → EndCase x y room (end_served x y room)
unfolding end_served
end_case x y room =
    picked (EndCase x y room) x.out.reply.given _ _
    (λ e. picked (EndCase x y room) (is_due x.out.session.place) _ _ (λ d. another_due e d refl) (λ d. last_reply e d refl))
    (λ e. file_only e refl)

module _ (s : Session) (w : List ℕ) where
  abbrev pub last_turn : Turn
  last_turn = last_ended s w

  abbrev pub file_turn : Turn
  file_turn = file_ended last_turn.out.session last_turn.table

  pub end_is : (room : List ℕ) → 317 ≤ length room → EndGood s w → EndCase last_turn file_turn room (end_done s w room)
  end_is room h g = subst (EndCase last_turn file_turn room) (sym (end_served_lem s w room h g)) (end_case last_turn file_turn room)

-- ---- what each shows

module _ (at : ℕ) (s : Session) (w : List ℕ) (room : List ℕ) (h : 317 ≤ length room) (g : EndGood s w) where
  last_seen : (u : Session) (finished : Bool) → seen_at at (shown_by (served_by (last_turn s w) u 0 finished room))
      ≡ given_at at (said_by (last_turn s w))
  last_seen u finished = seen_is at (last_turn s w) u 0 finished room (last_long s w g) h

  file_seen : (u : Session) (finished : Bool) → seen_at at (shown_by (served_by (file_turn s w) u 0 finished room))
      ≡ given_at at (said_by (file_turn s w))
  file_seen u finished = seen_is at (file_turn s w) u 0 finished room (file_long s w g (keeps_last s w)) h

  -- one reply, of the last record
  shows_last : (last_turn s w).out.reply.given ≡ true → is_due (last_turn s w).out.session.place ≡ false
      → record { given = given_at at (said_by (last_turn s w)); table = (last_turn s w).table } ≡ saw (end_told at s w)
  unfolding end_told
  shows_last e d =
      let q = due_given (last_turn s w).out.session (last_turn s w).table ∙ d in
      ap₂ (λ (l : List Answering) (t : List ℕ). record { given = given_at at l; table = t })
      (sym (ap (λ (l : List Answering). said_by (last_turn s w) ++ l) (said_none (file_turn s w) q) ∙ append-nil _))
      (sym ((keeps_file (last_turn s w).out.session (last_turn s w).table).silent_same q))

  -- at most one, of the file's end
  shows_file : (last_turn s w).out.reply.given ≡ false
      → record { given = given_at at (said_by (file_turn s w)); table = (file_turn s w).table } ≡ saw (end_told at s w)
  unfolding end_told
  shows_file e =
      ap (λ (l : List Answering). record { given = given_at at (l ++ said_by (file_turn s w)); table = (file_turn s w).table })
      (sym (said_none (last_turn s w) e))

  pub finished_case : (d : Done) → EndCase (last_turn s w) (file_turn s w) room d → d.answer.finished ≡ true
      → record { given = seen_at at (shown_by d); table = d.table } ≡ saw (end_told at s w)
  unfolding served_by
  finished_case d (another_due e k is) f = absurd (false≢true (sym (ap (λ (x : Done). x.answer.finished) is) ∙ f))
  finished_case d (last_reply e k is) f =
      ap (λ (x : Done). record { given = seen_at at (shown_by x); table = x.table }) is
      ∙ ap (λ (l : List Given). record { given = l; table = (last_turn s w).table }) (last_seen _ true)
      ∙ shows_last e k
  finished_case d (file_only e is) f =
      ap (λ (x : Done). record { given = seen_at at (shown_by x); table = x.table }) is
      ∙ ap (λ (l : List Given). record { given = l; table = (file_turn s w).table }) (file_seen _ true)
      ∙ shows_file e

-- ---- an end after which another reply is due

due_open : (p : Place) → is_due p ≡ true → is_closed p ≡ false
unfolding is_due is_closed
due_open BeforeEsi e = refl
due_open Outside e = refl
due_open (Collecting kind) e = refl
due_open InData e = refl
due_open Closed e = absurd (false≢true e)

said_same : (x y : Turn) → x.out.reply ≡ y.out.reply → said_by x ≡ said_by y
unfolding said_by
said_same x y e = ap (λ (r : Reply). pick r.given (r.answer ∷ []) []) e

-- the next end says what the file's end would have said at once
next_told : (at : ℕ) (u : Session) (v : List ℕ) → Next u v (last_ended (awaits u) v)
    → end_told at (awaits u) v ≡ record { given = given_at at (said_by (file_ended u v)); table = (file_ended u v).table }
unfolding end_told
next_told at u v n =
    let x = last_ended (awaits u) v in
    ap₂ (λ (l : List Answering) (t : List ℕ). record { given = given_at at l; table = t })
    (ap₂ (λ (l m : List Answering). l ++ m) (said_none x n.unsaid)
    (said_same (file_ended x.out.session x.table) (file_ended u v) n.same_reply))
    n.same_table

module _ (s : Session) (w : List ℕ) where
  abbrev pub later : Session
  later = awaits (last_turn s w).out.session

  module _ (e : (last_turn s w).out.reply.given ≡ true) (k : is_due (last_turn s w).out.session.place ≡ true) where
    pub next_is : Next (last_turn s w).out.session (last_turn s w).table (last_ended later (last_turn s w).table)
    next_is = next_end s w (last_turn s w) refl e k

    pub later_good : EndGood s w → EndGood later (last_turn s w).table
    later_good g = awaits_good (keeps_end_good (keeps_last s w) (due_open (last_turn s w).out.session.place k) g)

    again_told : (at : ℕ) (room : List ℕ) → 317 ≤ length room → EndGood s w → (l : Saw) → l ≡ saw (end_told at later (last_turn s w).table)
        → sooner (seen_at at (shown_by (served_by (last_turn s w) later 0 false room))) l ≡ saw (end_told at s w)
    unfolding end_told sooner
    again_told at room h g l ih =
        ap₂ sooner (last_seen at s w room h g later false) (ih ∙ ap saw (next_told at _ _ next_is))
        ∙ ap (λ (x : List Given). record { given = x; table = (file_turn s w).table })
        (sym (given_append at (said_by (last_turn s w)) (said_by (file_turn s w))))

-- such an end leaves a good state, and with what the ends after it show it shows all
pub record Again (at : ℕ) (s : Session) (w : List ℕ) (d : Done) : Type 0 where
  pub good : EndGood d.answer.session d.table
  pub shows : (l : Saw) → l ≡ saw (end_told at d.answer.session d.table) → sooner (seen_at at (shown_by d)) l ≡ saw (end_told at s w)

pub again_case : (at : ℕ) (s : Session) (w room : List ℕ) → 317 ≤ length room → EndGood s w
    → (d : Done) → EndCase (last_turn s w) (file_turn s w) room d → d.answer.finished ≡ false → Again at s w d
unfolding served_by
again_case at s w room h g d (another_due e k is) f =
    subst (Again at s w) (sym is) (record { good = later_good s w e k g; shows = again_told s w e k at room h g })
again_case at s w room h g d (last_reply e k is) f = absurd (false≢true (sym f ∙ ap (λ (x : Done). x.answer.finished) is))
again_case at s w room h g d (file_only e is) f = absurd (false≢true (sym f ∙ ap (λ (x : Done). x.answer.finished) is))

pub ends_are : {rooms : List (List ℕ)} {at : ℕ} {s : Session} {w : List ℕ} {l : Saw} → Ends rooms at s w l → EndGood s w
    → l ≡ saw (end_told at s w)
ends_are (again {at = at} {s = s} {b = w} {l = l} room h f r) g =
    let a = again_case at s w room h g (end_done s w room) (end_is s w room h g) f in
    a.shows l (ends_are r a.good)
ends_are (last {at = at} {s = s} {b = w} room h f) g = finished_case at s w room h g (end_done s w room) (end_is s w room h g) f
