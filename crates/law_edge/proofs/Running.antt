-- A run of a box by bytes is a run of the protocol on the sessions that the bytes say, and the other way round: each call returns, leaves
-- and shows the same, and its session comes back from its bytes.
-- Assumes nothing.
use Prim.Native.Nat.{ℕ, ◌+◌}
use mathlib.Core.Path.{◌≡◌, refl, sym, ap, ap₂, ◌∙◌, subst}
use mathlib.Core.Bool.{Bool}
use mathlib.Core.List.{List, [], ◌∷◌}
use lib.ListN.{length, take, drop}
use Rattle.whole_file.specs.WholeFile.{Given}
use Rattle.session.specs.declared.Session.{Session}
use Rattle.session_bytes.specs.Session.{session_size, session_in}
use Rattle.calls.specs.Reading.{Done, read_done, end_done}
use Rattle.calls.specs.Calls.{left_by, shown_by}
use Rattle.law_protocol.specs.Protocol.{Saw, seen_at, sooner, Lent, Ends, again, last, Runs, read, shut, close}
use Rattle.edge.specs.Edge.{taken_in, finished_in}
use Rattle.edge.specs.Box.{BoxCall, lp_read, lp_end, call_of, box_answer, box_table, box_session, box_reply}
use Rattle.law_edge.specs.BoxRuns.{BoxEnds, box_again, box_last, BoxRuns, box_read, box_shut, box_close}
use Rattle.law_edge.specs.TakenApart.{Apart}
use Rattle.law_edge.proofs.Apart.{read_apart, end_apart}
use Rattle.law_edge.proofs.Sessions.{read_long, read_says, end_long, end_says}
use Rattle.law_edge.proofs.Replies.{read_seen, end_seen}

-- ---- what a box gets of the call c is what is done behind it

record Same (w : List ℕ) (c : BoxCall) (d : Done) : Type 0 where
  apart : Apart (box_answer w c) d.answer
  table_is : box_table w c ≡ d.table
  session_says : session_in (box_session w c) ≡ d.answer.session
  session_long : length (box_session w c) ≡ session_size
  shown_is : box_reply w c ≡ shown_by d

module _ (w session room : List ℕ) (s : Session) (e : session_in session ≡ s) (n : length session ≡ session_size) where
  same_read : (input : List ℕ) → Same w (lp_read session input room) (read_done s w input room)
  unfolding box_table call_of left_by
  same_read input =
      subst (λ (x : Session). Same w (lp_read session input room) (read_done x w input room)) e
      (record {
        apart = read_apart w session input room;
        table_is = refl;
        session_says = read_says w session n input room;
        session_long = read_long w session n input room;
        shown_is = read_seen w session input room;
      })

  same_end : Same w (lp_end session room) (end_done s w room)
  unfolding box_table call_of left_by
  same_end =
      subst (λ (x : Session). Same w (lp_end session room) (end_done x w room)) e
      (record {
        apart = end_apart w session room;
        table_is = refl;
        session_says = end_says w session n room;
        session_long = end_long w session n room;
        shown_is = end_seen w session room;
      })

module _ {w : List ℕ} {c : BoxCall} {d : Done} (k : Same w c d) where
  -- what is seen when `at` bytes of the file were taken before, and with those of this call
  ends_seen : (at : ℕ) → seen_at at (box_reply w c) ≡ seen_at at (shown_by d)
  ends_seen at = ap (seen_at at) k.shown_is

  reads_seen : (at : ℕ) → seen_at (at + taken_in (box_answer w c)) (box_reply w c) ≡ seen_at (at + d.answer.taken) (shown_by d)
  reads_seen at = ap₂ (λ (n : ℕ) (x : List (List ℕ)). seen_at (at + n) x) k.apart.taken_is k.shown_is

  sees : (g h : List Given) → g ≡ h → ◌≡◌ {A = Saw} (record { given = g; table = box_table w c }) (record { given = h; table = d.table })
  sees g h e = ap₂ (λ (x : List Given) (t : List ℕ). record { given = x; table = t }) e k.table_is

  finishes : {f : Bool} → finished_in (box_answer w c) ≡ f → d.answer.finished ≡ f
  finishes e = sym k.apart.finished_is ∙ e

  finished : {f : Bool} → d.answer.finished ≡ f → finished_in (box_answer w c) ≡ f
  finished e = k.apart.finished_is ∙ e

  ends_behind : {rooms : List (List ℕ)} {at : ℕ} {l : Saw} → Ends rooms at (session_in (box_session w c)) (box_table w c) l
      → Ends rooms at d.answer.session d.table l
  ends_behind {rooms} {at} {l} r =
      subst (λ (x : Session). Ends rooms at x d.table l) k.session_says
      (subst (λ (t : List ℕ). Ends rooms at (session_in (box_session w c)) t l) k.table_is r)

  ends_before : {rooms : List (List ℕ)} {at : ℕ} {l : Saw} → BoxEnds rooms at (box_session w c) d.table l
      → BoxEnds rooms at (box_session w c) (box_table w c) l
  ends_before {rooms} {at} {l} r = subst (λ (t : List ℕ). BoxEnds rooms at (box_session w c) t l) (sym k.table_is) r

  runs_behind : {ks : List Lent} {rooms : List (List ℕ)} (at : ℕ) (rest : List ℕ) {l : Saw}
      → Runs ks rooms (at + taken_in (box_answer w c)) (session_in (box_session w c)) (box_table w c) (drop (taken_in (box_answer w c)) rest) l
      → Runs ks rooms (at + d.answer.taken) d.answer.session d.table (drop d.answer.taken rest) l
  runs_behind {ks} {rooms} at rest {l} r =
      let n = taken_in (box_answer w c) in
      subst (λ (m : ℕ). Runs ks rooms (at + m) d.answer.session d.table (drop m rest) l) k.apart.taken_is
      (subst (λ (x : Session). Runs ks rooms (at + n) x d.table (drop n rest) l) k.session_says
      (subst (λ (t : List ℕ). Runs ks rooms (at + n) (session_in (box_session w c)) t (drop n rest) l) k.table_is r))

  runs_before : {ks : List Lent} {rooms : List (List ℕ)} (at : ℕ) (rest : List ℕ) {l : Saw}
      → BoxRuns ks rooms (at + d.answer.taken) (box_session w c) d.table (drop d.answer.taken rest) l
      → BoxRuns ks rooms (at + taken_in (box_answer w c)) (box_session w c) (box_table w c) (drop (taken_in (box_answer w c)) rest) l
  runs_before {ks} {rooms} at rest {l} r =
      subst (λ (n : ℕ). BoxRuns ks rooms (at + n) (box_session w c) (box_table w c) (drop n rest) l) (sym k.apart.taken_is)
      (subst (λ (t : List ℕ). BoxRuns ks rooms (at + d.answer.taken) (box_session w c) t (drop d.answer.taken rest) l)
      (sym k.table_is) r)

-- ---- from the box to the protocol

ends_of : {rooms : List (List ℕ)} {at : ℕ} {session w : List ℕ} {l : Saw} → BoxEnds rooms at session w l → length session ≡ session_size
    → Ends rooms at (session_in session) w l
ends_of (box_again {rooms = rooms} {at = at} {session = session} {b = w} {l = l} room h f r) n =
    let k = same_end w session room (session_in session) refl n in
    subst (λ (g : List Given). Ends (room ∷ rooms) at (session_in session) w (sooner g l)) (sym (ends_seen k at))
    (again room h (finishes k f) (ends_behind k (ends_of r k.session_long)))
ends_of (box_last {at = at} {session = session} {b = w} room h f) n =
    let k = same_end w session room (session_in session) refl n in
    subst (Ends (room ∷ []) at (session_in session) w) (sym (sees k _ _ (ends_seen k at))) (last room h (finishes k f))

pub runs_of : {ks : List Lent} {rooms : List (List ℕ)} {at : ℕ} {session w rest : List ℕ} {l : Saw}
    → BoxRuns ks rooms at session w rest l → length session ≡ session_size
    → Runs ks rooms at (session_in session) w rest l
runs_of (box_read {ks = ks} {rooms = rooms} {at = at} {session = session} {b = w} {rest = rest} {l = l} j room h f r) n =
    let k = same_read w session room (session_in session) refl n (take j rest) in
    subst (λ (g : List Given). Runs (record { size = j; room = room } ∷ ks) rooms at (session_in session) w rest (sooner g l))
    (sym (reads_seen k at))
    (read j room h (finishes k f) (runs_behind k at rest (runs_of r k.session_long)))
runs_of (box_shut {at = at} {session = session} {b = w} {rest = rest} j room h f) n =
    let k = same_read w session room (session_in session) refl n (take j rest) in
    subst (Runs (record { size = j; room = room } ∷ []) [] at (session_in session) w rest) (sym (sees k _ _ (reads_seen k at)))
    (shut j room h (finishes k f))
runs_of (box_close e) n = close (ends_of e n)

-- ---- and back

ends_to : {rooms : List (List ℕ)} {at : ℕ} {s : Session} {w : List ℕ} {l : Saw} → Ends rooms at s w l → (session : List ℕ)
    → length session ≡ session_size
    → session_in session ≡ s
    → BoxEnds rooms at session w l
ends_to (again {rooms = rooms} {at = at} {s = s} {b = w} {l = l} room h f r) session n e =
    let k = same_end w session room s e n in
    subst (λ (g : List Given). BoxEnds (room ∷ rooms) at session w (sooner g l)) (ends_seen k at)
    (box_again room h (finished k f) (ends_before k (ends_to r (box_session w (lp_end session room)) k.session_long k.session_says)))
ends_to (last {at = at} {s = s} {b = w} room h f) session n e =
    let k = same_end w session room s e n in
    subst (BoxEnds (room ∷ []) at session w) (sees k _ _ (ends_seen k at)) (box_last room h (finished k f))

pub runs_to : {ks : List Lent} {rooms : List (List ℕ)} {at : ℕ} {s : Session} {w rest : List ℕ} {l : Saw}
    → Runs ks rooms at s w rest l → (session : List ℕ)
    → length session ≡ session_size → session_in session ≡ s
    → BoxRuns ks rooms at session w rest l
runs_to (read {ks = ks} {rooms = rooms} {at = at} {s = s} {b = w} {rest = rest} {l = l} j room h f r) session n e =
    let k = same_read w session room s e n (take j rest) in
    let later = runs_to r (box_session w (lp_read session (take j rest) room)) k.session_long k.session_says in
    subst (λ (g : List Given). BoxRuns (record { size = j; room = room } ∷ ks) rooms at session w rest (sooner g l)) (reads_seen k at)
    (box_read j room h (finished k f) (runs_before k at rest later))
runs_to (shut {at = at} {s = s} {b = w} {rest = rest} j room h f) session n e =
    let k = same_read w session room s e n (take j rest) in
    subst (BoxRuns (record { size = j; room = room } ∷ []) [] at session w rest) (sees k _ _ (reads_seen k at))
    (box_shut j room h (finished k f))
runs_to (close x) session n e = box_close (ends_to x session n e)
