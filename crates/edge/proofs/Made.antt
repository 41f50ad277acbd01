-- What each call is handed is what the numbers and bytes say, and what it answers is packed and stored.
-- Assumes nothing.
use Prim.Native.Nat.{ℕ}
use mathlib.Core.Path.{◌≡◌, refl, sym, ap, ◌∙◌}
use mathlib.Core.List.{List, [], append-nil}
use native.Mathlib.Omega.{arith}
use lib.Dec.{eqb}
use lib.ListN.{length, replicate, drop_of_length-le}
use lib.Seq.{take_all}
use borrow.Author.Tests.{eq-eqb, ne_eqb}
use Rattle.ground.specs.Choice.{pick}
use Rattle.ground.specs.Lists.{overlay}
use Rattle.ground.proofs.Choices.{picks, skips}
use Rattle.session_bytes.specs.Session.{session_size, session_in, session_stored}
use Rattle.session.specs.declared.Session.{Session}
use Rattle.table_calls.specs.Calls.{setting_up_answer, adding_answer, entering_answer, ordering_answer}
use Rattle.table_calls.specs.Calls.{setting_up_leaves, adding_leaves, entering_leaves, ordering_leaves}
use Rattle.opening.specs.declared.Opening.{Opening}
use Rattle.calls.specs.Reading.{Done, opening_gives, opening_leaves, read_done, end_done}
use Rattle.calls.specs.declared.Answer.{Answer}
use Rattle.calls.specs.declared.OpenAnswer.{OpenAnswer}
use Rattle.calls.specs.Calls.{refusal_of, left_by}
use Rattle.edge.specs.Edge.{fixed, setting_by, adding_by, entering_by, ordering_by, opening_by, read_by, end_by}
use Rattle.edge.specs.Edge.{session_after_opening, session_after, packed}
use Rattle.edge.specs.Box.{lp_set_up, lp_add, lp_enter, lp_order, lp_open, lp_read, lp_end}
use Rattle.edge.specs.Box.{call_of, box_answer, box_table, box_session, box_room, MeetsBox}

-- ---- arrays of a slice

pub fixed_copied : (n : ℕ) (l d : List ℕ) → length l ≡ n → length d ≡ n → overlay l d ≡ fixed n l
unfolding overlay fixed
fixed_copied n l d e f =
    rw (take_all (length d) l (omega (arith, e, f)), drop_of_length-le d {i = length l} (omega (arith, e, f)), append-nil l)
    (sym (picks _ l (replicate n 0) (eq-eqb _ _ e)))

pub fixed_none : (n : ℕ) (l : List ℕ) → (length l ≡ n → ⊥) → replicate n 0 ≡ fixed n l
unfolding fixed
fixed_none n l e = sym (skips _ l (replicate n 0) (ne_eqb _ _ e))

-- ---- the session's bytes after a call

pub opened_stored : (session : List ℕ) (a : OpenAnswer) {x : List ℕ} → a.refusal ≡ 0 → x ≡ session_stored session a.session
    → x ≡ session_after_opening session a
unfolding session_after_opening
opened_stored session a e f = f ∙ sym (picks _ _ session (eq-eqb _ _ e))

pub opened_kept : (session : List ℕ) (a : OpenAnswer) → (a.refusal ≡ 0 → ⊥) → session ≡ session_after_opening session a
unfolding session_after_opening
opened_kept session a e = sym (skips _ (session_stored session a.session) session (ne_eqb _ _ e))

pub stored : (session : List ℕ) (a : Answer) {x : List ℕ} → a.refusal ≡ 0 → x ≡ session_stored session a.session
    → x ≡ session_after session a
unfolding session_after
stored session a e f = f ∙ sym (picks _ _ session (eq-eqb _ _ e))

pub kept : (session : List ℕ) (a : Answer) → (a.refusal ≡ 0 → ⊥) → session ≡ session_after session a
unfolding session_after
kept session a e = sym (skips _ (session_stored session a.session) session (ne_eqb _ _ e))

-- ---- the calls that keep a table, by what the calls below give

module _ {w : List ℕ} {r : ℕ} {table : List ℕ} where
  pub set_up_made : {bank software : List ℕ} {floor k v : ℕ} {holidays : List ℕ}
      → (r ≡ setting_up_answer w (setting_by bank software floor k v) holidays)
      × (table ≡ setting_up_leaves w (setting_by bank software floor k v) holidays)
      → MeetsBox w (lp_set_up bank software floor k v holidays) r table [] []
  unfolding box_answer box_table box_session box_room call_of refusal_of left_by
  set_up_made d = record { answers = d.0; leaves = d.1; keeps = refl; shows = refl }

  pub add_made : {today : ℕ} {who : List ℕ} {part1 part2 check generation types agreed leave given n : ℕ}
      → (r ≡ adding_answer w (adding_by today who part1 part2 check generation types agreed leave given n))
      × (table ≡ adding_leaves w (adding_by today who part1 part2 check generation types agreed leave given n))
      → MeetsBox w (lp_add today who part1 part2 check generation types agreed leave given n) r table [] []
  unfolding box_answer box_table box_session box_room call_of refusal_of left_by
  add_made d = record { answers = d.0; leaves = d.1; keeps = refl; shows = refl }

  pub enter_made : {today : ℕ} {who : List ℕ} {part1 part2 check generation : ℕ}
      → (r ≡ entering_answer w (entering_by today who part1 part2 check generation))
      × (table ≡ entering_leaves w (entering_by today who part1 part2 check generation))
      → MeetsBox w (lp_enter today who part1 part2 check generation) r table [] []
  unfolding box_answer box_table box_session box_room call_of refusal_of left_by
  enter_made d = record { answers = d.0; leaves = d.1; keeps = refl; shows = refl }

  pub order_made : {today : ℕ} {who : List ℕ} {clock : ℕ}
      → (r ≡ ordering_answer w (ordering_by today who clock)) × (table ≡ ordering_leaves w (ordering_by today who clock))
      → MeetsBox w (lp_order today who clock) r table [] []
  unfolding box_answer box_table box_session box_room call_of refusal_of left_by
  order_made d = record { answers = d.0; leaves = d.1; keeps = refl; shows = refl }

-- ---- a read or an end, by what the calls below give

-- what the call f gives of the session that the bytes say
record Heard (session : List ℕ) (d : Done) (r : ℕ) (table after room : List ℕ) : Type 0 where
  number : r ≡ packed d.answer
  left : table ≡ d.table
  stores : after ≡ session_after session d.answer
  shown : room ≡ d.room

heard_made : (session : List ℕ) (f : Session → Done) {s : Session} {a : Answer} {r : ℕ} {table room after : List ℕ} → s ≡ session_in session
    → (a ≡ (f s).answer) × ((table ≡ (f s).table) × (room ≡ (f s).room)) → after ≡ session_after session a → r ≡ packed a
    → Heard session (f (session_in session)) r table after room
heard_made session f es d ef er =
    let g = ap f es in
    let b = d.0 ∙ ap (λ (x : Done). x.answer) g in
    record {
      number = er ∙ ap packed b;
      left = d.1.0 ∙ ap (λ (x : Done). x.table) g;
      stores = ef ∙ ap (session_after session) b;
      shown = d.1.1 ∙ ap (λ (x : Done). x.room) g;
    }

module _ (w session input room : List ℕ) {s : Session} {a : Answer} {r : ℕ} {table after shown : List ℕ} (es : s ≡ session_in session) where
  pub read_made : (a ≡ (read_done s w input room).answer)
      × ((table ≡ (read_done s w input room).table) × (shown ≡ (read_done s w input room).room))
      → after ≡ session_after session a → r ≡ packed a
      → MeetsBox w (lp_read session input room) r table after shown
  unfolding read_by box_answer box_table box_session box_room call_of left_by
  read_made d ef er =
      let h = heard_made session (λ (x : Session). read_done x w input room) es d ef er in
      record { answers = h.number; leaves = h.left; keeps = h.stores; shows = h.shown }

  pub end_made : (a ≡ (end_done s w room).answer) × ((table ≡ (end_done s w room).table) × (shown ≡ (end_done s w room).room))
      → after ≡ session_after session a → r ≡ packed a
      → MeetsBox w (lp_end session room) r table after shown
  unfolding end_by box_answer box_table box_session box_room call_of left_by
  end_made d ef er =
      let h = heard_made session (λ (x : Session). end_done x w room) es d ef er in
      record { answers = h.number; leaves = h.left; keeps = h.stores; shows = h.shown }

-- ---- an opening, by what the call below gives

pub asked_by : (session : List ℕ) (today time kind clock : ℕ) {k : ℕ} → k ≡ pick (eqb (length session) session_size) kind 0
    → record { today = record { yymmdd = today }; time = time; kind = k; clock = clock } ≡ opening_by session today time kind clock
unfolding opening_by
asked_by session today time kind clock e = rw e

pub opening_made : (w session : List ℕ) (today time kind clock : ℕ) {o : Opening} {a : OpenAnswer} {table after : List ℕ}
    → o ≡ opening_by session today time kind clock → a ≡ opening_gives w o
    → table ≡ opening_leaves w o → after ≡ session_after_opening session a
    → MeetsBox w (lp_open session today time kind clock) a.refusal table after []
unfolding box_answer box_table box_session box_room call_of refusal_of left_by opening_gives
opening_made w session today time kind clock e ea et ef =
    let g = ea ∙ ap (opening_gives w) e in
    record {
      answers = ap (λ (x : OpenAnswer). x.refusal) g;
      leaves = et ∙ ap (opening_leaves w) e;
      keeps = ef ∙ ap (session_after_opening session) g;
      shows = refl;
    }
