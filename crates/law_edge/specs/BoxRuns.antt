-- What a box does with a file (law_protocol/specs), by what it has: the session's bytes as the last call left them, and the number that the
-- call returned, taken apart as include/lentilpot.h does.
-- Assumes nothing.
use Rattle.std.specs.Prelude.{ℕ, ◌+◌, ◌≤◌, ◌≡◌, true, false, List, [], ◌∷◌, length, take, drop}
use Rattle.law_protocol.specs.Protocol.{Saw, seen_at, sooner, Lent}
use Rattle.edge.specs.Edge.{taken_in, finished_in}
use Rattle.edge.specs.Box.{lp_read, lp_end, box_answer, box_table, box_session, box_reply}

-- the end calls over a session's and a table's bytes, with these reply rooms in order, when `at` bytes of the file were taken
pub data BoxEnds : List (List ℕ) → ℕ → List ℕ → List ℕ → Saw → Type 0 where
  box_again : {rooms : List (List ℕ)} {at : ℕ} {session b : List ℕ} {l : Saw} (room : List ℕ) → 317 ≤ length room
      → finished_in (box_answer b (lp_end session room)) ≡ false
      → BoxEnds rooms at (box_session b (lp_end session room)) (box_table b (lp_end session room)) l
      → BoxEnds (room ∷ rooms) at session b (sooner (seen_at at (box_reply b (lp_end session room))) l)
  box_last : {at : ℕ} {session b : List ℕ} (room : List ℕ) → 317 ≤ length room
      → finished_in (box_answer b (lp_end session room)) ≡ true
      → BoxEnds (room ∷ []) at session b
      (record { given = seen_at at (box_reply b (lp_end session room)); table = box_table b (lp_end session room) })

-- a run with these reads and then ends with these rooms, in order: `at` bytes were taken, `rest` are the file's others
pub data BoxRuns : List Lent → List (List ℕ) → ℕ → List ℕ → List ℕ → List ℕ → Saw → Type 0 where
  box_read : {ks : List Lent} {rooms : List (List ℕ)} {at : ℕ} {session b rest : List ℕ} {l : Saw} (k : ℕ) (room : List ℕ)
      → 317 ≤ length room
      → finished_in (box_answer b (lp_read session (take k rest) room)) ≡ false
      → BoxRuns ks rooms (at + taken_in (box_answer b (lp_read session (take k rest) room)))
      (box_session b (lp_read session (take k rest) room))
      (box_table b (lp_read session (take k rest) room))
      (drop (taken_in (box_answer b (lp_read session (take k rest) room))) rest)
      l
      → BoxRuns (record { size = k; room = room } ∷ ks) rooms at session b rest
      (sooner (seen_at (at + taken_in (box_answer b (lp_read session (take k rest) room))) (box_reply b (lp_read session (take k rest) room))) l)
  box_shut : {at : ℕ} {session b rest : List ℕ} (k : ℕ) (room : List ℕ) → 317 ≤ length room
      → finished_in (box_answer b (lp_read session (take k rest) room)) ≡ true
      → BoxRuns (record { size = k; room = room } ∷ []) [] at session b rest
      (record {
        given = seen_at (at + taken_in (box_answer b (lp_read session (take k rest) room))) (box_reply b (lp_read session (take k rest) room));
        table = box_table b (lp_read session (take k rest) room);
      })
  box_close : {rooms : List (List ℕ)} {at : ℕ} {session b : List ℕ} {l : Saw} → BoxEnds rooms at session b l
      → BoxRuns [] rooms at session b [] l
