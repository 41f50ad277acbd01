-- What a caller does with a file (demand 3): reads of any sizes, zero too, each with any reply room of at least 317 bytes, the session and
-- table handed on, untaken bytes handed in again, nothing after a call that said finished, ends until finished once all bytes are taken.
-- Assumes nothing.
use Rattle.std.specs.Prelude.{ℕ, zero, suc, ◌+◌, ◌≤◌, ◌≡◌, true, false, List, [], ◌∷◌, ◌++◌, length, take, drop}
use Rattle.whole_file.specs.WholeFile.{Given}
use Rattle.session.specs.declared.Session.{Session}
use Rattle.calls.specs.Reading.{read_done, end_done}
use Rattle.calls.specs.Calls.{shown_by}

-- the replies that a call shows, with the number of the file's bytes taken by then
unfoldable pub seen_at : ℕ → List (List ℕ) → List Given
seen_at at [] = []
seen_at at (r ∷ l) = record { at = at; reply = r } ∷ seen_at at l

-- all that the caller has seen of replies, and the table that is left
pub record Saw : Type 0 where
  pub given : List Given
  pub table : List ℕ

unfoldable pub sooner : List Given → Saw → Saw
sooner l x = record { given = l ++ x.given; table = x.table }

-- a read as the caller lends it: how many bytes it hands in, and the reply room
pub record Lent : Type 0 where
  pub size : ℕ
  pub room : List ℕ

-- the end calls of a session s over table bytes w, with these reply rooms in order, when `at` bytes of the file were taken
pub data Ends : List (List ℕ) → ℕ → Session → List ℕ → Saw → Type 0 where
  again : {rooms : List (List ℕ)} {at : ℕ} {s : Session} {b : List ℕ} {l : Saw} (room : List ℕ) → 317 ≤ length room
      → (end_done s b room).answer.finished ≡ false
      → Ends rooms at (end_done s b room).answer.session (end_done s b room).table l
      → Ends (room ∷ rooms) at s b (sooner (seen_at at (shown_by (end_done s b room))) l)
  last : {at : ℕ} {s : Session} {b : List ℕ} (room : List ℕ) → 317 ≤ length room
      → (end_done s b room).answer.finished ≡ true
      → Ends (room ∷ []) at s b (record { given = seen_at at (shown_by (end_done s b room)); table = (end_done s b room).table })

-- a run with these reads and then ends with these rooms, in order: `at` bytes were taken, `rest` are the file's others
pub data Runs : List Lent → List (List ℕ) → ℕ → Session → List ℕ → List ℕ → Saw → Type 0 where
  read : {ks : List Lent} {rooms : List (List ℕ)} {at : ℕ} {s : Session} {b rest : List ℕ} {l : Saw} (k : ℕ) (room : List ℕ)
      → 317 ≤ length room
      → (read_done s b (take k rest) room).answer.finished ≡ false
      → Runs ks rooms (at + (read_done s b (take k rest) room).answer.taken) (read_done s b (take k rest) room).answer.session
      (read_done s b (take k rest) room).table
      (drop (read_done s b (take k rest) room).answer.taken rest)
      l
      → Runs (record { size = k; room = room } ∷ ks) rooms at s b rest
      (sooner (seen_at (at + (read_done s b (take k rest) room).answer.taken) (shown_by (read_done s b (take k rest) room))) l)
  shut : {at : ℕ} {s : Session} {b rest : List ℕ} (k : ℕ) (room : List ℕ) → 317 ≤ length room
      → (read_done s b (take k rest) room).answer.finished ≡ true
      → Runs (record { size = k; room = room } ∷ []) [] at s b rest
      (record {
        given = seen_at (at + (read_done s b (take k rest) room).answer.taken) (shown_by (read_done s b (take k rest) room));
        table = (read_done s b (take k rest) room).table;
      })
  close : {rooms : List (List ℕ)} {at : ℕ} {s : Session} {b : List ℕ} {l : Saw} → Ends rooms at s b l → Runs [] rooms at s b [] l

-- no call of these is refused
unfoldable pub EndsServed : {rooms : List (List ℕ)} {at : ℕ} {s : Session} {b : List ℕ} {l : Saw} → Ends rooms at s b l → Type 0
EndsServed (again {s = s} {b = b} room h f r) = ((end_done s b room).answer.refusal ≡ 0) × EndsServed r
EndsServed (last {s = s} {b = b} room h f) = (end_done s b room).answer.refusal ≡ 0

unfoldable pub RunServed : {ks : List Lent} {rooms : List (List ℕ)} {at : ℕ} {s : Session} {b rest : List ℕ} {l : Saw}
    → Runs ks rooms at s b rest l → Type 0
RunServed (read {s = s} {b = b} {rest = rest} k room h f r) =
    ((read_done s b (take k rest) room).answer.refusal ≡ 0) × RunServed r
RunServed (shut {s = s} {b = b} {rest = rest} k room h f) = (read_done s b (take k rest) room).answer.refusal ≡ 0
RunServed (close e) = EndsServed e

-- n of a sequence of reply rooms, and of reads with them, from the i-th on
unfoldable pub rooms_from : ℕ → ℕ → (ℕ → List ℕ) → List (List ℕ)
rooms_from zero i rooms = []
rooms_from (suc n) i rooms = rooms i ∷ rooms_from n (i + 1) rooms

unfoldable pub reads_from : ℕ → ℕ → (ℕ → ℕ) → (ℕ → List ℕ) → List Lent
reads_from zero i sizes rooms = []
reads_from (suc n) i sizes rooms = record { size = sizes i; room = rooms i } ∷ reads_from n (i + 1) sizes rooms
