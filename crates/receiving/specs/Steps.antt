-- What the steps of receiving a file promise each other: what one call adds, how far the reads have come, and what the ends add.
-- Assumes nothing.
use Rattle.std.specs.Prelude.{ℕ, ◌+◌, ◌≡◌, true, false, List, [], ◌∷◌, eqb, length, take}
use Rattle.ground.specs.Choice.{pick}
use Rattle.whole_file.specs.WholeFile.{Given}
use Rattle.session.specs.Told.{all_told, end_told}
use Rattle.session.specs.declared.Session.{Session}
use Rattle.calls.specs.Reading.{Done}
use Rattle.calls.specs.Calls.{shown_by}
use Rattle.law_protocol.specs.Protocol.{Saw, seen_at, sooner}
use Rattle.law_protocol.specs.Ready.{EndGood}
use Rattle.receiving.specs.Receiving.{capacity, replies_from, places_from}
use Rattle.receiving.specs.declared.Going.{Going}

-- ---- what replies add to the caller's buffers and count

pub record Adds (given : List Given) (count : ℕ) (replies places : List ℕ) (more : ℕ) (kept placed : List ℕ) : Type 0 where
  pub counts : more ≡ count + length given
  pub keeps : kept ≡ replies_from (capacity replies places) count given replies
  pub fills : placed ≡ places_from (capacity replies places) count given places

-- the reply of a call, if there is one
unfoldable pub seen_in : ℕ → ℕ → List ℕ → List Given
seen_in at n room = pick (eqb n 0) [] (record { at = at; reply = take n room } ∷ [])

-- one call that does d, when `at` bytes were taken before it
pub record Called (d : Done) (at count : ℕ) (replies places : List ℕ) (g : Going) (b kept placed : List ℕ) : Type 0 where
  pub session : g.session ≡ d.answer.session
  pub takes : g.at ≡ at + d.answer.taken
  pub finished : g.finished ≡ d.answer.finished
  pub leaves : b ≡ d.table
  pub adds : Adds (seen_at (at + d.answer.taken) (shown_by d)) count replies places g.count kept placed

-- ---- all that is told from here, as the caller sees it

abbrev pub saw_from : ℕ → Session → List ℕ → List ℕ → Saw
saw_from at s b rest = record { given = (all_told at s b rest).given; table = (all_told at s b rest).table }

abbrev pub saw_end : ℕ → Session → List ℕ → Saw
saw_end at s b = record { given = (end_told at s b).given; table = (end_told at s b).table }

abbrev pub over : List ℕ → Saw
over b = record { given = []; table = b }

-- of all that the file gives, `seen` is behind the caller and `rest` is to come
pub record SoFar (all rest : Saw) (replies places : List ℕ) (count : ℕ) (kept placed : List ℕ) : Type 0 where
  pub seen : List Given
  pub split : all ≡ sooner seen rest
  pub adds : Adds seen 0 replies places count kept placed

-- the reads of a file of so many bytes: one of them closed it, or its end is to be signalled
pub record AllRead (all : Saw) (size : ℕ) (replies places : List ℕ) (g : Going) (b kept placed : List ℕ) : Type 0 where
  pub closed : g.finished ≡ true → SoFar all (over b) replies places g.count kept placed
  pub at_end : g.finished ≡ false
      → EndGood g.session b × SoFar all (saw_end size g.session b) replies places g.count kept placed
