-- What receiving a whole file gives, whatever the size of its reads: the whole-file answer of document 01, with as many of its replies and
-- their places as the caller's buffers hold.
-- Assumes nothing.
use Rattle.std.specs.Prelude.{ℕ, ◌+◌, ◌*◌, ◌/◌, List, [], ◌∷◌, eqb, ltb, length, set}
use Rattle.ground.specs.Choice.{pick}
use Rattle.splices.specs.Bytes.{put}
use Rattle.table.specs.Table.{with_day}
use Rattle.table.specs.Written.{written}
use Rattle.table.specs.Decode.{table_of}
use Rattle.opening.specs.declared.Opening.{Opening}
use Rattle.whole_file.specs.WholeFile.{Given, Told, whole_file}
use Rattle.calls.specs.Reading.{opening_answer}
use Rattle.law_protocol.specs.Protocol.{Saw}

-- ---- what a file gives

-- the replies with their places, and the table at the end; a refused opening gives none, and leaves every byte
unfoldable pub received : List ℕ → Opening → List ℕ → Saw
received b o file =
    let told : Told = whole_file o (with_day (table_of b) o.today.yymmdd) file in
    pick (eqb (opening_answer b o) 0) (record { given = told.given; table = written b told.standing.table })
    (record { given = []; table = b })

-- ---- what is kept of it

-- so many replies are kept: each needs a slot of 317 bytes and a place
unfoldable pub smaller : ℕ → ℕ → ℕ
smaller m n = pick (ltb m n) m n

unfoldable pub capacity : List ℕ → List ℕ → ℕ
capacity replies places = smaller (length replies / 317) (length places)

-- the replies, from number i on: each stands at the front of its slot, and the bytes past it stay
unfoldable pub replies_from : ℕ → ℕ → List Given → List ℕ → List ℕ
replies_from capacity i [] buffer = buffer
replies_from capacity i (g ∷ l) buffer =
    replies_from capacity (i + 1) l (pick (ltb i capacity) (put (317 * i) g.reply buffer) buffer)

-- their places, the numbers of the file's bytes taken by then
unfoldable pub places_from : ℕ → ℕ → List Given → List ℕ → List ℕ
places_from capacity i [] buffer = buffer
places_from capacity i (g ∷ l) buffer =
    places_from capacity (i + 1) l (pick (ltb i capacity) (set buffer i g.at) buffer)

abbrev pub replies_kept : ℕ → List Given → List ℕ → List ℕ
replies_kept capacity given buffer = replies_from capacity 0 given buffer

abbrev pub places_kept : ℕ → List Given → List ℕ → List ℕ
places_kept capacity given buffer = places_from capacity 0 given buffer
