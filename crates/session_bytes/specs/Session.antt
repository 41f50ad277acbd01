-- A session as bytes that a host keeps (docs/FORMAT.md): its fields in their order, each a line, and how they are a session's. Every number
-- is written lowest byte first.
-- Assumes nothing.
use Rattle.std.specs.Prelude.{ℕ, Bool, List, eqb, length, None, Option, Some}
use Rattle.std.proofs.Math.Option.{none, some}
use Rattle.ground.specs.Choice.{both, pick}
use Rattle.ground.specs.Lists.{same}
use Rattle.codec.specs.Layout.{Shape, number, named, text, perhaps, within, ◌⊗◌, Value, enc, dec}
use Rattle.codec.specs.Flag.{flag}
use Rattle.digest.specs.declared.State.{State}
use Rattle.message.specs.declared.Collected.{Collected}
use Rattle.session.specs.Machine.{unopened}
use Rattle.session.specs.declared.Gathered.{Gathered}
use Rattle.session.specs.declared.Batch.{Batch}
use Rattle.session.specs.declared.Session.{Session}
use Rattle.session_bytes.specs.Names.{places, extents}

-- a session takes 472 bytes
abbrev pub session_size : ℕ
session_size = 472

-- ---- the layout

abbrev pub head_shape : Shape
head_shape =
    flag ⊗  -- opened
    flag ⊗  -- ended
    flag ⊗  -- told
    named places ⊗  -- place
    number 4 ⊗  -- opening.today
    number 4 ⊗  -- opening.time
    number 4 ⊗  -- opening.kind
    number 8 ⊗  -- opening.clock
    number 8  -- made

abbrev pub line_shape : Shape
line_shape =
    number 4 ⊗  -- line.size
    flag  -- line.cr

abbrev pub front_shape : Shape
front_shape =
    within head_shape ⊗  -- numbers
    text 25 ⊗  -- sender
    within line_shape  -- line

abbrev pub gathered_shape : Shape
gathered_shape =
    number 4 ⊗  -- gathered.count
    flag ⊗  -- gathered.blank
    text 161  -- gathered.text

abbrev pub suo_shape : Shape
suo_shape =
    named extents ⊗  -- batch.suo.extent
    flag ⊗  -- batch.suo.blank
    text 161  -- batch.suo.text

abbrev pub once_shape : Shape
once_shape =
    number 8  -- the one-time key

abbrev pub state_shape : Shape
state_shape =
    number 8 ⊗  -- chain
    number 8 ⊗  -- block
    number 8  -- count of characters

abbrev pub running_shape : Shape
running_shape =
    perhaps once_shape ⊗  -- a one-time key is held
    state_shape ⊗  -- digest at the record's start
    state_shape ⊗  -- digest after the record's last character that is no blank
    state_shape  -- digest after the record's last character

abbrev pub batch_shape : Shape
batch_shape =
    within suo_shape ⊗  -- SUO
    within running_shape  -- key and digest

abbrev pub session_shape : Shape
session_shape =
    within front_shape ⊗  -- numbers, sender and line
    within gathered_shape ⊗  -- the record or message on its way
    within batch_shape  -- the open frame

-- ---- the fields are a session's

abbrev pub gathered_from : Value gathered_shape → Gathered
gathered_from (count, (blank, characters)) = record { count = count; blank = blank; text = characters }

abbrev pub suo_from : Value suo_shape → Collected
suo_from (extent, (blank, characters)) = record { extent = extent; blank = blank; text = characters }

abbrev pub key_from : Value (perhaps once_shape) → Option ℕ
key_from none = None
key_from (some key) = Some key

abbrev pub state_from : Value state_shape → State
state_from (chain, (block, n)) = record { chain = chain; block = block; n = n }

abbrev pub batch_from : Value batch_shape → Batch
batch_from (suo, (once, (start, (solid, last)))) =
    record {
      suo = suo_from suo;
      once = key_from once;
      running = record { start = state_from start; solid = state_from solid; last = state_from last };
    }

abbrev pub session_from : Value session_shape → Session
session_from (((opened, (ended, (told, (place, (day, (time, (kind, (clock, made)))))))), (sender, (size, cr))), (gathered, batch)) =
    record {
      opened = opened;
      ended = ended;
      told = told;
      opening = record { today = record { yymmdd = day }; time = time; kind = kind; clock = clock };
      made = made;
      sender = sender;
      line = record { size = size; cr = cr };
      place = place;
      gathered = gathered_from gathered;
      batch = batch_from batch;
    }

-- ---- and a session's fields

abbrev pub head_to : Session → Value head_shape
head_to s =
    let o = s.opening in
    (s.opened, (s.ended, (s.told, (s.place, (o.today.yymmdd, (o.time, (o.kind, (o.clock, s.made))))))))

abbrev pub front_to : Session → Value front_shape
front_to s = (head_to s, (s.sender, (s.line.size, s.line.cr)))

abbrev pub gathered_to : Gathered → Value gathered_shape
gathered_to g = (g.count, (g.blank, g.text))

abbrev pub suo_to : Collected → Value suo_shape
suo_to c = (c.extent, (c.blank, c.text))

abbrev pub key_to : Option ℕ → Value (perhaps once_shape)
key_to None = none
key_to (Some key) = some key

abbrev pub state_to : State → Value state_shape
state_to s = (s.chain, (s.block, s.n))

abbrev pub running_to : Batch → Value running_shape
running_to b = (key_to b.once, (state_to b.running.start, (state_to b.running.solid, state_to b.running.last)))

abbrev pub batch_to : Batch → Value batch_shape
batch_to b = (suo_to b.suo, running_to b)

abbrev pub session_to : Session → Value session_shape
session_to s = (front_to s, (gathered_to s.gathered, batch_to s.batch))

-- ---- a session

unfoldable pub session_bytes : Session → List ℕ
session_bytes s = enc session_shape (session_to s)

unfoldable pub session_of : List ℕ → Session
session_of l = session_from (dec session_shape 0 l)

-- the bytes are just what the session they say is written as: flags are 0 or 1, the place is 0 to 6, the SUO's extent 0 to 4, and what is
-- not there is zero
unfoldable pub is_session : List ℕ → Bool
is_session b = both (eqb (length b) session_size) (same (session_bytes (session_of b)) b)

-- the session that bytes say; bytes that are none say one that is not open
unfoldable pub session_in : List ℕ → Session
session_in b = pick (is_session b) (session_of b) unopened

-- bytes with a session written over them; those of another length stay
unfoldable pub session_stored : List ℕ → Session → List ℕ
session_stored b s = pick (eqb (length b) session_size) (session_bytes s) b
