-- The calls that build, for a box in C or Rust (document 02, R-6; docs/FORMAT.md, include/lentilpot.h): numbers and lent bytes in place of
-- structs. 11 comes before 13; a refused call changes nothing lent to it.
-- Assumes nothing.
use Rattle.std.specs.Prelude.{ℕ, ◌≡◌, Bool, List, [], ◌∷◌, eqb, ltb, length, get_or, replicate}
use Rattle.ground.specs.Choice.{both, pick}
use Rattle.keys.specs.declared.KeyMaker.{KeyMaker}
use Rattle.desk_bytes.specs.Layout.{sent_size}
use Rattle.desk_bytes.specs.Bytes.{is_held, held_in, nothing_sent, sent_stored}
use Rattle.build.specs.Building.{message_by, esi_building, no_batch, suo_building, maker_after, record_added, var_building}
use Rattle.build.specs.declared.Given.{Given}
use Rattle.build.specs.declared.BuiltMessage.{BuiltMessage}
use Rattle.build.specs.declared.BuiltSuo.{BuiltSuo}
use Rattle.build_bytes.specs.Layout.{batch_size}
use Rattle.build_bytes.specs.Bytes.{is_batch, batch_in, batch_stored}

-- a byte: above 255 there is no character
abbrev pub is_character : ℕ → Bool
is_character x = ltb x 256

-- ---- an ESI or a VAR

-- what 11 hands back
unfoldable pub no_message : BuiltMessage
no_message = message_by 11 (replicate 161 0) nothing_sent

-- room for the message's 161 characters, and for what was sent
abbrev pub has_room : (text sent : List ℕ) → Bool
has_room text sent = both (eqb (length text) 161) (eqb (length sent) sent_size)

-- the rooms after the call
unfoldable pub text_after : (text : List ℕ) → BuiltMessage → List ℕ
text_after text x = pick (eqb x.refusal 0) x.text text

unfoldable pub sent_after : (sent : List ℕ) → BuiltMessage → List ℕ
sent_after sent x = pick (eqb x.refusal 0) (sent_stored sent x.sent) sent

pub record MeetsBuilding (text sent : List ℕ) (x : BuiltMessage) (answer : ℕ) (text_later sent_later : List ℕ) : Type 0 where
  pub answers : answer ≡ x.refusal
  pub writes : text_later ≡ text_after text x
  pub keeps : sent_later ≡ sent_after sent x

-- 11: bytes that are no desk's, a text of another length than its field, a number that is no character, room of another length
unfoldable pub esi_given : (held software stamp : List ℕ) (request : ℕ) (text sent : List ℕ) → Bool
esi_given held software stamp request text sent =
    both (is_held held)
    (both (eqb (length software) 16) (both (eqb (length stamp) 15) (both (is_character request) (has_room text sent))))

unfoldable pub esi_built_by : (held software stamp : List ℕ) (request : ℕ) (text sent : List ℕ) → BuiltMessage
esi_built_by held software stamp request text sent =
    pick (esi_given held software stamp request text sent) (esi_building (held_in held) software stamp request) no_message

-- 11: bytes that are no batch's, a number that is no character, room of another length
unfoldable pub var_given : (batch : List ℕ) (request : ℕ) (text sent : List ℕ) → Bool
var_given batch request text sent = both (is_batch batch) (both (is_character request) (has_room text sent))

unfoldable pub var_built_by : (batch : List ℕ) (request : ℕ) (text sent : List ℕ) → BuiltMessage
var_built_by batch request text sent =
    pick (var_given batch request text sent) (var_building (batch_in batch) request) no_message

-- ---- a SUO

-- the key maker is lent as its two numbers, K and V
unfoldable pub maker_in : List ℕ → KeyMaker
maker_in l = record { key = get_or l 0 0; seed = get_or l 1 0 }

abbrev pub maker_to : KeyMaker → List ℕ
maker_to m = m.key ∷ m.seed ∷ []

abbrev pub given_of : (software method stamp : List ℕ) (area : ℕ) → Given
given_of software method stamp area = record { software = software; method = method; stamp = stamp; area = area }

unfoldable pub suo_given : (held maker : List ℕ) → Given → (text batch : List ℕ) → Bool
suo_given held maker g text batch =
    both (is_held held)
    (both (eqb (length maker) 2)
    (both (eqb (length g.software) 16)
    (both (eqb (length g.method) 3)
    (both (eqb (length g.stamp) 15)
    (both (is_character g.area) (both (eqb (length text) 128) (eqb (length batch) batch_size)))))))

unfoldable pub suo_built_by : (held maker : List ℕ) (clock : ℕ) → Given → (text batch : List ℕ) → BuiltSuo
suo_built_by held maker clock g text batch =
    pick (suo_given held maker g text batch) (suo_building (held_in held) (maker_in maker) clock g)
    (record { refusal = 11; batch = no_batch })

-- the room for its 128 characters, the batch's bytes and the maker's numbers after the call
unfoldable pub suo_text_after : (text : List ℕ) → BuiltSuo → List ℕ
suo_text_after text x = pick (eqb x.refusal 0) x.batch.suo text

unfoldable pub batch_after : (batch : List ℕ) → BuiltSuo → List ℕ
batch_after batch x = pick (eqb x.refusal 0) (batch_stored batch x.batch) batch

unfoldable pub maker_later : (held maker : List ℕ) (clock : ℕ) → Given → (text batch : List ℕ) → List ℕ
maker_later held maker clock g text batch =
    pick (suo_given held maker g text batch) (maker_to (maker_after (held_in held) (maker_in maker) clock g)) maker

-- ---- a record is added

unfoldable pub add_refusal : (batch : List ℕ) → ℕ
add_refusal batch = pick (is_batch batch) 0 11

unfoldable pub added_by : (batch characters : List ℕ) → List ℕ
added_by batch r = pick (is_batch batch) (batch_stored batch (record_added (batch_in batch) r)) batch
