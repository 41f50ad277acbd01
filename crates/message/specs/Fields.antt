-- What a message says, field by field (document 01, 'Message fields').
-- Assumes nothing.
use Rattle.std.specs.Prelude.{ℕ, List}
use Rattle.ground.specs.Choice.{pick}
use Rattle.ground.specs.Lists.{part, same}
use Rattle.text.specs.Numbers.{decimal, hex}
use Rattle.text.specs.Letters.{letters}
use Rattle.calendar.specs.Dates.{dated}
use Rattle.calendar.specs.declared.Date.{Date}
use Rattle.digest.specs.declared.Method.{Method}
use Rattle.digest.specs.declared.Method.TheVariants.{Skh, Ske}
use Rattle.message.specs.Layout.{field, subfield, fields, offset_in, field_text}

-- identity and qualifier: 25 characters from field 8.1, and from field 9.1
unfoldable pub receiver_of : List ℕ → List ℕ
receiver_of m = part (offset_in (subfield 8 1) fields) 25 m

unfoldable pub sender_of : List ℕ → List ℕ
sender_of m = part (offset_in (subfield 9 1) fields) 25 m

-- the fifteen digits of fields 12.1 to 12.3 as a number, and as they stand
unfoldable pub stamp_text_of : List ℕ → List ℕ
stamp_text_of m = part (offset_in (subfield 12 1) fields) 15 m

unfoldable pub stamp_of : List ℕ → ℕ
stamp_of m = decimal (stamp_text_of m)

-- the date of that stamp
unfoldable pub date_of_stamp : List ℕ → Date
date_of_stamp m = dated (decimal (field_text (subfield 12 1) m))

unfoldable pub version_of : List ℕ → ℕ
version_of m = decimal (field_text (field 3) m)

unfoldable pub method_of : List ℕ → Method
method_of m = pick (same (field_text (field 7) m) (letters "SKE")) Ske Skh

unfoldable pub transport_generation_of : List ℕ → ℕ
transport_generation_of m = decimal (field_text (field 10) m)

unfoldable pub working_generation_of : List ℕ → ℕ
working_generation_of m = decimal (field_text (field 11) m)

-- the one-time key as it came, enciphered
unfoldable pub once_field_of : List ℕ → ℕ
once_field_of m = hex (field_text (field 15) m)

unfoldable pub digest_field_of : List ℕ → ℕ
digest_field_of m = hex (field_text (field 16) m)

unfoldable pub checksum_field_of : List ℕ → ℕ
checksum_field_of m = hex (field_text (field 17) m)

-- the request for keys
unfoldable pub request_of : List ℕ → ℕ
request_of m = decimal (field_text (field 18) m)
