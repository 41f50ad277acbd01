-- What was sent, by the characters of its messages: an ESI twice, or a SUO and its VAR (document 02, R-5; document 001, 4.4.4).
-- Assumes nothing.
use Rattle.std.specs.Prelude.{ℕ, List, get_or}
use Rattle.message.specs.Layout.{field, fields, field_text, offset_in}
use Rattle.message.specs.Fields.{receiver_of, sender_of, stamp_text_of}
use Rattle.desk.specs.declared.Sent.{Sent}

-- the one character of a field
abbrev pub mark_of : (number : ℕ) → List ℕ → ℕ
mark_of n m = get_or m (offset_in n fields) 0

-- parties, stamp, field 13 and one-time key of the first message, generations and digest of the closing one
unfoldable pub sent_by : (first closing : List ℕ) → Sent
sent_by m closing =
    record {
      receiver = receiver_of m;
      sender = sender_of m;
      transport = mark_of (field 10) closing;
      working = mark_of (field 11) closing;
      stamp = stamp_text_of m;
      area = mark_of (field 13) m;
      once = field_text (field 15) m;
      digest = field_text (field 16) closing;
    }
