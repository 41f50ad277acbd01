-- Demand 2: on a table set up once and kept by our calls alone, no stamp carried by an accepted message of a customer is ever accepted from
-- that customer again. It speaks of the replies' bytes, so that a reader need not look inside.
-- Assumes nothing.
use Rattle.std.specs.Prelude.{ℕ, Bool, true, false, List, [], ◌∷◌, eqb}
use Rattle.ground.specs.Choice.{both, either, fails}
use Rattle.ground.specs.Lists.{same}
use Rattle.text.specs.Letters.{letters}
use Rattle.message.specs.Layout.{field, field_text}
use Rattle.message.specs.Fields.{receiver_of, stamp_text_of}
use Rattle.calls.specs.Calls.{Call, setting_up, adding, entering, ordering, opening, reading, ending, Typed, refusal_of, left_by}

-- a reply with K
unfoldable pub is_k : List ℕ → Bool
is_k r = same (field_text (field 4) r) (letters "K")

-- two replies agree in fields 8 (all 25 characters) and 12
unfoldable pub agree : List ℕ → List ℕ → Bool
agree r q = both (same (receiver_of r) (receiver_of q)) (same (stamp_text_of r) (stamp_text_of q))

-- no reply of the list has K and agrees with r
unfoldable pub none_like : List ℕ → List (List ℕ) → Bool
none_like r [] = true
none_like r (q ∷ l) = both (fails (both (is_k q) (agree r q))) (none_like r l)

-- no two replies with K agree
unfoldable pub all_different : List (List ℕ) → Bool
all_different [] = true
all_different (r ∷ l) = both (either (fails (is_k r)) (none_like r l)) (all_different l)

unfoldable pub is_setting_up : Call → Bool
is_setting_up (setting_up s holidays) = true
is_setting_up (adding a) = false
is_setting_up (entering e) = false
is_setting_up (ordering o) = false
is_setting_up (opening o) = false
is_setting_up (reading s input room) = false
is_setting_up (ending s room) = false

-- a read or an end
unfoldable pub is_hearing : Call → Bool
is_hearing (setting_up s holidays) = false
is_hearing (adding a) = false
is_hearing (entering e) = false
is_hearing (ordering o) = false
is_hearing (opening o) = false
is_hearing (reading s input room) = true
is_hearing (ending s room) = true

-- the codes of the bare replies that the reading rules give without judging a message
abbrev pub reading_codes : List ℕ
reading_codes = 1010 ∷ 1011 ∷ 1023 ∷ 1024 ∷ 1032 ∷ 1034 ∷ []

-- no set-up of the sequence is served
unfoldable pub no_set_up : List ℕ → List Call → Bool
no_set_up b [] = true
no_set_up b (c ∷ cs) = both (either (fails (is_setting_up c)) (fails (eqb (refusal_of b c) 0))) (no_set_up (left_by b c) cs)

-- each call's arguments are values of their types
pub data AllTyped : List Call → Type 0 where
  none : AllTyped []
  more : {c : Call} {cs : List Call} → Typed c → AllTyped cs → AllTyped (c ∷ cs)
