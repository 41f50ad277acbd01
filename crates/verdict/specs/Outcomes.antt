-- What a verdict answers and leaves: with E nothing changes; with K the stamp is marked used, and keys go as the request says.
-- Assumes nothing.
use Rattle.std.specs.Prelude.{ℕ, ◌+◌, ◌%◌, ◌^◌, Bool, true, false, List, None, Option, Some, Err, Ok, Result}
use Rattle.keys.specs.Maker.{clock_value}
use Rattle.customer.specs.declared.Customer.{Customer}
use Rattle.acceptance.specs.Stamps.{with_stamp}
use Rattle.acceptance.specs.Grants.{granted_by}
use Rattle.acceptance.specs.declared.Granted.{Granted}
use Rattle.table.specs.Table.{Table, place_of, with_seed}
use Rattle.table.specs.Named.{named, with_named}
use Rattle.table.specs.Decode.{table_of}
use Rattle.table.specs.Stored.{customer_stored, seed_stored}
use Rattle.message.specs.Layout.{no_field}
use Rattle.message.specs.Fields.{sender_of, stamp_of, working_generation_of, request_of}
use Rattle.message.specs.declared.Fault.{Fault}
use Rattle.message.specs.Order.{first_failing}
use Rattle.message.specs.declared.About.TheVariants.{Answered}
use Rattle.checks.specs.Checks.{esi_checks, frame_checks, key_or0}
use Rattle.message.specs.declared.Collected.{Collected}
use Rattle.checks.specs.declared.Frame.{Frame}
use Rattle.checks.specs.declared.Occasion.{Occasion}
use Rattle.verdict.specs.declared.Outcome.{Outcome}

-- ---- acceptance

-- what is granted to the sender of a message: `m` names sender, stamp and generations, `closing` the request (they differ in a frame)
unfoldable pub grant_to : Table → Occasion → (m closing : List ℕ) → Granted
grant_to t o m closing =
    granted_by (named t (sender_of m)) t.settings.maker (clock_value o.clock o.made) o.today
    (working_generation_of m)
    (request_of closing)

-- the record afterwards: the stamp is marked used, with the one-time key of a batch
unfoldable pub record_after : Table → Occasion → (m closing : List ℕ) (once : ℕ) → Customer
record_after t o m closing once =
    with_stamp t.holidays o.today (grant_to t o m closing).customer (stamp_of m) once

-- the table afterwards: that record, and the key maker moved on
unfoldable pub table_after : Table → Occasion → (m closing : List ℕ) (once : ℕ) → Table
table_after t o m closing once =
    with_seed (with_named t (sender_of m) (record_after t o m closing once)) (grant_to t o m closing).seed

-- ---- the answer; the count of keys is carried round as the clock value is

unfoldable pub outcome_of : Result Unit Fault → Granted → (made : ℕ) → Outcome
outcome_of (Ok _) g made =
    record { code = g.code; field = no_field; about = Answered; enclosed = g.enclosed; made = (made + g.made) % 2 ^ 64 }
outcome_of (Err fault) g made =
    record { code = fault.code; field = fault.field; about = fault.about; enclosed = None; made = made }

-- no check failed
unfoldable pub is_sound : Result Unit Fault → Bool
is_sound (Ok _) = true
is_sound (Err fault) = false

-- with E the table stays as it was
unfoldable pub table_by : Result Unit Fault → (before after : Table) → Table
table_by (Ok _) before after = after
table_by (Err fault) before after = before

-- an ESI
unfoldable pub esi_outcome : Table → Occasion → Collected → Outcome
esi_outcome t o m =
    outcome_of (first_failing (esi_checks t o.today m)) (grant_to t o m.text m.text) o.made

unfoldable pub esi_table : Table → Occasion → Collected → Table
esi_table t o m =
    table_by (first_failing (esi_checks t o.today m)) t (table_after t o m.text m.text 0)

-- a frame
unfoldable pub frame_outcome : Table → Occasion → Frame → Outcome
frame_outcome t o f =
    outcome_of (first_failing (frame_checks t o.today o.kind f)) (grant_to t o f.suo.text f.var.text) o.made

unfoldable pub frame_table : Table → Occasion → Frame → Table
frame_table t o f =
    table_by (first_failing (frame_checks t o.today o.kind f)) t
    (table_after t o f.suo.text f.var.text (key_or0 f.once))

-- ---- the same over lent bytes, for any bytes: on a table, what the laws of proofs/ say

unfoldable pub stored_at : List ℕ → Option ℕ → Customer → List ℕ
stored_at b (Some i) c = customer_stored b i c
stored_at b None c = b

unfoldable pub bytes_after : (b : List ℕ) → Occasion → (m closing : List ℕ) (once : ℕ) → List ℕ
bytes_after b o m closing once =
    seed_stored (stored_at b (place_of (table_of b) (sender_of m)) (record_after (table_of b) o m closing once))
    (grant_to (table_of b) o m closing).seed

unfoldable pub bytes_by : Result Unit Fault → (before after : List ℕ) → List ℕ
bytes_by (Ok _) before after = after
bytes_by (Err fault) before after = before

unfoldable pub esi_leaves : List ℕ → Occasion → Collected → List ℕ
esi_leaves b o m =
    bytes_by (first_failing (esi_checks (table_of b) o.today m)) b (bytes_after b o m.text m.text 0)

unfoldable pub frame_leaves : List ℕ → Occasion → Frame → List ℕ
frame_leaves b o f =
    bytes_by (first_failing (frame_checks (table_of b) o.today o.kind f)) b
    (bytes_after b o f.suo.text f.var.text (key_or0 f.once))
