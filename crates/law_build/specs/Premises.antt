-- Under which premises what is built is accepted, each in document 02's words (R-6).
-- Assumes nothing.
use Rattle.std.specs.Prelude.{ℕ, ◌≡◌, true, false, List, leb, length, take}
use Rattle.ground.specs.Lists.{member}
use Rattle.text.specs.Numbers.{decimal}
use Rattle.calendar.specs.Dates.{dated, is_before}
use Rattle.calendar.specs.Banking.{too_old}
use Rattle.calendar.specs.declared.Date.{Date}
use Rattle.digest.specs.Kept.{is_empty, kept}
use Rattle.digest.specs.declared.Method.{Method}
use Rattle.customer.specs.declared.Customer.{Customer}
use Rattle.acceptance.specs.Stamps.{holds_stamp, live_stamps, once_used}
use Rattle.table.specs.Table.{Table, place_of, is_unknown}
use Rattle.table.specs.Named.{named}
use Rattle.checks.specs.Checks.{type_allowed}
use Rattle.whole_file.specs.Records.{lf, cr, without_cr}
use Rattle.whole_file.specs.Messages.{begins}
use Rattle.desk.specs.declared.Held.{Held}

-- the customer whose desk it is, in the bank's table
abbrev pub customer_of : Table → Held → Customer
customer_of t h = named t h.own

-- the date of a stamp
abbrev pub date_in : (stamp : List ℕ) → Date
date_in stamp = dated (decimal (take 6 stamp))

-- the same current keys on both sides
pub record SameCurrentKeys (t : Table) (h : Held) : Type 0 where
  pub transport_generation : (customer_of t h).transport.generation ≡ h.transport.generation
  pub transport_key : (customer_of t h).transport.key ≡ h.transport.key
  pub working_generation : (customer_of t h).working.generation ≡ h.working.generation
  pub working_key : (customer_of t h).working.key ≡ h.working.key

-- an agreed customer, with a fresh stamp not too old and not ahead, room for a stamp, this bank as receiver, the same current keys on both
-- sides
pub record MaySend (t : Table) (today : Date) (h : Held) (stamp : List ℕ) : Type 0 where
  pub known : is_unknown (place_of t h.own) ≡ false
  pub agreed : (customer_of t h).agreed ≡ true
  pub fresh : holds_stamp (customer_of t h) (decimal stamp) ≡ false
  pub not_too_old : too_old t.holidays (date_in stamp) today ≡ false
  pub not_ahead : is_before today (date_in stamp) ≡ false
  pub room : leb 64 (length (live_stamps t.holidays today (customer_of t h))) ≡ false
  pub this_bank : h.bank ≡ t.settings.bank
  pub same_keys : SameCurrentKeys t h

-- for a batch: an allowed data type, a one-time key not used in the window
pub record MaySendBatch (t : Table) (today : Date) (data_type : ℕ) (h : Held) (stamp : List ℕ) (once : ℕ) : Type 0 where
  pub message : MaySend t today h stamp
  pub allowed : type_allowed (customer_of t h).types data_type ≡ true
  pub not_used : once_used t.holidays today (customer_of t h) once ≡ false

-- a record without LF or a closing CR that doesn't begin like a security message
pub record IsData (chars : List ℕ) : Type 0 where
  pub no_lf : member lf chars ≡ false
  pub no_closing_cr : without_cr chars ≡ chars
  pub no_esi : begins ">>ESI" chars ≡ false
  pub no_suo : begins ">>SUO" chars ≡ false
  pub no_var : begins ">>VAR" chars ≡ false

-- at least one character left after stripping
abbrev pub LeavesSomething : Method → (records : List (List ℕ)) → Type 0
LeavesSomething m records = is_empty (kept m records) ≡ false
