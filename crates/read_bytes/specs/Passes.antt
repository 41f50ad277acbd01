-- Whole data records that a scan may pass at once, and what it then stands at.
-- Assumes nothing.
use Rattle.std.specs.Prelude.{ℕ, ◌+◌, ◌-◌, ◌<◌, ◌≤◌, ◌≡◌, ◌⊎◌, true, false, List, length, get_or, take, drop}
use Rattle.ground.specs.Lists.{all}
use Rattle.digest.specs.Running.{took_bytes, ended}
use Rattle.digest.specs.declared.Method.{Method}
use Rattle.digest.specs.declared.Running.{Running}
use Rattle.checks.specs.Checks.{key_or0}
use Rattle.whole_file.specs.Records.{lf, cr, size_limit}
use Rattle.session.specs.Machine.{Scan, scanned}
use Rattle.session.specs.Events.{onward, nothing}
use Rattle.session.specs.declared.Place.TheVariants.{InData}
use Rattle.session.specs.declared.Session.{Session}
use Rattle.law_cutting.specs.Plain.{plain}

-- a record's characters end at the one place, and its LF stands at the other: there, or behind a CR
abbrev pub LineEnd : List ℕ → ℕ → ℕ → Type 0
LineEnd input end to = (to ≡ end) ⊎ ((to ≡ end + 1) × (get_or input end 0 ≡ cr))

-- the record from `at` has its LF at `to`, within the size limit; it has characters, and the first is not the one that a message begins with
pub record Whole (input : List ℕ) (at size end to : ℕ) : Type 0 where
  pub some : at < end
  pub line_end : LineEnd input end to
  pub within : to < length input
  pub characters : all plain (take (end - at) (drop at input)) ≡ true
  pub ends : get_or input to 0 ≡ lf
  pub fits : size + (to - at) < size_limit
  pub no_message : get_or input at 0 ≡ 0x3E → ⊥

-- whole data records one after the other, with the digest and the size after them
pub data Passes (e : ℕ → ℕ) (m : Method) (input : List ℕ) (from : ℕ) (r₀ : Running) (size₀ : ℕ) : ℕ → Running → ℕ → Type 0 where
  none : Passes e m input from r₀ size₀ from r₀ size₀
  more : {at : ℕ} {r : Running} {size : ℕ} → Passes e m input from r₀ size₀ at r size → (end to : ℕ) → Whole input at size end to
      → {x : Running} {n : ℕ} → x ≡ ended m (took_bytes e r (take (end - at) (drop at input))) → n ≡ size + (to - at) + 1
      → Passes e m input from r₀ size₀ (to + 1) x n

-- the session after data records, with the digest and the size
abbrev pub passed_to : Session → Running → ℕ → Session
passed_to s r n =
    onward s s.ended s.told s.made s.sender (record { size = n; cr = false }) InData nothing
    (record { suo = s.batch.suo; once = s.batch.once; running = r })

-- the scan of what is left from a place
abbrev pub left_at : List ℕ → ℕ → Session → List ℕ → Scan
left_at input i s w = record { turn = (scanned s w (drop i input)).turn; taken = (scanned s w (drop i input)).taken + i }

-- from one place on the scan of what is left is that from the other, whatever the table is; the one-time key stays
pub record Skims (input : List ℕ) (from : ℕ) (s : Session) (to : ℕ) (u : Session) : Type 0 where
  pub ahead : from < to
  pub within : to ≤ length input
  pub same_key : key_or0 s.batch.once ≡ key_or0 u.batch.once
  pub same : (w : List ℕ) → left_at input to u w ≡ left_at input from s w
