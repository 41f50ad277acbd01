-- The ranges of a session's numbers (docs/FORMAT.md), and which sessions a call takes (refusal 3).
-- Assumes nothing.
use Rattle.std.specs.Prelude.{ℕ, ◌<◌, ◌^◌, ◌≡◌, Bool, true, false, eqb, leb, length}
use Rattle.ground.specs.Choice.{both, either, fails, between}
use Rattle.digest.specs.Ranges.{RunningFits}
use Rattle.calendar.specs.Dates.{real_time}
use Rattle.message.specs.declared.Extent.{Extent}
use Rattle.message.specs.declared.Extent.TheVariants.{Whole, TooShort, LengthNotDigits, OtherLength, CutShort}
use Rattle.checks.specs.Checks.{key_or0}
use Rattle.whole_file.specs.Messages.{most_length}
use Rattle.session.specs.declared.Place.{Place}
use Rattle.session.specs.declared.Place.TheVariants.{BeforeEsi, Outside, Collecting, InData, Closed}
use Rattle.session.specs.declared.Session.{Session}

-- a message cut short by the file's end: no frame goes on after such a SUO
unfoldable pub is_cut : Extent → Bool
is_cut Whole = false
is_cut TooShort = false
is_cut LengthNotDigits = false
is_cut OtherLength = false
is_cut CutShort = true

-- the time is real, the data type is 1 to 16, at most as many characters are counted as the longest message has, the SUO was not cut
-- short; the day is the table's, and every other number may be any that its type holds
unfoldable pub in_range : Session → Bool
in_range s =
    both (real_time s.opening.time)
    (both (between 1 16 s.opening.kind) (both (leb s.gathered.count most_length) (fails (is_cut s.batch.suo.extent))))

unfoldable pub is_closed : Place → Bool
is_closed BeforeEsi = false
is_closed Outside = false
is_closed (Collecting kind) = false
is_closed InData = false
is_closed Closed = true

-- session not open, closed or finished; its day isn't the table's; or a number in it lies outside its range
unfoldable pub end_refused : Session → ℕ → Bool
end_refused s day =
    either (fails s.opened)
    (either (is_closed s.place) (either (fails (eqb s.opening.today.yymmdd day)) (fails (in_range s))))

-- or a read after an end
unfoldable pub read_refused : Session → ℕ → Bool
read_refused s day = either s.ended (end_refused s day)

-- what holds of every value of the type, as its arrays and words have their lengths
pub record Fits (s : Session) : Type 0 where
  pub message_long : length s.gathered.text ≡ 161
  pub suo_long_fact : length s.batch.suo.text ≡ 161
  pub sender_long : length s.sender ≡ 25
  pub key_fits : key_or0 s.batch.once < 2 ^ 64

-- what holds of every session that bytes say and that a call hands back: it fits its type, and each number the bytes that it is written in
pub record Encodes (s : Session) : Type 0 where
  pub fits : Fits s
  pub day_fits : s.opening.today.yymmdd < 2 ^ 32
  pub time_fits : s.opening.time < 2 ^ 32
  pub kind_fits : s.opening.kind < 2 ^ 32
  pub clock_fits : s.opening.clock < 2 ^ 64
  pub made_fits : s.made < 2 ^ 64
  pub size_fits : s.line.size < 2 ^ 32
  pub count_fits : s.gathered.count < 2 ^ 32
  pub running_fits : RunningFits s.batch.running
