-- A session is its fields, and fields that fit their bytes are those of a session that does.
-- Assumes nothing.
use Rattle.std.specs.Prelude.{None, Option, Some}
use mathlib.Core.Path.{◌≡◌, refl}
use mathlib.Core.Bool.{true}
use mathlib.Core.Option.{none, some}
use Prim.Native.Nat.{ℕ, zero, suc, ◌≤◌, ◌<◌, ◌^◌}
use native.Mathlib.Omega.{arith}
use Rattle.ground.specs.Choice.{both}
use Rattle.codec.specs.Layout.{perhaps, Value, scalar, Fits}
use Rattle.digest.specs.Ranges.{StateFits}
use Rattle.digest.specs.declared.State.{State}
use Rattle.message.specs.declared.Extent.TheVariants.{CutShort}
use Rattle.checks.specs.Checks.{key_or0}
use Rattle.session.specs.Ranges.{Encodes}
use Rattle.session.specs.declared.Place.TheVariants.{Closed}
use Rattle.session.specs.declared.Session.{Session}
use Rattle.session_bytes.specs.Names.{place_numbered, extent_numbered}
use Rattle.session_bytes.specs.Session.{head_shape, line_shape, once_shape, state_shape, running_shape, session_shape}
use Rattle.session_bytes.specs.Session.{key_from, session_from, key_to, state_to, session_to, state_from}

-- ---- the parts that are written as rows

pub head_scalar : scalar head_shape ≡ true
unfolding both
head_scalar = refl

pub line_scalar : scalar line_shape ≡ true
unfolding both
line_scalar = refl

pub running_scalar : scalar running_shape ≡ true
unfolding both
running_scalar = refl

-- ---- names: a number that is none of the others is the last one's

pub place_rest : (x : ℕ) → 6 ≤ x → place_numbered x ≡ Closed
unfolding place_numbered
place_rest zero h = absurd (omega arith)
place_rest (suc zero) h = absurd (omega arith)
place_rest (suc (suc zero)) h = absurd (omega arith)
place_rest (suc (suc (suc zero))) h = absurd (omega arith)
place_rest (suc (suc (suc (suc zero)))) h = absurd (omega arith)
place_rest (suc (suc (suc (suc (suc zero))))) h = absurd (omega arith)
place_rest (suc (suc (suc (suc (suc (suc x)))))) h = refl

pub extent_rest : (x : ℕ) → 4 ≤ x → extent_numbered x ≡ CutShort
unfolding extent_numbered
extent_rest zero h = absurd (omega arith)
extent_rest (suc zero) h = absurd (omega arith)
extent_rest (suc (suc zero)) h = absurd (omega arith)
extent_rest (suc (suc (suc zero))) h = absurd (omega arith)
extent_rest (suc (suc (suc (suc x)))) h = refl

-- ---- a session is its fields

key_there : (k : Option ℕ) → key_from (key_to k) ≡ k
key_there None = refl
key_there (Some key) = refl

key_back : (v : Value (perhaps once_shape)) → key_to (key_from v) ≡ v
key_back none = refl
key_back (some key) = refl

pub session_there : (s : Session) → session_from (session_to s) ≡ s
session_there s =
    let e = key_there s.batch.once in
    λ i. record {
      opened = s.opened;
      ended = s.ended;
      told = s.told;
      opening = s.opening;
      made = s.made;
      sender = s.sender;
      line = s.line;
      place = s.place;
      gathered = s.gathered;
      batch = record { suo = s.batch.suo; once = e i; running = s.batch.running };
    }

pub fields_back : (v : Value session_shape) → session_to (session_from v) ≡ v
fields_back (front, (gathered, (suo, (once, running)))) =
    let e = key_back once in
    λ i. (front, (gathered, (suo, (e i, running))))

-- ---- that fit

key_fits : (k : Option ℕ) → key_or0 k < 2 ^ 64 → Fits (perhaps once_shape) (key_to k)
unfolding key_or0
key_fits None h = tt
key_fits (Some key) h = omega (arith, h)

fits_key : (v : Value (perhaps once_shape)) → Fits (perhaps once_shape) v → key_or0 (key_from v) < 2 ^ 64
unfolding key_or0
fits_key none h = omega arith
fits_key (some key) h = omega (arith, h)

word : (n : ℕ) → n < 2 ^ 32 → n < 256 ^ 4
word n h = omega (arith, h)

long : (n : ℕ) → n < 2 ^ 64 → n < 256 ^ 8
long n h = omega (arith, h)

word_back : (n : ℕ) → n < 256 ^ 4 → n < 2 ^ 32
word_back n h = omega (arith, h)

long_back : (n : ℕ) → n < 256 ^ 8 → n < 2 ^ 64
long_back n h = omega (arith, h)

state_fits : (s : State) → StateFits s → Fits state_shape (state_to s)
state_fits s h = (long _ h.chain_fits, (long _ h.block_fits, long _ h.count_fits))

fits_state : (v : Value state_shape) → Fits state_shape v → StateFits (state_from v)
fits_state v h = record { chain_fits = long_back _ h.0; block_fits = long_back _ h.1.0; count_fits = long_back _ h.1.1 }

pub session_fits : (s : Session) → Encodes s → Fits session_shape (session_to s)
session_fits s h =
    let day = word _ h.day_fits in
    let time = word _ h.time_fits in
    let kind = word _ h.kind_fits in
    let clock = long _ h.clock_fits in
    let made = long _ h.made_fits in
    let once = key_fits s.batch.once h.fits.key_fits in
    let start = state_fits s.batch.running.start h.running_fits.start_fits in
    let solid = state_fits s.batch.running.solid h.running_fits.solid_fits in
    let last = state_fits s.batch.running.last h.running_fits.last_fits in (
      ((tt, (tt, (tt, (tt, (day, (time, (kind, (clock, made)))))))), (h.fits.sender_long, (word _ h.size_fits, tt))),
      (
        (word _ h.count_fits, (tt, h.fits.message_long)),
        ((tt, (tt, h.fits.suo_long_fact)), (once, (start, (solid, last)))),
      ),
    )

pub fits_session : (v : Value session_shape) → Fits session_shape v → Encodes (session_from v)
fits_session (((o, (e, (t, (p, numbers)))), (sender, line)), (gathered, (suo, (once, (start, (solid, last)))))) h =
    let n = h.0.0.1.1.1.1 in
    let r = h.1.1.1 in
    record {
      fits =
          record {
            message_long = h.1.0.1.1;
            suo_long_fact = h.1.1.0.1.1;
            sender_long = h.0.1.0;
            key_fits = fits_key once r.0;
          };
      day_fits = word_back _ n.0;
      time_fits = word_back _ n.1.0;
      kind_fits = word_back _ n.1.1.0;
      clock_fits = long_back _ n.1.1.1.0;
      made_fits = long_back _ n.1.1.1.1;
      size_fits = word_back _ h.0.1.1.0;
      count_fits = word_back _ h.1.0.0;
      running_fits =
          record {
            start_fits = fits_state start r.1.0;
            solid_fits = fits_state solid r.1.1.0;
            last_fits = fits_state last r.1.1.1;
          };
    }
