-- A session that was just opened fits its type, and encodes where its opening's numbers do;
-- so does one that is not open: all else in them is zero.
-- Assumes nothing.
use Rattle.std.specs.Prelude.{None}
use Prim.Native.Nat.{ℕ, ◌<◌, ◌^◌}
use mathlib.Core.Path.{◌≡◌, refl, ap, ◌∙◌, subst, sym}
use mathlib.Core.Bool.{false}
use native.Mathlib.Omega.{arith}
use lib.ListN.{length, replicate, length-replicate}
use Rattle.digest.specs.Running.{begun, alike}
use Rattle.digest.specs.Ranges.{RunningFits}
use Rattle.digest.proofs.Ranges.{begun_fits, alike_fits}
use Rattle.message.specs.declared.Extent.TheVariants.{Whole}
use Rattle.checks.specs.Checks.{key_or0}
use Rattle.opening.specs.declared.Opening.{Opening}
use Rattle.whole_file.specs.Messages.{text_room}
use Rattle.session.specs.Events.{nothing}
use Rattle.session.specs.Machine.{opened, unopened}
use Rattle.session.specs.Ranges.{Fits, Encodes}
use Rattle.session.specs.declared.Gathered.{Gathered}
use Rattle.session.specs.declared.Batch.{Batch}
use Rattle.session.specs.declared.Session.{Session}

-- ---- a session with nothing in it but its opening

abbrev empty_batch : Batch
empty_batch = record { suo = record { extent = Whole; blank = false; text = replicate text_room 0 }; once = None; running = alike begun }

record Empty (s : Session) : Type 0 where
  no_keys : s.made ≡ 0
  no_sender : s.sender ≡ replicate 25 0
  no_bytes : s.line.size ≡ 0
  no_characters : s.gathered ≡ nothing
  no_frame : s.batch ≡ empty_batch

empty_fits : {s : Session} → Empty s → Fits s
unfolding nothing key_or0
empty_fits e =
    record {
      message_long = ap (λ (g : Gathered). length g.text) e.no_characters ∙ length-replicate {A = ℕ} 161 0;
      suo_long_fact = ap (λ (b : Batch). length b.suo.text) e.no_frame ∙ length-replicate {A = ℕ} 161 0;
      sender_long = ap length e.no_sender ∙ length-replicate {A = ℕ} 25 0;
      key_fits = omega (arith, ap (λ (b : Batch). key_or0 b.once) e.no_frame);
    }

-- the opening's numbers are values of their types
pub record OpeningFits (o : Opening) : Type 0 where
  pub day_fits : o.today.yymmdd < 2 ^ 32
  pub time_fits : o.time < 2 ^ 32
  pub kind_fits : o.kind < 2 ^ 32
  pub clock_fits : o.clock < 2 ^ 64

empty_encodes : {s : Session} → Empty s → OpeningFits s.opening → Encodes s
unfolding nothing
empty_encodes e f =
    record {
      fits = empty_fits e;
      day_fits = f.day_fits;
      time_fits = f.time_fits;
      kind_fits = f.kind_fits;
      clock_fits = f.clock_fits;
      made_fits = omega (arith, e.no_keys);
      size_fits = omega (arith, e.no_bytes);
      count_fits = omega (arith, ap (λ (g : Gathered). g.count) e.no_characters);
      running_fits = subst (λ (b : Batch). RunningFits b.running) (sym e.no_frame) (alike_fits begun_fits);
    }

-- ---- an opened file, and none

opened_empty : (o : Opening) → Empty (opened o)
unfolding opened
opened_empty o = record { no_keys = refl; no_sender = refl; no_bytes = refl; no_characters = refl; no_frame = refl }

pub opened_fits : (o : Opening) → Fits (opened o)
opened_fits o = empty_fits (opened_empty o)

pub opened_encodes : (o : Opening) → OpeningFits o → Encodes (opened o)
unfolding opened
opened_encodes o f = empty_encodes (opened_empty o) f

pub unopened_encodes : Encodes unopened
unfolding unopened
unopened_encodes =
    empty_encodes (record { no_keys = refl; no_sender = refl; no_bytes = refl; no_characters = refl; no_frame = refl })
    (record { day_fits = omega arith; time_fits = omega arith; kind_fits = omega arith; clock_fits = omega arith })
