-- What stays in a session whatever is done to it: each part is made anew within its range, or is the one before.
-- Assumes nothing.
use Rattle.std.specs.Prelude.{None, Option, Some, Err, Ok, Result}
use Prim.Native.Nat.{ℕ, ◌<◌, ◌≤◌, ◌^◌}
use mathlib.Core.Path.{◌≡◌, refl, ap, ◌∙◌}
use mathlib.Core.List.{List, [], ◌∷◌}
use mathlib.Core.Bool.{Bool, false}
use native.Mathlib.Omega.{arith}
use borrow.Author.Tests.{ltb-true, leb-false}
use lib.Dec.{ltb, leb}
use lib.ListN.{length, length-set, length-replicate}
use Rattle.ground.specs.Choice.{pick}
use Rattle.ground.proofs.Bools.{picked}
use Rattle.ground.proofs.Parts.{part_length}
use Rattle.des.proofs.Inverse.{enciphered-lt, deciphered-lt}
use Rattle.digest.specs.Ranges.{RunningFits}
use Rattle.digest.proofs.Ranges.{took_fits}
use Rattle.acceptance.specs.declared.Granted.{Granted}
use Rattle.table.specs.Table.{Table, place_of}
use Rattle.message.specs.Layout.{offset_in}
use Rattle.message.specs.Fields.{sender_of, once_field_of}
use Rattle.message.specs.declared.Kind.{Kind}
use Rattle.message.specs.declared.Extent.{Extent}
use Rattle.message.specs.declared.Fault.{Fault}
use Rattle.checks.specs.Checks.{key_or0}
use Rattle.message.specs.declared.Collected.{Collected}
use Rattle.checks.specs.declared.Frame.{Frame}
use Rattle.checks.specs.declared.Occasion.{Occasion}
use Rattle.verdict.specs.Outcomes.{outcome_of, esi_outcome, frame_outcome}
use Rattle.whole_file.specs.Messages.{extent_of, one_time, transport_held, one_time_of, once_of}
use Rattle.whole_file.specs.Records.{size_limit}
use Rattle.session.specs.Lines.{line_after, line_ended}
use Rattle.session.specs.Events.{is_data, batch_with, gathered_with, gathered_all, cipher_of, heard_by, heard, nothing, placed, with_batch, judged, shut}
use Rattle.session.specs.Machine.{with_line}
use Rattle.session.specs.Ranges.{is_cut, Fits}
use Rattle.session.specs.declared.Line.{Line}
use Rattle.session.specs.declared.Place.{Place}
use Rattle.session.specs.declared.Place.TheVariants.{Closed}
use Rattle.session.specs.declared.Gathered.{Gathered}
use Rattle.session.specs.declared.Batch.{Batch}
use Rattle.session.specs.declared.Session.{Session}
use Rattle.law_cutting.proofs.Plain.{batch_suo, batch_once}

-- the line l may come after k: it counts no byte less, and its count still fits four bytes
pub record Later (k l : Line) : Type 0 where
  pub rises : k.size ≤ l.size
  pub counts : k.size < 2 ^ 32 → l.size < 2 ^ 32

-- u comes after s
pub record Stays (s u : Session) : Type 0 where
  pub opening_stays : u.opening ≡ s.opening
  pub opened_stays : u.opened ≡ s.opened
  pub ended_stays : u.ended ≡ s.ended
  pub count_stays : s.gathered.count ≤ 500 → u.gathered.count ≤ 500
  pub uncut_stays : is_cut s.batch.suo.extent ≡ false → is_cut u.batch.suo.extent ≡ false
  pub fits_stays : Fits s → Fits u
  pub line_later : Later s.line u.line
  pub made_stays : s.made < 2 ^ 64 → u.made < 2 ^ 64
  pub running_stays : RunningFits s.batch.running → RunningFits u.batch.running

pub later_same : (l : Line) → Later l l
later_same l = record { rises = omega arith; counts = λ h. h }

pub stays_same : (s : Session) → Stays s s
stays_same s =
    record {
      opening_stays = refl;
      opened_stays = refl;
      ended_stays = refl;
      count_stays = λ h. h;
      uncut_stays = λ h. h;
      fits_stays = λ f. f;
      line_later = later_same s.line;
      made_stays = λ h. h;
      running_stays = λ f. f;
    }

pub stays_then : {s u v : Session} → Stays s u → Stays u v → Stays s v
stays_then a b =
    record {
      opening_stays = b.opening_stays ∙ a.opening_stays;
      opened_stays = b.opened_stays ∙ a.opened_stays;
      ended_stays = b.ended_stays ∙ a.ended_stays;
      count_stays = λ h. b.count_stays (a.count_stays h);
      uncut_stays = λ h. b.uncut_stays (a.uncut_stays h);
      fits_stays = λ f. b.fits_stays (a.fits_stays f);
      line_later =
          record {
            rises = omega (arith, a.line_later.rises, b.line_later.rises);
            counts = λ h. b.line_later.counts (a.line_later.counts h);
          };
      made_stays = λ h. b.made_stays (a.made_stays h);
      running_stays = λ f. b.running_stays (a.running_stays f);
    }

-- ---- the parts

-- at most 500 characters are counted, and what is kept has the same room
gathered_with_lem : (g : Gathered) (c : ℕ) → (g.count ≤ 500 → (gathered_with g c).count ≤ 500)
    × (length (gathered_with g c).text ≡ length g.text)
unfolding gathered_with
gathered_with_lem g c =
    picked (λ (x : Gathered). (g.count ≤ 500 → x.count ≤ 500) × (length x.text ≡ length g.text)) (ltb g.count 161) _ _
    (λ e. (λ h. omega (arith, ltb-true g.count 161 e), length-set g.text g.count c))
    (λ e. (λ h. omega arith, refl))

gathered_all_lem : (g : Gathered) (l : List ℕ) → (g.count ≤ 500 → (gathered_all g l).count ≤ 500)
    × (length (gathered_all g l).text ≡ length g.text)
unfolding gathered_all
gathered_all_lem g [] = (λ h. h, refl)
gathered_all_lem g (c ∷ l) =
    let a = gathered_with_lem g c in
    let b = gathered_all_lem (gathered_with g c) l in
    (λ h. b.0 (a.0 h), b.1 ∙ a.1)

pub nothing_kept : (nothing.count ≤ 500) × (length nothing.text ≡ 161)
unfolding nothing
nothing_kept = (omega arith, length-replicate {A = ℕ} 161 0)

-- the first record never tells that a message is cut short
abbrev Uncut : Extent → Type 0
Uncut x = is_cut x ≡ false

pub extent_uncut : (kind : Kind) (chars : List ℕ) → Uncut (extent_of kind chars)
unfolding extent_of is_cut
extent_uncut kind chars =
    picked Uncut _ _ _ (λ e. refl) (λ e. picked Uncut _ _ _ (λ e. refl) (λ e. picked Uncut _ _ _ (λ e. refl) (λ e. refl)))

-- a deciphered key is eight bytes
deciphered_fits : (k : Option ℕ) (m : List ℕ) → key_or0 (one_time k m) < 2 ^ 64
unfolding one_time key_or0
deciphered_fits None m = omega arith
deciphered_fits (Some k) m = deciphered-lt k (once_field_of m)

pub once_fits : (t : Table) (m : Collected) → key_or0 (once_of t m) < 2 ^ 64
unfolding once_of one_time_of key_or0
once_fits t m =
    picked (λ (k : Option ℕ). key_or0 k < 2 ^ 64) _ _ _ (λ e. deciphered_fits (transport_held t (place_of t (sender_of m.text)) m.text)
    m.text) (λ e. omega arith)

-- identity and qualifier are 25 characters
pub sender_length : (m : List ℕ) → length m ≡ 161 → length (sender_of m) ≡ 25
unfolding sender_of offset_in pick
sender_length m l = part_length m 60 25 (omega arith)

-- the count of keys made is carried round
outcome_made : (f : Result Unit Fault) (g : Granted) (made : ℕ) → made < 2 ^ 64 → (outcome_of f g made).made < 2 ^ 64
unfolding outcome_of
outcome_made (Ok _) g made h = omega arith
outcome_made (Err fault) g made h = h

pub esi_made : (t : Table) (o : Occasion) (m : Collected) → o.made < 2 ^ 64 → (esi_outcome t o m).made < 2 ^ 64
unfolding esi_outcome
esi_made t o m = outcome_made _ _ o.made

pub frame_made : (t : Table) (o : Occasion) (f : Frame) → o.made < 2 ^ 64 → (frame_outcome t o f).made < 2 ^ 64
unfolding frame_outcome
frame_made t o f = outcome_made _ _ o.made

-- ---- what is done to a session

-- a byte within the size limit is counted, one past it is not
pub byte_later : (l : Line) (b : ℕ) → Later l (line_after l b)
unfolding line_after
byte_later l b =
    picked (Later l) (leb size_limit l.size) _ _ (λ e. later_same l)
    (λ e. record { rises = omega arith; counts = λ h. omega (arith, leb-false size_limit l.size e) })

pub end_later : (l : Line) → Later l (line_ended l)
unfolding line_ended
end_later l = record { rises = omega arith; counts = λ h. h }

pub stays_line : (s : Session) (l : Line) → Later s.line l → Stays s (with_line s l)
unfolding with_line
stays_line s l k =
    record {
      opening_stays = refl;
      opened_stays = refl;
      ended_stays = refl;
      count_stays = λ h. h;
      uncut_stays = λ h. h;
      fits_stays = λ f. record {
        message_long = f.message_long;
        suo_long_fact = f.suo_long_fact;
        sender_long = f.sender_long;
        key_fits =
            f.key_fits;
      };
      line_later = k;
      made_stays = λ h. h;
      running_stays = λ f. f;
    }

cipher-lt : (s : Session) (x : ℕ) → cipher_of s x < 2 ^ 64
unfolding cipher_of
cipher-lt s x = enciphered-lt (key_or0 s.batch.once) x

batch_fits : (s : Session) (l : List ℕ) → RunningFits s.batch.running
    → RunningFits (batch_with (cipher_of s) s.place s.batch l).running
unfolding batch_with
batch_fits s l f =
    picked (λ (x : Batch). RunningFits x.running) (is_data s.place) _ _
    (λ h. took_fits (cipher_of s) (cipher-lt s) l s.batch.running f) (λ h. f)

pub stays_heard : (s : Session) (l : List ℕ) → Stays s (heard s l)
unfolding heard heard_by
stays_heard s l =
    let g = gathered_all_lem s.gathered l in
    let a = batch_suo (cipher_of s) s.place s.batch l in
    let k = batch_once (cipher_of s) s.place s.batch l in
    record {
      opening_stays = refl;
      opened_stays = refl;
      ended_stays = refl;
      count_stays = g.0;
      uncut_stays = λ h. ap (λ (m : Collected). is_cut m.extent) a ∙ h;
      fits_stays = λ f.
          record {
            message_long = g.1 ∙ f.message_long;
            suo_long_fact = ap (λ (m : Collected). length m.text) a ∙ f.suo_long_fact;
            sender_long = f.sender_long;
            key_fits = omega (arith, ap key_or0 k, f.key_fits);
          };
      line_later = later_same s.line;
      made_stays = λ h. h;
      running_stays = batch_fits s l;
    }

pub stays_placed : (s : Session) (p : Place) (told : Bool) (g : Gathered) → (s.gathered.count ≤ 500 → g.count ≤ 500)
    → (Fits s → length g.text ≡ 161)
    → Stays s (placed s p told g)
unfolding placed
stays_placed s p told g n l =
    record {
      opening_stays = refl;
      opened_stays = refl;
      ended_stays = refl;
      count_stays = n;
      uncut_stays = λ h. h;
      fits_stays = λ f. record { message_long = l f; suo_long_fact = f.suo_long_fact; sender_long = f.sender_long; key_fits = f.key_fits };
      line_later = later_same s.line;
      made_stays = λ h. h;
      running_stays = λ f. f;
    }

-- with nothing on its way
pub stays_empty : (s : Session) (p : Place) (told : Bool) → Stays s (placed s p told nothing)
stays_empty s p told = stays_placed s p told nothing (λ h. nothing_kept.0) (λ f. nothing_kept.1)

pub stays_shut : (s : Session) → Stays s (shut s)
unfolding shut
stays_shut s = stays_empty s Closed s.told

-- and another frame
pub stays_framed : (s : Session) (p : Place) (told : Bool) (b : Batch)
    → (is_cut s.batch.suo.extent ≡ false → is_cut b.suo.extent ≡ false)
    → (Fits s → length b.suo.text ≡ 161) → (Fits s → key_or0 b.once < 2 ^ 64)
    → (RunningFits s.batch.running → RunningFits b.running)
    → Stays s (with_batch (placed s p told nothing) b)
unfolding placed with_batch
stays_framed s p told b a l k r =
    record {
      opening_stays = refl;
      opened_stays = refl;
      ended_stays = refl;
      count_stays = λ h. nothing_kept.0;
      uncut_stays = a;
      fits_stays = λ f. record { message_long = nothing_kept.1; suo_long_fact = l f; sender_long = f.sender_long; key_fits = k f };
      line_later = later_same s.line;
      made_stays = λ h. h;
      running_stays = r;
    }

pub stays_judged : (s : Session) (p : Place) (made : ℕ) (sender : List ℕ) → (s.made < 2 ^ 64 → made < 2 ^ 64)
    → (Fits s → length sender ≡ 25)
    → Stays s (judged s p made sender)
unfolding judged
stays_judged s p made sender m l =
    record {
      opening_stays = refl;
      opened_stays = refl;
      ended_stays = refl;
      count_stays = λ h. nothing_kept.0;
      uncut_stays = λ h. h;
      fits_stays = λ f. record { message_long = nothing_kept.1; suo_long_fact = f.suo_long_fact; sender_long = l f; key_fits = f.key_fits };
      line_later = later_same s.line;
      made_stays = m;
      running_stays = λ f. f;
    }
