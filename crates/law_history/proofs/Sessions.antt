-- What is done to a session before a reply leaves its opening, its count of keys made, and its arrays and words as long as their types say.
-- Assumes nothing.
use Prim.Native.Nat.{ℕ}
use mathlib.Core.Path.{◌≡◌, refl, ◌∙◌}
use mathlib.Core.List.{List}
use mathlib.Core.Bool.{Bool}
use lib.ListN.{length}
use Rattle.ground.proofs.Bools.{picked}
use Rattle.message.specs.declared.Extent.{Extent}
use Rattle.message.specs.declared.Kind.{Kind}
use Rattle.message.specs.declared.Collected.{Collected}
use Rattle.opening.specs.declared.Opening.{Opening}
use Rattle.whole_file.proofs.Known.{known_length}
use Rattle.session.specs.Events.{heard_by, heard, nothing, placed, with_batch, collected_by, keeps_on, suo_done, suo_on, suo_start, data_taken}
use Rattle.session.specs.Machine.{with_line}
use Rattle.session.specs.Ranges.{Fits}
use Rattle.session.specs.declared.Line.{Line}
use Rattle.session.specs.declared.Place.{Place}
use Rattle.session.specs.declared.Session.{Session}
use Rattle.law_cutting.proofs.Stays.{Later, Stays, stays_line, stays_heard, stays_empty}
use Rattle.law_cutting.proofs.Keeps.{opens_on_lem, opens_data, opens_suo_on, opens_suo_start}

-- u is a session that was opened by o, in whose file so many keys were made, and a value of its type
pub record Of (o : Opening) (made : ℕ) (u : Session) : Type 0 where
  pub opening : u.opening ≡ o
  pub keys : u.made ≡ made
  pub fits : Fits u

-- ---- no key is made before a reply

suo_made_lem : (s : Session) (w : List ℕ) (m : Collected) → (suo_done s w m).made ≡ s.made
unfolding suo_done with_batch placed
suo_made_lem s w m = refl

suo_on_made : (s : Session) (w : List ℕ) → (suo_on s w).made ≡ s.made
unfolding suo_on keeps_on placed
suo_on_made s w = picked (λ (u : Session). u.made ≡ s.made) _ _ _ (λ e. refl) (λ e. suo_made_lem s w _)

suo_start_made : (s : Session) (w : List ℕ) → (suo_start s w).made ≡ s.made
unfolding suo_start
suo_start_made s w = picked (λ (u : Session). u.made ≡ s.made) _ _ _ (λ e. suo_on_made s w) (λ e. suo_made_lem s w _)

-- ---- what stays

module _ (o : Opening) {made : ℕ} (s : Session) (a : Of o made s) where
  of_stays : {u : Session} → Stays s u → u.made ≡ s.made → Of o made u
  of_stays k m =
      record { opening = k.opening_stays ∙ a.opening; keys = m ∙ a.keys; fits = k.fits_stays a.fits }

  pub of_line : (l : Line) → Later s.line l → Of o made (with_line s l)
  unfolding with_line
  of_line l k = of_stays (stays_line s l k) refl

  pub of_heard : (l : List ℕ) → Of o made (heard s l)
  unfolding heard heard_by
  of_heard l = of_stays (stays_heard s l) refl

  -- with nothing on its way
  pub of_empty : (p : Place) (told : Bool) → Of o made (placed s p told nothing)
  unfolding placed
  of_empty p told = of_stays (stays_empty s p told) refl

  pub of_on : (kind : Kind) → Of o made (keeps_on s kind)
  unfolding keeps_on placed
  of_on kind = of_stays (opens_on_lem s kind).moves refl

  pub of_taken : Of o made (data_taken s)
  unfolding data_taken with_batch placed
  of_taken = of_stays (opens_data s).moves refl

  pub of_suo_on : (w : List ℕ) → Of o made (suo_on s w)
  of_suo_on w = of_stays (opens_suo_on s w).moves (suo_on_made s w)

  pub of_suo_start : (w : List ℕ) → Of o made (suo_start s w)
  of_suo_start w = of_stays (opens_suo_start s w).moves (suo_start_made s w)

  -- what was gathered has its length, whatever becomes of it
  pub collected_length : (kind : Kind) (extent : Extent) → length (collected_by kind extent s.gathered).text ≡ 161
  unfolding collected_by
  collected_length kind extent = known_length kind _
