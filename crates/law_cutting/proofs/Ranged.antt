-- A step leaves the numbers of a session in their ranges and their bytes, and closes no file without a reply: it is read off what it keeps.
-- `keeps_step`, `keeps_scan`, `keeps_last` and `keeps_file` (Keeps) say so of a byte, of bytes, of a last record and of the file's end.
-- Assumes nothing.
use Prim.Native.Nat.{ℕ}
use mathlib.Core.Path.{◌≡◌, ap, ◌∙◌}
use mathlib.Core.List.{List}
use mathlib.Core.Bool.{true, false}
use native.Mathlib.Omega.{arith}
use borrow.Author.Tests.{leb-true, le-leb}
use Rattle.ground.specs.Choice.{fails, between}
use Rattle.ground.proofs.Choices.{fails-true, left, right, join}
use Rattle.calendar.specs.Dates.{real_time}
use Rattle.opening.specs.declared.Opening.{Opening}
use Rattle.session.specs.Events.{Turn}
use Rattle.session.specs.Machine.{stepped}
use Rattle.session.specs.Ranges.{Fits, Encodes, in_range, is_closed}
use Rattle.session.specs.declared.Session.{Session}
use Rattle.law_cutting.proofs.Stays.{Stays}
use Rattle.law_cutting.proofs.Keeps.{Keeps, keeps_step}

stays_in_range : {s u : Session} → Stays s u → in_range s ≡ true → in_range u ≡ true
unfolding in_range fails
stays_in_range a e =
    let r = right _ _ (right _ _ e) in
    join _ _ (ap (λ (o : Opening). real_time o.time) a.opening_stays ∙ left _ _ e)
    (join _ _ (ap (λ (o : Opening). between 1 16 o.kind) a.opening_stays ∙ left _ _ (right _ _ e))
    (join _ _ (le-leb _ _ (a.count_stays (leb-true _ _ (left _ _ r)))) (ap fails (a.uncut_stays (fails-true _ (right _ _ r))))))

-- what is in range stays in its bytes
stays_encodes : {s u : Session} → Stays s u → in_range s ≡ true → Encodes s → Encodes u
unfolding in_range
stays_encodes a e f =
    let r = right _ _ (right _ _ e) in
    let o = a.opening_stays in
    record {
      fits = a.fits_stays f.fits;
      day_fits = omega (arith, ap (λ (x : Opening). x.today.yymmdd) o, f.day_fits);
      time_fits = omega (arith, ap (λ (x : Opening). x.time) o, f.time_fits);
      kind_fits = omega (arith, ap (λ (x : Opening). x.kind) o, f.kind_fits);
      clock_fits = omega (arith, ap (λ (x : Opening). x.clock) o, f.clock_fits);
      made_fits = a.made_stays f.made_fits;
      size_fits = a.line_later.counts f.size_fits;
      count_fits = omega (arith, a.count_stays (leb-true _ _ (left _ _ r)));
      running_fits = a.running_stays f.running_fits;
    }

module _ {s : Session} {w : List ℕ} {x : Turn} (k : Keeps s w x) where
  pub still_encodes : in_range s ≡ true → Encodes s → Encodes x.out.session
  still_encodes = stays_encodes k.stays

  pub in_range_lem : in_range s ≡ true → in_range x.out.session ≡ true
  in_range_lem = stays_in_range k.stays

  pub still_fits : Fits s → Fits x.out.session
  still_fits = k.stays.fits_stays

  pub same_opening : x.out.session.opening ≡ s.opening
  same_opening = k.stays.opening_stays

  pub same_opened : x.out.session.opened ≡ s.opened
  same_opened = k.stays.opened_stays

  pub same_ended : x.out.session.ended ≡ s.ended
  same_ended = k.stays.ended_stays

pub quiet_stays_open : (s : Session) (w : List ℕ) (b : ℕ) → is_closed s.place ≡ false → (stepped s w b).out.reply.given ≡ false
    → is_closed (stepped s w b).out.session.place ≡ false
quiet_stays_open s w b = (keeps_step s w b).stays_open
