-- A read takes at most 2 ^ 32 bytes less those counted: each byte within the size limit is counted, and the one past it gives a reply,
-- which ends the scan.
-- Assumes nothing.
use Prim.Native.Nat.{ℕ, ◌+◌, ◌<◌, ◌≤◌, ◌^◌}
use mathlib.Core.Path.{◌≡◌, refl, sym, ap, ◌∙◌}
use mathlib.Core.List.{List, [], ◌∷◌}
use mathlib.Core.Bool.{Bool, true, false, false≢true}
use native.Mathlib.Omega.{arith}
use borrow.Author.Tests.{leb-false}
use lib.Dec.{leb}
use Rattle.ground.proofs.Choices.{picks, skips}
use Rattle.ground.proofs.Bools.{picked}
use Rattle.whole_file.specs.Records.{size_limit}
use Rattle.session.specs.Lines.{Event, size_passed, event_of, line_after}
use Rattle.session.specs.Events.{replies, bare_turn, passed_in, passed}
use Rattle.session.specs.Machine.{Scan, with_line, on_event, stepped, scan_on, scanned}
use Rattle.session.specs.Ranges.{is_closed}
use Rattle.session.specs.declared.Line.{Line}
use Rattle.session.specs.declared.Place.{Place}
use Rattle.session.specs.declared.Place.TheVariants.{BeforeEsi, Outside, Collecting, InData, Closed}
use Rattle.session.specs.declared.Session.{Session}
use Rattle.law_cutting.proofs.Stays.{Later}
use Rattle.law_cutting.proofs.Keeps.{keeps_event, keeps_step}

-- ---- the byte past the limit

passed_in_given : (p : Place) (s : Session) (w : List ℕ) → is_closed p ≡ false → (passed_in p s w).out.reply.given ≡ true
unfolding passed_in is_closed bare_turn replies
passed_in_given BeforeEsi s w c = refl
passed_in_given Outside s w c = refl
passed_in_given (Collecting kind) s w c = refl
passed_in_given InData s w c = refl
passed_in_given Closed s w c = absurd (false≢true (sym c))

past_given : (s : Session) (w : List ℕ) (b : ℕ) → is_closed s.place ≡ false → leb size_limit s.line.size ≡ true
    → (stepped s w b).out.reply.given ≡ true
unfolding stepped event_of on_event passed with_line
past_given s w b c e =
    ap (λ (v : Event). (on_event v (with_line s (line_after s.line b)) w).out.reply.given) (picks {A = Event} _ size_passed _ e)
    ∙ passed_in_given s.place (with_line s (line_after s.line b)) w c

-- ---- a byte without a reply is counted

within : (s : Session) (w : List ℕ) (b : ℕ) → is_closed s.place ≡ false → (stepped s w b).out.reply.given ≡ false
    → leb size_limit s.line.size ≡ false
within s w b c q = by (leb size_limit s.line.size) refl
  where
    by : (t : Bool) → leb size_limit s.line.size ≡ t → t ≡ false
    by true e = absurd (false≢true (sym q ∙ past_given s w b c e))
    by false e = refl

line_counts : (l : Line) (b : ℕ) → leb size_limit l.size ≡ false → (line_after l b).size ≡ l.size + 1
unfolding line_after
line_counts l b e = ap (λ (x : Line). x.size) (skips {A = Line} _ l _ e)

-- what is counted after a byte is what was counted with it, or more
counted_on : (s : Session) (w : List ℕ) (b : ℕ) → Later (line_after s.line b) (stepped s w b).out.session.line
unfolding stepped with_line
counted_on s w b = (keeps_event (event_of s.line b) (with_line s (line_after s.line b)) w).stays.line_later

pub taken_counted : (xs : List ℕ) (s : Session) (w : List ℕ) → is_closed s.place ≡ false → s.line.size < 2 ^ 32
    → (scanned s w xs).taken + s.line.size ≤ 2 ^ 32
unfolding scanned scan_on
taken_counted [] s w c h = omega arith
taken_counted (b ∷ bs) s w c h =
    let x = stepped s w b in
    picked (λ (r : Scan). r.taken + s.line.size ≤ 2 ^ 32) x.out.reply.given _ _ (λ e. omega arith)
    (λ e.
    let i = within s w b c e in
    let n = line_counts s.line b i in
    let l = counted_on s w b in
    let m : (line_after s.line b).size < 2 ^ 32 = omega (arith, leb-false size_limit s.line.size i) in
    let r = taken_counted bs x.out.session x.table ((keeps_step s w b).stays_open c e) (l.counts m) in
    omega (arith, r, l.rises))
