-- Bytes that are neither LF nor CR are heard one after the other, and so together: the one-time key, under which the digest is made, stays.
-- Assumes nothing.
use Rattle.std.specs.Prelude.{Option}
use Prim.Native.Nat.{ℕ, ◌+◌, ◌<◌, ◌≤◌}
use mathlib.Core.Path.{◌≡◌, refl, sym, ap, ap₂, ◌∙◌}
use mathlib.Core.List.{List, [], ◌∷◌, ◌++◌}
use mathlib.Core.Bool.{Bool, true, false}
use native.Mathlib.Omega.{arith}
use native.Mathlib.Nat.{add-zero}
use borrow.Author.Tests.{lt-leb}
use lib.Dec.{eqb}
use lib.ListN.{length}
use Rattle.ground.specs.Choice.{pick}
use Rattle.ground.specs.Lists.{all}
use Rattle.ground.proofs.Choices.{left, right, skips, pick_same}
use Rattle.ground.proofs.Choices.{fails-true}
use Rattle.ground.proofs.Bools.{picked}
use Rattle.des.specs.Des.{enciphered}
use Rattle.digest.specs.Running.{took_bytes}
use Rattle.digest.specs.declared.Running.{Running}
use Rattle.digest.proofs.Folds.{took_append}
use Rattle.checks.specs.Checks.{key_or0}
use Rattle.whole_file.specs.Records.{lf, cr, size_limit}
use Rattle.session.specs.Lines.{Event, characters, waited, event_of, line_after}
use Rattle.session.specs.Events.{onward, with_batch, Turn, silent, gathered_with, gathered_all, is_data, batch_with, cipher_of, heard_by, heard}
use Rattle.session.specs.Machine.{scan_on, scanned, stepped, on_event, with_line}
use Rattle.session.specs.declared.Line.{Line}
use Rattle.session.specs.declared.Place.{Place}
use Rattle.session.specs.declared.Gathered.{Gathered}
use Rattle.session.specs.declared.Batch.{Batch}
use Rattle.session.specs.declared.Session.{Session}
use Rattle.law_cutting.specs.Plain.{plain}
use Rattle.law_cutting.proofs.Cuts.{further, further_none, further_one}

-- ---- characters heard in pieces

pub gathered_append : (g : Gathered) (a c : List ℕ) → gathered_all (gathered_all g a) c ≡ gathered_all g (a ++ c)
unfolding gathered_all
gathered_append g [] c = refl
gathered_append g (x ∷ a) c = gathered_append (gathered_with g x) a c

-- the SUO and the one-time key stay
pub batch_suo : (e : ℕ → ℕ) (p : Place) (b : Batch) (l : List ℕ) → (batch_with e p b l).suo ≡ b.suo
unfolding batch_with
batch_suo e p b l = picked (λ (x : Batch). x.suo ≡ b.suo) (is_data p) _ _ (λ h. refl) (λ h. refl)

pub batch_once : (e : ℕ → ℕ) (p : Place) (b : Batch) (l : List ℕ) → (batch_with e p b l).once ≡ b.once
unfolding batch_with
batch_once e p b l = picked (λ (x : Batch). x.once ≡ b.once) (is_data p) _ _ (λ h. refl) (λ h. refl)

abbrev batch_by : Bool → (ℕ → ℕ) → Batch → List ℕ → Batch
batch_by t e b l = pick t (record { suo = b.suo; once = b.once; running = took_bytes e b.running l }) b

append_by : (t : Bool) (e : ℕ → ℕ) (b : Batch) (a c : List ℕ) → batch_by t e (batch_by t e b a) c ≡ batch_by t e b (a ++ c)
unfolding pick
append_by true e b a c =
    ap (λ (r : Running). record { suo = b.suo; once = b.once; running = r }) (sym (took_append e b.running a c))
append_by false e b a c = refl

pub batch_append : (e : ℕ → ℕ) (p : Place) (b : Batch) (a c : List ℕ) → batch_with e p (batch_with e p b a) c ≡ batch_with e p b (a ++ c)
unfolding batch_with
batch_append e p b a c = append_by (is_data p) e b a c

-- so the key that the digest is made under stays
cipher_stays : (s : Session) (a : List ℕ) → cipher_of (heard s a) ≡ cipher_of s
unfolding cipher_of heard heard_by
cipher_stays s a = ap {B = ℕ → ℕ} (λ (k : Option ℕ). λ x. enciphered (key_or0 k) x) (batch_once (cipher_of s) s.place s.batch a)

pub heard-append : (s : Session) (a c : List ℕ) → heard (heard s a) c ≡ heard s (a ++ c)
unfolding heard heard_by
heard-append s a c =
    let e = cipher_of s in
    ap (λ (f : ℕ → ℕ). heard_by f (heard_by e s a) c) (cipher_stays s a)
    ∙ ap₂
    (λ (g : Gathered) (b : Batch). onward s s.ended s.told s.made s.sender s.line s.place g b)
    (gathered_append s.gathered a c)
    (batch_append e s.place s.batch a c)

pub heard_none : (s : Session) → heard s [] ≡ s
unfolding heard heard_by gathered_all batch_with took_bytes with_batch
heard_none s =
    ap (with_batch s)
    (pick_same (is_data s.place) s.batch)

-- the bytes' side has no part in it
pub heard-line : (s : Session) (l : Line) (c : List ℕ) → heard (with_line s l) c ≡ with_line (heard s c) l
unfolding heard heard_by cipher_of with_line
heard-line s l c = refl

-- ---- one plain byte

module _ (l : Line) (b : ℕ) (p : plain b ≡ true) (c : l.cr ≡ false) (h : l.size < size_limit) where
  not_lf : eqb b lf ≡ false
  unfolding plain
  not_lf = fails-true _ (left _ _ p)

  not_cr : eqb b cr ≡ false
  unfolding plain
  not_cr = fails-true _ (right _ _ p)

  event_is : event_of l b ≡ characters (b ∷ [])
  unfolding event_of waited
  event_is =
      skips {A = Event} _ _ _ (lt-leb size_limit l.size h)
      ∙ skips {A = Event} _ _ _ not_lf
      ∙ skips {A = Event} _ _ _ not_cr
      ∙ ap (λ (t : Bool). characters (waited t ++ (b ∷ []))) c

  line_is : line_after l b ≡ record { size = l.size + 1; cr = false }
  unfolding line_after
  line_is =
      skips {A = Line} _ _ _ (lt-leb size_limit l.size h) ∙ ap (λ (t : Bool). record { size = l.size + 1; cr = t }) not_cr

-- the session after plain bytes
abbrev pub after_plain : Session → List ℕ → Session
after_plain s xs = with_line (heard s xs) (record { size = s.line.size + length xs; cr = false })

plain_step : (s : Session) (w : List ℕ) (b : ℕ) → plain b ≡ true → s.line.cr ≡ false → s.line.size < size_limit
    → stepped s w b ≡ silent (after_plain s (b ∷ [])) w
unfolding stepped on_event
plain_step s w b p c h =
    ap₂ (λ (v : Event) (l : Line). on_event v (with_line s l) w) (event_is s.line b p c h) (line_is s.line b p c h)
    ∙ ap (λ (u : Session). silent u w) (heard-line s (record { size = s.line.size + 1; cr = false }) (b ∷ []))

-- a byte that says nothing
pub scan_silent : (s : Session) (w : List ℕ) (b : ℕ) (bs : List ℕ) (u : Session) (v : List ℕ) → stepped s w b ≡ silent u v
    → scanned s w (b ∷ bs) ≡ further 1 (scanned u v bs)
unfolding scanned scan_on silent pick
scan_silent s w b bs u v e = ap (λ (x : Turn). scan_on x (scanned x.out.session x.table bs)) e

-- ---- a run of them

none_after : (s : Session) → s.line.cr ≡ false → after_plain s [] ≡ s
unfolding with_line
none_after s c =
    ap₂ (λ (u : Session) (n : ℕ). with_line u (record { size = n; cr = false })) (heard_none s) (add-zero s.line.size)
    ∙ ap (λ (t : Bool). with_line s (record { size = s.line.size; cr = t })) (sym c)

more_after : (s : Session) (b : ℕ) (xs : List ℕ) → after_plain (after_plain s (b ∷ [])) xs ≡ after_plain s (b ∷ xs)
unfolding with_line
more_after s b xs =
    let k : s.line.size + 1 + length xs ≡ s.line.size + length (b ∷ xs) = omega arith in
    ap (λ (u : Session). with_line u (record { size = s.line.size + 1 + length xs; cr = false }))
    (heard-line (heard s (b ∷ [])) (record { size = s.line.size + 1; cr = false }) xs)
    ∙ ap₂ (λ (u : Session) (n : ℕ). with_line u (record { size = n; cr = false })) (heard-append s (b ∷ []) xs) k

pub plain_run : (xs ys : List ℕ) (s : Session) (w : List ℕ) → all plain xs ≡ true → s.line.cr ≡ false
    → s.line.size + length xs ≤ size_limit
    → scanned s w (xs ++ ys) ≡ further (length xs) (scanned (after_plain s xs) w ys)
unfolding all with_line
plain_run [] ys s w p c h = ap (λ (u : Session). scanned u w ys) (sym (none_after s c)) ∙ further_none (scanned (after_plain s []) w ys)
plain_run (b ∷ xs) ys s w p c h =
    let u = after_plain s (b ∷ []) in
    scan_silent s w b (xs ++ ys) u w (plain_step s w b (left _ _ p) c (omega arith))
    ∙ ap (further 1) (plain_run xs ys u w (right _ _ p) refl (omega arith))
    ∙ further_one (length xs) (scanned (after_plain u xs) w ys)
    ∙ ap (λ (v : Session). further (length (b ∷ xs)) (scanned v w ys)) (more_after s b xs)
