-- A byte is past the size limit, ends the record, or tells characters; and a last record ends where a CR waits or characters were gathered.
-- Assumes nothing.
use Prim.Native.Nat.{ℕ, ◌<◌, ◌≤◌}
use mathlib.Core.Path.{◌≡◌, refl, sym, ap, ap₂, ◌∙◌}
use mathlib.Core.Bool.{Bool, true, false}
use mathlib.Core.List.{List}
use borrow.Author.Tests.{le-leb, lt-leb, lt-ltb, le-ltb, eq-eqb, ne_eqb}
use native.Mathlib.Omega.{arith}
use lib.Dec.{eqb}
use Rattle.ground.specs.Choice.{pick}
use Rattle.ground.proofs.Choices.{picks, skips, either_left, either_right, either_decides}
use Rattle.des.specs.Des.{schedule_of}
use Rattle.checks.specs.Checks.{key_or0}
use Rattle.whole_file.specs.Records.{lf, cr, size_limit}
use Rattle.session.specs.Lines.{Event, characters, record_ends, size_passed, waited, event_of, line_after, line_ended}
use Rattle.session.specs.Events.{Turn, silent, no_reply, bare_turn, replies, heard, record_ended, passed_in, passed}
use Rattle.session.specs.Machine.{with_line, on_event, stepped, is_begun, last_ended}
use Rattle.session.specs.declared.Line.{Line}
use Rattle.session.specs.declared.Place.{Place}
use Rattle.session.specs.declared.Place.TheVariants.{BeforeEsi, Outside, Collecting, InData, Closed}
use Rattle.session.specs.declared.Session.{Session}
use Rattle.session.specs.declared.Reply.{Reply}
use Rattle.session.specs.declared.Stepped.{Stepped}
use Rattle.read_bytes.specs.Runs.{told_by}

-- ---- the round keys serve the session whatever its line is

pub key_kept : (s : Session) (l : Line) {at : Session} {keys : List ℕ} → at ≡ with_line s l → keys ≡ schedule_of (key_or0 s.batch.once)
    → keys ≡ schedule_of (key_or0 at.batch.once)
unfolding with_line
key_kept s l a k = k ∙ ap (λ (u : Session). schedule_of (key_or0 u.batch.once)) (sym a)

-- ---- what a turn is made of

-- what the code leaves is the turn's session and reply, and its table
abbrev pub Makes : Turn → Stepped → List ℕ → Type 0
Makes x r v = (r ≡ x.out) × (v ≡ x.table)

makes : {x y : Turn} {r : Stepped} {v : List ℕ} → y ≡ x → Makes x r v → Makes y r v
makes e m = (m.0 ∙ ap (λ (z : Turn). z.out) (sym e), m.1 ∙ ap (λ (z : Turn). z.table) (sym e))

makes_silent : (s : Session) (w : List ℕ) {u : Session} {y : Reply} → u ≡ s → y ≡ no_reply
    → Makes (silent s w) (record { session = u; reply = y }) w
unfolding silent
makes_silent s w e n = (ap₂ (λ (u : Session) (y : Reply). record { session = u; reply = y }) e n, refl)

-- the table stays past the size limit
passed_in_table : (p : Place) (s : Session) (w : List ℕ) → (passed_in p s w).table ≡ w
unfolding passed_in bare_turn replies silent
passed_in_table BeforeEsi s w = refl
passed_in_table Outside s w = refl
passed_in_table (Collecting kind) s w = refl
passed_in_table InData s w = refl
passed_in_table Closed s w = refl

passed_table : (s : Session) (w : List ℕ) → (passed s w).table ≡ w
unfolding passed
passed_table s w = passed_in_table s.place s w

pick-characters : (t : Bool) (l m : List ℕ) → pick t (characters l) (characters m) ≡ characters (pick t l m)
unfolding pick
pick-characters true l m = refl
pick-characters false l m = refl

-- ---- one byte

module _ (s : Session) (w : List ℕ) (b : ℕ) {at : Session} (a : at ≡ with_line s (line_after s.line b)) where
  step_by : (v : Event) → event_of s.line b ≡ v → stepped s w b ≡ on_event v at w
  unfolding stepped
  step_by v e = ap₂ (λ (x : Event) (u : Session). on_event x u w) e (sym a)

  pub past_limit : size_limit ≤ s.line.size → {r : Stepped} → r ≡ (passed at w).out → Makes (stepped s w b) r w
  unfolding event_of on_event
  past_limit h e = makes (step_by size_passed (picks {A = Event} _ _ _ (le-leb _ _ h))) (e, sym (passed_table at w))

  module _ (h : s.line.size < size_limit) where
    pub ends_record : b ≡ lf → {r : Stepped} {v : List ℕ} → Makes (record_ended at w) r v → Makes (stepped s w b) r v
    unfolding event_of on_event
    ends_record l m =
        makes (step_by record_ends (skips {A = Event} _ _ _ (lt-leb _ _ h) ∙ picks {A = Event} _ _ _ (eq-eqb _ _ l))) m

    pub tells : (b ≡ lf → ⊥) → {u : Session} {y : Reply} → u ≡ heard at (told_by s.line.cr b) → y ≡ no_reply
        → Makes (stepped s w b) (record { session = u; reply = y }) w
    unfolding event_of on_event told_by
    tells l e n =
        makes
        (step_by (characters (told_by s.line.cr b))
        (skips {A = Event} _ _ _ (lt-leb _ _ h) ∙ skips {A = Event} _ _ _ (ne_eqb _ _ l) ∙ pick-characters (eqb b cr) _ _))
        (makes_silent _ w e n)

-- ---- a last record that no LF ended

module _ (s : Session) (w : List ℕ) where
  pub none_begun : s.line.cr ≡ false → s.gathered.count ≡ 0 → {y : Reply} → y ≡ no_reply
      → Makes (last_ended s w) (record { session = s; reply = y }) w
  unfolding last_ended is_begun
  none_begun c g n = makes (skips {A = Turn} _ _ _ (either_decides _ _ c ∙ le-ltb 0 s.gathered.count (omega arith)))
      (makes_silent s w refl n)

  module _ {u : Session} {r : Stepped} {v : List ℕ} (e : u ≡ with_line (heard s (waited s.line.cr)) (line_ended s.line))
      (m : Makes (record_ended u w) r v) where
    last_ends : is_begun s ≡ true → Makes (last_ended s w) r v
    unfolding last_ended
    last_ends t = makes (picks {A = Turn} _ _ _ t ∙ ap (λ (x : Session). record_ended x w) (sym e)) m

    pub cr_begun : s.line.cr ≡ true → Makes (last_ended s w) r v
    unfolding is_begun
    cr_begun c = last_ends (either_left _ _ c)

    pub characters_begun : 0 < s.gathered.count → Makes (last_ended s w) r v
    unfolding is_begun
    characters_begun g = last_ends (either_right _ _ (lt-ltb _ _ g))
