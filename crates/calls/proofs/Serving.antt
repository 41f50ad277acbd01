-- A refused call leaves all as it was and takes nothing; a served one answers what the machine makes of the bytes or of the file's end.
-- Assumes nothing.
use Prim.Native.Nat.{ℕ}
use mathlib.Core.Path.{◌≡◌, refl, sym, ap, ap₂, ◌∙◌}
use mathlib.Core.Bool.{Bool, true, false}
use mathlib.Core.List.{List}
use borrow.Author.Tests.{eq-eqb, ne_eqb}
use lib.Dec.{eqb}
use Rattle.ground.specs.Choice.{pick}
use Rattle.ground.proofs.Choices.{picks, skips}
use Rattle.refusals.specs.Refusals.{lowest}
use Rattle.session.specs.Events.{Turn, file_ended, is_due}
use Rattle.session.specs.Machine.{Scan, scanned, last_ended}
use Rattle.session.specs.Ranges.{is_closed}
use Rattle.session.specs.declared.Session.{Session}
use Rattle.session.specs.declared.Reply.{Reply}
use Rattle.session.specs.declared.Stepped.{Stepped}
use Rattle.calls.specs.Reading.{Done, refused_by, served_by, room_after, length_of, reading_refusals, ending_refusals, read_served, read_done}
use Rattle.calls.specs.Reading.{awaits, finishes, end_served, end_done}
use Rattle.calls.specs.Promises.{MeetsReading}
use Rattle.calls.specs.declared.Answer.{Answer}

-- what meets a definition meets an equal one
does : {d e : Done} {a : Answer} {w room : List ℕ} → d ≡ e → MeetsReading d a w room → MeetsReading e a w room
does q m =
    record {
      answers = m.answers ∙ ap (λ (x : Done). x.answer) q;
      leaves = m.leaves ∙ ap (λ (x : Done). x.table) q;
      shows = m.shows ∙ ap (λ (x : Done). x.room) q;
    }

does_refused : (n : ℕ) (s : Session) (w room : List ℕ) {a : Answer} → a
    ≡ record { refusal = n; taken = 0; length = 0; finished = false; session = s }
    → MeetsReading (refused_by n s w room) a w room
unfolding refused_by
does_refused n s w room e = record { answers = e; leaves = refl; shows = refl }

-- ---- which of the two a call is

module _ (three : ℕ) (d : Done) (s : Session) (w room : List ℕ) where
  abbrev chosen : Done
  chosen = pick (eqb three 0) d (refused_by three s w room)

  is_refused : {n : ℕ} → n ≡ three → (n ≡ 0 → ⊥) → refused_by n s w room ≡ chosen
  is_refused e z =
      ap (λ (m : ℕ). refused_by m s w room) e ∙ sym (skips {A = Done} _ _ _ (ne_eqb three 0 (λ q. z (e ∙ q))))

  is_served : three ≡ 0 → d ≡ chosen
  is_served e = sym (picks {A = Done} _ _ _ (eq-eqb three 0 e))

-- a session and a reply with the table after them
abbrev turn_of : Stepped → List ℕ → Turn
turn_of x v = record { out = x; table = v }

does_served : (x : Turn) (s : Session) (taken : ℕ) (finished : Bool) (room : List ℕ) {len : ℕ} {after : List ℕ} {a : Answer}
    → len ≡ length_of x.out.reply room
    → after ≡ room_after x.out.reply room
    → a ≡ record { refusal = 0; taken = taken; length = len; finished = finished; session = s }
    → MeetsReading (served_by x s taken finished room) a x.table after
unfolding served_by
does_served x s taken finished room l r e =
    record {
      answers = e ∙ ap (λ (n : ℕ). record { refusal = 0; taken = taken; length = n; finished = finished; session = s }) l;
      leaves = refl;
      shows = r;
    }

-- ---- a read

module _ (s : Session) (w input room : List ℕ) {n : ℕ} (e : n ≡ lowest (reading_refusals s w room)) where
  pub read_refused_lem : (n ≡ 0 → ⊥) → {a : Answer} → a ≡ record { refusal = n; taken = 0; length = 0; finished = false; session = s }
      → MeetsReading (read_done s w input room) a w room
  unfolding read_done
  read_refused_lem z r = does (is_refused _ _ s w room e z) (does_refused n s w room r)

  pub read_served_lem : n ≡ 0 → {u : Session} {y : Reply} {k : ℕ} {v : List ℕ}
      → (u ≡ (scanned s w input).turn.out.session) × (y ≡ (scanned s w input).turn.out.reply) × (k ≡ (scanned s w input).taken)
      → v ≡ (scanned s w input).turn.table
      → {len : ℕ} {after : List ℕ}
      → len ≡ length_of y room
      → after ≡ room_after y room
      → {f : Bool}
      → f ≡ is_closed u.place
      → MeetsReading (read_done s w input room) (record { refusal = 0; taken = k; length = len; finished = f; session = u }) v after
  unfolding read_done read_served
  read_served_lem z {u} {y} {k} {v} x g {len} {after} l r {f} c =
      let scan : record { turn = turn_of (record { session = u; reply = y }) v; taken = k } ≡ scanned s w input =
      ap₂ (λ (p : Turn) (m : ℕ). record { turn = p; taken = m })
      (ap₂ turn_of (ap₂ (λ (b : Session) (a : Reply). record { session = b; reply = a }) x.0 x.1) g)
      x.2 in
      does
      (ap (λ (p : Scan). read_served p room) scan ∙ is_served _ _ s w room (sym e ∙ z))
      (does_served (turn_of (record { session = u; reply = y }) v) u k (is_closed u.place) room l r
      (ap (λ (b : Bool). record { refusal = 0; taken = k; length = len; finished = b; session = u }) c))

-- ---- an end

module _ (s : Session) (w room : List ℕ) {n : ℕ} (e : n ≡ lowest (ending_refusals s w room)) where
  pub end_refused_lem : (n ≡ 0 → ⊥) → {a : Answer} → a ≡ record { refusal = n; taken = 0; length = 0; finished = false; session = s }
      → MeetsReading (end_done s w room) a w room
  unfolding end_done
  end_refused_lem z r = does (is_refused _ _ s w room e z) (does_refused n s w room r)

  module _ (z : n ≡ 0) {x : Stepped} {v : List ℕ} (o : x ≡ (last_ended s w).out) (g : v ≡ (last_ended s w).table) where
    end_by : end_served (turn_of x v) (file_ended x.session v) room ≡ end_done s w room
    unfolding end_done
    end_by =
        ap (λ (p : Turn). end_served p (file_ended p.out.session p.table) room) (ap₂ turn_of o g)
        ∙ is_served _ _ s w room (sym e ∙ z)

    -- the last record's end gave a reply
    module _ (i : x.reply.given ≡ true) {len : ℕ} {after : List ℕ} (l : len ≡ length_of x.reply room)
        (r : after ≡ room_after x.reply room) {due : Bool} (p : due ≡ is_due x.session.place) where
      pub end_awaits : due ≡ true → {u : Session} → u ≡ awaits x.session → {a : Answer}
          → a ≡ record { refusal = 0; taken = 0; length = len; finished = false; session = u }
          → MeetsReading (end_done s w room) a v after
      unfolding end_served
      end_awaits k f c =
          does (sym (picks {A = Done} _ _ _ i ∙ picks {A = Done} _ _ _ (sym p ∙ k)) ∙ end_by)
          (does_served (turn_of x v) (awaits x.session) 0 false room l r
          (c ∙ ap (λ (b : Session). record { refusal = 0; taken = 0; length = len; finished = false; session = b }) f))

      pub end_last : due ≡ false → {u : Session} → u ≡ finishes x.session → {a : Answer}
          → a ≡ record { refusal = 0; taken = 0; length = len; finished = true; session = u }
          → MeetsReading (end_done s w room) a v after
      unfolding end_served
      end_last k f c =
          does (sym (picks {A = Done} _ _ _ i ∙ skips {A = Done} _ _ _ (sym p ∙ k)) ∙ end_by)
          (does_served (turn_of x v) (finishes x.session) 0 true room l r
          (c ∙ ap (λ (b : Session). record { refusal = 0; taken = 0; length = len; finished = true; session = b }) f))

    -- it gave none, and the file's end gives what is due
    pub end_over : x.reply.given ≡ false → {y : Stepped} {b : List ℕ}
        → y ≡ (file_ended x.session v).out
        → b ≡ (file_ended x.session v).table
        → {len : ℕ} {after : List ℕ}
        → len ≡ length_of y.reply room
        → after ≡ room_after y.reply room
        → {u : Session}
        → u ≡ finishes y.session
        → {a : Answer}
        → a ≡ record { refusal = 0; taken = 0; length = len; finished = true; session = u }
        → MeetsReading (end_done s w room) a b after
    unfolding end_served
    end_over i {y} {b} p m {len} l r f c =
        does
        (ap (λ (j : Turn). served_by j (finishes j.out.session) 0 true room) (ap₂ turn_of p m)
        ∙ sym (skips {A = Done} _ _ _ i)
        ∙ end_by)
        (does_served (turn_of y b) (finishes y.session) 0 true room l r
        (c ∙ ap (λ (x : Session). record { refusal = 0; taken = 0; length = len; finished = true; session = x }) f))
