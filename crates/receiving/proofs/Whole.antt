-- What is told from an opened file is the whole-file answer, and that is few replies.
-- Assumes nothing.
use Prim.Native.Nat.{ℕ, ◌+◌, ◌<◌, ◌≤◌, ◌^◌}
use mathlib.Core.Path.{◌≡◌, sym, ap, ap₂, ◌∙◌, subst}
use mathlib.Core.Bool.{true, false}
use mathlib.Core.List.{List}
use native.Mathlib.Omega.{arith}
use borrow.Author.Tests.{eq-eqb, ne_eqb}
use lib.ListN.{length}
use Rattle.ground.proofs.Choices.{picks, skips}
use Rattle.table.specs.Table.{with_day}
use Rattle.table.specs.Decode.{table_of}
use Rattle.opening.specs.declared.Opening.{Opening}
use Rattle.session.specs.Told.{Answered}
use Rattle.table_calls.proofs.Laws.{refused_leaves}
use Rattle.calls.specs.Reading.{opening_answer, opening_gives, opening_leaves}
use Rattle.calls.specs.Promises.{MeetsOpen}
use Rattle.calls.specs.declared.OpenAnswer.{OpenAnswer}
use Rattle.law_protocol.specs.Protocol.{Saw}
use Rattle.law_protocol.specs.Ready.{Good, EndGood}
use Rattle.law_protocol.proofs.Opened.{good_opened}
use Rattle.law_protocol.proofs.Cutting.{all_told_lem}
use Rattle.receiving.specs.Receiving.{received, capacity, replies_from, places_from, replies_kept, places_kept}
use Rattle.receiving.specs.Steps.{Adds, saw_from, saw_end, over, AllRead}
use Rattle.receiving.specs.declared.Going.{Going}
use Rattle.receiving.specs.declared.Received.{Received}
use Rattle.receiving.proofs.Few.{few_given}
use Rattle.receiving.proofs.Keeping.{so_far_done, so_far_count, so_far_last}

module _ (b : List ℕ) (o : Opening) (file : List ℕ) where
  pub received_none : (opening_answer b o ≡ 0 → ⊥) → received b o file ≡ over b
  unfolding received
  received_none z = skips {A = Saw} _ _ _ (ne_eqb _ 0 z)

  module _ (z : opening_answer b o ≡ 0) where
    pub received_is : saw_from 0 (opening_gives b o).session (opening_leaves b o) file ≡ received b o file
    unfolding received
    received_is =
        ap (λ (a : Answered). record { given = a.given; table = a.table }) (all_told_lem b o z file)
        ∙ sym (picks {A = Saw} _ _ _ (eq-eqb _ 0 z))

    pub few_received : length (saw_from 0 (opening_gives b o).session (opening_leaves b o) file).given ≤ 4294967297
    few_received =
        let e = ap (λ (a : Answered). length a.given) (all_told_lem b o z file) in
        omega (arith, e, few_given o (with_day (table_of b) o.today.yymmdd) file)

-- ---- what receiving a file promises

-- its answer, and the later contents of the table and of the two buffers
abbrev Promised : List ℕ → Opening → List ℕ → List ℕ → List ℕ → Received → List ℕ → List ℕ → List ℕ → Type 0
Promised b o file r p x v r' p' =
    (x ≡ record { refusal = opening_answer b o; count = length (received b o file).given })
    × ((v ≡ (received b o file).table)
    × ((r' ≡ replies_kept (capacity r p) (received b o file).given r) × (p' ≡ places_kept (capacity r p) (received b o file).given p)))

module _ (b : List ℕ) (o : Opening) (file : List ℕ) (r p : List ℕ) {a : OpenAnswer} {v : List ℕ} (m : MeetsOpen b o a v) where
  refusal_is : a.refusal ≡ opening_answer b o
  unfolding opening_gives
  refusal_is = ap (λ (x : OpenAnswer). x.refusal) m.answers

  -- a refused opening leaves all as it was
  pub refused_promise : (a.refusal ≡ 0 → ⊥) → Promised b o file r p (record { refusal = a.refusal; count = 0 }) v r p
  unfolding opening_leaves replies_from places_from
  refused_promise z =
      let n : opening_answer b o ≡ 0 → ⊥ = λ e. z (refusal_is ∙ e) in
      let k = received_none b o file n in (
        ap₂ (λ (i j : ℕ). record { refusal = i; count = j }) refusal_is (sym (ap (λ (s : Saw). length s.given) k)),
        (
          m.leaves ∙ refused_leaves (opening_answer b o) b _ n ∙ sym (ap (λ (s : Saw). s.table) k),
          (
            sym (ap (λ (s : Saw). replies_from (capacity r p) 0 s.given r) k),
            sym (ap (λ (s : Saw). places_from (capacity r p) 0 s.given p) k),
          ),
        ),
      )

  module _ (e : a.refusal ≡ 0) where
    none : opening_answer b o ≡ 0
    none = sym refusal_is ∙ e

    -- all that is told from the session and the table that a served opening hands over
    abbrev all : Saw
    all = saw_from 0 a.session v file

    all_first : all ≡ saw_from 0 (opening_gives b o).session (opening_leaves b o) file
    all_first =
        ap (λ (x : OpenAnswer). saw_from 0 x.session v file) m.answers
        ∙ ap (λ (w : List ℕ). saw_from 0 (opening_gives b o).session w file) m.leaves

    all_is : all ≡ received b o file
    all_is = all_first ∙ received_is b o file none

    few : length all.given ≤ 4294967297
    few = omega (arith, ap (λ (s : Saw). length s.given) all_first, few_received b o file none)

    pub opened_good : Good a.session v × (length (saw_from 0 a.session v file).given + 1 < 2 ^ 64)
    opened_good = (
      subst (λ (w : List ℕ). Good a.session w) (sym m.leaves)
          (subst (λ (x : OpenAnswer). Good x.session (opening_leaves b o)) (sym m.answers) (good_opened b o none)),
      omega (arith, few),
    )

    promised : {n : ℕ} {v' r' p' : List ℕ} → Adds all.given 0 r p n r' p' × (v' ≡ all.table)
        → Promised b o file r p (record { refusal = 0; count = n }) v' r' p'
    promised {n} k =
        let q : n ≡ length all.given = omega (arith, k.0.counts) in (
          ap₂ (λ (i j : ℕ). record { refusal = i; count = j }) (sym none) (q ∙ ap (λ (s : Saw). length s.given) all_is),
          (
            k.1 ∙ ap (λ (s : Saw). s.table) all_is,
            (
              k.0.keeps ∙ ap (λ (s : Saw). replies_from (capacity r p) 0 s.given r) all_is,
              k.0.fills ∙ ap (λ (s : Saw). places_from (capacity r p) 0 s.given p) all_is,
            ),
          ),
        )

    module _ {g : Going} {w r' p' : List ℕ} (k : AllRead all (length file) r p g w r' p') where
      -- a read closed the file
      pub closed_promise : g.finished ≡ true → Promised b o file r p (record { refusal = 0; count = g.count }) w r' p'
      closed_promise f = promised (so_far_done (k.closed f))

      pub end_ready : g.finished ≡ false → EndGood g.session w × (g.count + 2 < 2 ^ 64)
      end_ready f = ((k.at_end f).0, omega (arith, few, so_far_count (k.at_end f).1))

      -- or its end was signalled
      pub ended_promise : g.finished ≡ false → {n : ℕ} {u r'' p'' : List ℕ}
          → Adds (saw_end (length file) g.session w).given g.count r' p' n r'' p'' × (u ≡ (saw_end (length file) g.session w).table)
          → Promised b o file r p (record { refusal = 0; count = n }) u r'' p''
      ended_promise f {u = u} x = let l = so_far_last (k.at_end f).1 x.0 in promised (l.0, x.1 ∙ l.1)
