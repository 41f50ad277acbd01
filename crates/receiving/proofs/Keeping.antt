-- Replies kept one after the other are kept as all of them at once: neither buffer changes its length, so the capacity stays.
-- Assumes nothing.
use Prim.Native.Nat.{ℕ, ◌+◌, ◌-◌, ◌*◌, ◌/◌, ◌<◌, ◌≤◌, ◌^◌}
use mathlib.Core.Path.{◌≡◌, refl, sym, ap, ap₂, ◌∙◌}
use mathlib.Core.List.{List, [], ◌∷◌, ◌++◌, append-nil, append_assoc}
use native.Mathlib.Omega.{arith}
use native.Mathlib.Nat.{add-zero}
use borrow.Author.Tests.{lt-ltb, le-ltb, ltb-true, ltb-false, eq-eqb, ne_eqb}
use lib.Dec.{ltb}
use lib.ListN.{length, take, drop, set, length-set, length-append}
use Rattle.ground.proofs.Choices.{picks, skips}
use Rattle.ground.proofs.Bools.{picked}
use Rattle.splices.specs.Bytes.{put}
use Rattle.splices.proofs.Splice.{put-length}
use Rattle.whole_file.specs.WholeFile.{Given}
use Rattle.law_protocol.specs.Protocol.{Saw, sooner}
use Rattle.receiving.specs.Receiving.{smaller, capacity, replies_from, places_from}
use Rattle.receiving.specs.Steps.{Adds, seen_in, over, SoFar}

-- ---- the capacity

smaller_first : (m n : ℕ) → smaller m n ≤ m
unfolding smaller
smaller_first m n = picked (λ (k : ℕ). k ≤ m) _ _ _ (λ e. omega arith) (λ e. omega (arith, ltb-false m n e))

smaller_second : (m n : ℕ) → smaller m n ≤ n
unfolding smaller
smaller_second m n = picked (λ (k : ℕ). k ≤ n) _ _ _ (λ e. omega (arith, ltb-true m n e)) (λ e. omega arith)

pub slots : (replies places : List ℕ) → capacity replies places ≤ length replies / 317
unfolding capacity
slots replies places = smaller_first _ _

pub room_for : (replies places : List ℕ) → capacity replies places ≤ length places
unfolding capacity
room_for replies places = smaller_second _ _

-- ---- lengths stay

module _ (c : ℕ) where
  replies_length : (i : ℕ) (l : List Given) (b : List ℕ) → length (replies_from c i l b) ≡ length b
  unfolding replies_from
  replies_length i [] b = refl
  replies_length i (g ∷ l) b =
      replies_length (i + 1) l _
      ∙ picked (λ (k : List ℕ). length k ≡ length b) (ltb i c) _ _ (λ e. put-length (317 * i) g.reply b) (λ e. refl)

  places_length : (i : ℕ) (l : List Given) (b : List ℕ) → length (places_from c i l b) ≡ length b
  unfolding places_from
  places_length i [] b = refl
  places_length i (g ∷ l) b =
      places_length (i + 1) l _
      ∙ picked (λ (k : List ℕ). length k ≡ length b) (ltb i c) _ _ (λ e. length-set b i g.at) (λ e. refl)

  -- ---- one list after another

  replies_append : (l m : List Given) (i : ℕ) (b : List ℕ)
      → replies_from c i (l ++ m) b ≡ replies_from c (i + length l) m (replies_from c i l b)
  unfolding replies_from
  replies_append [] m i b = ap (λ (k : ℕ). replies_from c k m b) (sym (add-zero i))
  replies_append (g ∷ l) m i b =
      let e : i + 1 + length l ≡ i + length (g ∷ l) = omega arith in
      replies_append l m (i + 1) _ ∙ ap (λ (k : ℕ). replies_from c k m (replies_from c i (g ∷ l) b)) e

  places_append : (l m : List Given) (i : ℕ) (b : List ℕ) → places_from c i (l ++ m) b ≡ places_from c (i + length l) m (places_from c i l b)
  unfolding places_from
  places_append [] m i b = ap (λ (k : ℕ). places_from c k m b) (sym (add-zero i))
  places_append (g ∷ l) m i b =
      let e : i + 1 + length l ≡ i + length (g ∷ l) = omega arith in
      places_append l m (i + 1) _ ∙ ap (λ (k : ℕ). places_from c k m (places_from c i (g ∷ l) b)) e

capacity_same : (r p r' p' : List ℕ) → length r' ≡ length r → length p' ≡ length p → capacity r' p' ≡ capacity r p
unfolding capacity
capacity_same r p r' p' e f = ap₂ (λ (m n : ℕ). smaller (m / 317) n) e f

-- ---- what replies add

pub adds_none : (n : ℕ) (r p : List ℕ) → Adds [] n r p n r p
unfolding replies_from places_from
adds_none n r p = record { counts = sym (add-zero n); keeps = refl; fills = refl }

pub adds_then : {l m : List Given} {n n' n'' : ℕ} {r p r' p' r'' p'' : List ℕ} → Adds l n r p n' r' p' → Adds m n' r' p' n'' r'' p''
    → Adds (l ++ m) n r p n'' r'' p''
adds_then {l} {m} {n} {n'} {n''} {r} {p} {r'} {p'} {r''} {p''} a b =
    let c = capacity_same r p r' p' (ap length a.keeps ∙ replies_length _ n l r) (ap length a.fills ∙ places_length _ n l p) in
    record {
      counts = omega (arith, a.counts, b.counts, length-append l m);
      keeps =
          b.keeps
          ∙ ap₂ (λ (k i : ℕ). replies_from k i m r') c a.counts
          ∙ ap (replies_from (capacity r p) (n + length l) m) a.keeps
          ∙ sym (replies_append (capacity r p) l m n r);
      fills =
          b.fills
          ∙ ap₂ (λ (k i : ℕ). places_from k i m p') c a.counts
          ∙ ap (places_from (capacity r p) (n + length l) m) a.fills
          ∙ sym (places_append (capacity r p) l m n p);
    }

-- the same, as other names for the same lists say
pub adds_as : {l m : List Given} {n n' : ℕ} {r p r' p' : List ℕ} → l ≡ m → Adds l n r p n' r' p' → Adds m n r p n' r' p'
adds_as {l} {m} {n} {n'} {r} {p} {r'} {p'} e a =
    record {
      counts = a.counts ∙ ap (λ (k : List Given). n + length k) e;
      keeps = a.keeps ∙ ap (λ (k : List Given). replies_from (capacity r p) n k r) e;
      fills = a.fills ∙ ap (λ (k : List Given). places_from (capacity r p) n k p) e;
    }

-- ---- one reply

module _ (g : Given) (n : ℕ) (r p : List ℕ) {k : ℕ} (c : k ≡ capacity r p) where
  pub past_room : k ≤ n → Adds (g ∷ []) n r p (n + 1) r p
  unfolding replies_from places_from
  past_room h =
      let l : capacity r p ≤ n = omega (arith, c) in
      record {
        counts = refl;
        keeps = sym (skips {A = List ℕ} _ _ _ (le-ltb _ _ l));
        fills = sym (skips {A = List ℕ} _ _ _ (le-ltb _ _ l));
      }

  pub in_room : n < k → {r' p' : List ℕ} → r' ≡ put (317 * n) g.reply r → p' ≡ set p n g.at → Adds (g ∷ []) n r p (n + 1) r' p'
  unfolding replies_from places_from
  in_room h e f =
      let l : n < capacity r p = omega (arith, c) in
      record {
        counts = refl;
        keeps = e ∙ sym (picks {A = List ℕ} _ _ _ (lt-ltb _ _ l));
        fills = f ∙ sym (picks {A = List ℕ} _ _ _ (lt-ltb _ _ l));
      }

-- such a reply has a slot and a place
pub in_slot : (r p : List ℕ) {k n : ℕ} → k ≡ capacity r p → n < k → (317 * n + 317 ≤ length r) × (n < length p)
in_slot r p {k} {n} e h =
    let a = slots r p in
    let b = room_for r p in
    (omega arith, omega arith)

-- the reply of a call
pub noted_none : (at n : ℕ) (room : List ℕ) (c : ℕ) (r p : List ℕ) → n ≡ 0 → Adds (seen_in at n room) c r p c r p
unfolding seen_in
noted_none at n room c r p e = adds_as (sym (picks {A = List Given} _ _ _ (eq-eqb _ 0 e))) (adds_none c r p)

pub noted_one : (at n : ℕ) (room : List ℕ) {c c' : ℕ} {r p r' p' : List ℕ} → (n ≡ 0 → ⊥)
    → Adds (record { at = at; reply = take (n - 0) (drop 0 room) } ∷ []) c r p c' r' p'
    → Adds (seen_in at n room) c r p c' r' p'
unfolding seen_in
noted_one at n room z k =
    let e : n - 0 ≡ n = omega arith in
    adds_as (ap (λ (m : ℕ). record { at = at; reply = take m room } ∷ []) e ∙ sym (skips {A = List Given} _ _ _ (ne_eqb _ 0 z))) k

-- ---- so far

pub so_far_start : (all : Saw) (r p : List ℕ) → SoFar all all r p 0 r p
unfolding sooner
so_far_start all r p = record { seen = []; split = refl; adds = adds_none 0 r p }

pub so_far_more : {all rest : Saw} {l : List Given} {r p : List ℕ} {n n' : ℕ} {r' p' r'' p'' : List ℕ}
    → SoFar all (sooner l rest) r p n r' p'
    → Adds l n r' p' n' r'' p'' → SoFar all rest r p n' r'' p''
unfolding sooner
so_far_more {all} {rest} {l} k a =
    record {
      seen = k.seen ++ l;
      split = k.split ∙ ap (λ (m : List Given). record { given = m; table = rest.table }) (sym (append_assoc k.seen l rest.given));
      adds = adds_then k.adds a;
    }

pub so_far_done : {all : Saw} {w : List ℕ} {r p : List ℕ} {n : ℕ} {r' p' : List ℕ} → SoFar all (over w) r p n r' p'
    → Adds all.given 0 r p n r' p' × (w ≡ all.table)
unfolding sooner
so_far_done k =
    (adds_as (sym (ap (λ (s : Saw). s.given) k.split ∙ append-nil k.seen)) k.adds, sym (ap (λ (s : Saw). s.table) k.split))

pub so_far_as : {all rest rest' : Saw} {r p : List ℕ} {n : ℕ} {r' p' : List ℕ} → rest ≡ rest' → SoFar all rest r p n r' p'
    → SoFar all rest' r p n r' p'
so_far_as e k = record { seen = k.seen; split = k.split ∙ ap (sooner k.seen) e; adds = k.adds }

-- what was counted, and what is to come
pub so_far_count : {all rest : Saw} {r p : List ℕ} {n : ℕ} {r' p' : List ℕ} → SoFar all rest r p n r' p'
    → n + length rest.given ≡ length all.given
unfolding sooner
so_far_count {all} {rest} {r} {p} {n} k =
    omega (arith, k.adds.counts, length-append k.seen rest.given, ap (λ (s : Saw). length s.given) k.split)

pub count_fits : {all rest : Saw} {r p : List ℕ} {n : ℕ} {r' p' : List ℕ} → SoFar all rest r p n r' p' → length all.given + 1 < 2 ^ 64
    → n + 1 < 2 ^ 64
count_fits k h = let e = so_far_count k in omega arith

-- the last calls give what was to come
pub so_far_last : {all e : Saw} {r p : List ℕ} {n n' : ℕ} {r' p' r'' p'' : List ℕ} → SoFar all e r p n r' p'
    → Adds e.given n r' p' n' r'' p''
    → Adds all.given 0 r p n' r'' p'' × (e.table ≡ all.table)
unfolding sooner
so_far_last {all} {e} k a =
    let q : e ≡ sooner e.given (over e.table) =
    ap (λ (l : List Given). record { given = l; table = e.table }) (sym (append-nil e.given)) in
    so_far_done (so_far_more (so_far_as q k) a)
