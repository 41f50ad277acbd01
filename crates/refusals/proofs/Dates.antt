-- The loops over the holidays: what is left of the list decides.
-- Assumes nothing.
use mathlib.Core.Path.{◌≡◌, refl, sym, ap, ◌∙◌}
use mathlib.Core.List.{List, [], ◌∷◌}
use mathlib.Core.Bool.{true, false}
use Prim.Native.Nat.{ℕ, ◌+◌, ◌≤◌, ◌<◌}
use native.Mathlib.Numerals.{add-one}
use native.Mathlib.Omega.{arith}
use lib.ListN.{length, drop, get_or, length-drop}
use lib.Seq.{drop-cons}
use Rattle.ground.specs.Choice.{both}
use Rattle.ground.proofs.Choices.{fails_left, decides}
use Rattle.calendar.specs.Dates.{earlier}
use Rattle.table.specs.Table.{rising}

cons-rising : (x y : ℕ) (l : List ℕ) → rising (x ∷ y ∷ l) ≡ both (earlier x y) (rising (y ∷ l))
unfolding rising
cons-rising x y l = refl

rising_at : (l : List ℕ) (i : ℕ) → i + 1 < length l → rising (drop i l)
    ≡ both (earlier (get_or l i 0) (get_or l (i + 1) 0)) (rising (drop (i + 1) l))
rising_at l i h =
    let e : drop i l ≡ get_or l i 0 ∷ drop (i + 1) l = rw (add-one i) (drop-cons l i 0 (omega arith)) in
    let d = drop-cons l (i + 1) 0 h in
    ap rising (e ∙ ap (λ (x : List ℕ). get_or l i 0 ∷ x) d)
    ∙ cons-rising (get_or l i 0) (get_or l (i + 1) 0) _
    ∙ ap (λ (x : List ℕ). both (earlier (get_or l i 0) (get_or l (i + 1) 0)) (rising x)) (sym d)

pub rising_stop : (l : List ℕ) (i : ℕ) → i + 1 < length l → rising l ≡ rising (drop i l) → earlier (get_or l i 0) (get_or l (i + 1) 0)
    ≡ false → false ≡ rising l
rising_stop l i h v t = sym (v ∙ rising_at l i h ∙ fails_left _ _ t)

pub rising_more : (l : List ℕ) (i : ℕ) → i + 1 < length l → rising l ≡ rising (drop i l) → earlier (get_or l i 0) (get_or l (i + 1) 0)
    ≡ true → rising l ≡ rising (drop (i + 1) l)
rising_more l i h v t = v ∙ rising_at l i h ∙ decides _ _ t

short : (l : List ℕ) → length l ≤ 1 → rising l ≡ true
unfolding rising
short [] h = refl
short (x ∷ []) h = refl
short (x ∷ y ∷ l) h = absurd (omega arith)

pub rising_done : (l : List ℕ) (i : ℕ) → length l ≤ i + 1 → rising l ≡ rising (drop i l) → true ≡ rising l
rising_done l i h v = sym (v ∙ short (drop i l) (simp length-drop (omega arith)))
