-- A row is what its layout says, and the turns of the loops that write a number and a row.
-- Assumes nothing.
use mathlib.Core.Path.{◌≡◌, refl, sym, ap, ap₂, ◌∙◌}
use mathlib.Core.Bool.{true}
use mathlib.Core.List.{List, [], ◌∷◌, ◌++◌, append-nil, append_assoc}
use mathlib.Core.Option.{none, some}
use Prim.Native.Nat.{ℕ, zero, suc, ◌+◌, ◌-◌, ◌/◌, ◌%◌, ◌<◌, ◌≤◌}
use native.Mathlib.Nat.{zero-add}
use native.Mathlib.Numerals.{add-one}
use native.Mathlib.Omega.{arith}
use lib.ListN.{length, take, drop, get_or, set, replicate, length-append, length-replicate, length-drop, drop_of_length-le}
use lib.Seq.{drop-cons, take_all, take-suc-set}
use Rattle.ground.proofs.Choices.{left, right}
use Rattle.splices.specs.Bytes.{bytes_of, splice}
use Rattle.splices.proofs.Splice.{splice_none, splice-splice}
use Rattle.splices.proofs.Chunks.{bytes_of-length}
use Rattle.codec.specs.Layout.{Shape, number, named, text, numbers, many, perhaps, within, ◌⊗◌, Value, width, enc, scalar}
use Rattle.codec.specs.Rows.{total, fields, widths, cells}

-- ---- zeros

abbrev zeros : ℕ → List ℕ
zeros n = replicate n 0

zeros-add : (a b : ℕ) → zeros a ++ zeros b ≡ zeros (a + b)
zeros-add zero b = rw zero-add
zeros-add (suc a) b =
    let e : suc a + b ≡ suc (a + b) = omega arith in
    rw e (ap (λ (l : List ℕ). 0 ∷ l) (zeros-add a b))

bytes_zero : (w : ℕ) → bytes_of w 0 ≡ replicate w 0
unfolding bytes_of
bytes_zero zero = refl
bytes_zero (suc w) = ap (λ (l : List ℕ). 0 ∷ l) (bytes_zero w)

fields-zeros : (ws : List ℕ) → fields ws (replicate (length ws) 0) ≡ replicate (total ws) 0
unfolding fields total
fields-zeros [] = refl
fields-zeros (w ∷ ws) = ap₂ ◌++◌ (bytes_zero w) (fields-zeros ws) ∙ zeros-add w (total ws)

-- ---- a row is its layout

total-append : (a b : List ℕ) → total (a ++ b) ≡ total a + total b
unfolding total
total-append [] b = sym (zero-add (total b))
total-append (w ∷ a) b = omega (arith, total-append a b)

total-widths : (s : Shape) → scalar s ≡ true → total (widths s) ≡ width s
unfolding total widths width
total-widths (number w) h = omega arith
total-widths (named n) h = refl
total-widths (text n) h = cc
total-widths (numbers n w) h = cc
total-widths (many n s) h = cc
total-widths (perhaps s) h = omega (arith, total-widths s h)
total-widths (within s) h = total-widths s h
total-widths (s ⊗ t) h =
    total-append (widths s) (widths t)
    ∙ ap₂ ◌+◌ (total-widths s (left (scalar s) (scalar t) h)) (total-widths t (right (scalar s) (scalar t) h))

cells-length : (s : Shape) (v : Value s) → length (cells s v) ≡ length (widths s)
unfolding cells widths
cells-length (number w) x = refl
cells-length (named n) x = refl
cells-length (text n) x = refl
cells-length (numbers n w) x = refl
cells-length (many n s) x = refl
cells-length (perhaps s) none = length-replicate (suc (length (widths s))) 0
cells-length (perhaps s) (some x) = ap suc (cells-length s x)
cells-length (within s) x = cells-length s x
cells-length (s ⊗ t) (x, y) =
    length-append (cells s x) (cells t y) ∙ ap₂ ◌+◌ (cells-length s x) (cells-length t y) ∙ sym (length-append (widths s) (widths t))

fields-append : (ws vs xs ys : List ℕ) → length xs ≡ length ws → fields (ws ++ vs) (xs ++ ys) ≡ fields ws xs ++ fields vs ys
unfolding fields
fields-append [] vs [] ys e = refl
fields-append [] vs (x ∷ xs) ys e = absurd (omega arith)
fields-append (w ∷ ws) vs [] ys e = absurd (omega arith)
fields-append (w ∷ ws) vs (x ∷ xs) ys e =
    ap (λ (l : List ℕ). bytes_of w x ++ l) (fields-append ws vs xs ys (omega arith))
    ∙ sym (append_assoc (bytes_of w x) (fields ws xs) (fields vs ys))

pub row : (s : Shape) → scalar s ≡ true → (v : Value s) → fields (widths s) (cells s v) ≡ enc s v
unfolding fields widths cells enc width
row (number w) h x = append-nil (bytes_of w x)
row (named n) h x = append-nil (bytes_of 1 (n.number x))
row (text n) h x = cc
row (numbers n w) h x = cc
row (many n s) h x = cc
row (perhaps s) h none =
    ap₂ ◌++◌ (bytes_zero 1) (fields-zeros (widths s)) ∙ ap (λ (k : ℕ). 0 ∷ replicate k 0) (total-widths s h)
row (perhaps s) h (some x) = ap (λ (l : List ℕ). bytes_of 1 1 ++ l) (row s h x)
row (within s) h x = row s h x
row (s ⊗ t) h (x, y) =
    fields-append (widths s) (widths t) (cells s x) (cells t y) (cells-length s x)
    ∙ ap₂ ◌++◌ (row s (left (scalar s) (scalar t) h) x) (row t (right (scalar s) (scalar t) h) y)

-- ---- the loop that writes a number: the bytes that are written, and what is left of it

module _ (w m i : ℕ) (b : List ℕ) where
  pub number_more : i < w → i < length b → take (i + 1) (set b i (m % 256)) ++ bytes_of (w - (i + 1)) (m / 256) ≡ take i b ++ bytes_of (w - i) m
  unfolding bytes_of
  number_more h k =
      let e : w - i ≡ suc (w - (i + 1)) = omega arith in
      rw (e, add-one, take-suc-set b i (m % 256) k) (append_assoc (take i b) (m % 256 ∷ []) (bytes_of (w - suc i) (m / 256)))

  pub number_end : w ≤ i → length b ≤ i → b ≡ take i b ++ bytes_of (w - i) m
  unfolding bytes_of
  number_end h k =
      let e : w - i ≡ 0 = omega arith in
      rw e (sym (append-nil (take i b) ∙ take_all i b k))

-- ---- the loop that writes a row

pub fields-length : (ws xs : List ℕ) → length xs ≡ length ws → length (fields ws xs) ≡ total ws
unfolding fields total
fields-length [] xs e = refl
fields-length (w ∷ ws) [] e = absurd (omega arith)
fields-length (w ∷ ws) (x ∷ xs) e =
    length-append (bytes_of w x) (fields ws xs) ∙ ap₂ ◌+◌ (bytes_of-length w x) (fields-length ws xs (omega arith))

module _ (ws xs : List ℕ) (i : ℕ) (h : i < length ws) (e : length xs ≡ length ws) where
  pub total_turn : total (drop i ws) ≡ get_or ws i 0 + total (drop (i + 1) ws)
  unfolding total
  total_turn = rw (add-one, drop-cons ws i 0 h)

  fields_turn : fields (drop i ws) (drop i xs) ≡ bytes_of (get_or ws i 0) (get_or xs i 0) ++ fields (drop (i + 1) ws) (drop (i + 1) xs)
  unfolding fields
  fields_turn =
      let k : i < length xs = omega arith in
      rw (add-one, drop-cons ws i 0 h, drop-cons xs i 0 k)

  pub row_turn : (p : ℕ) (t : List ℕ) → p + total (drop i ws) ≤ length t
      → splice p (fields (drop i ws) (drop i xs)) t ≡ splice (p + get_or ws i 0) (fields (drop (i + 1) ws) (drop (i + 1) xs))
      (splice p (bytes_of (get_or ws i 0) (get_or xs i 0)) t)
  row_turn p t b =
      let n = bytes_of-length (get_or ws i 0) (get_or xs i 0) in
      let m = fields-length (drop (i + 1) ws) (drop (i + 1) xs) (simp length-drop (omega arith)) in
      ap (λ (l : List ℕ). splice p l t) fields_turn
      ∙ sym (splice-splice p (bytes_of (get_or ws i 0) (get_or xs i 0)) (fields (drop (i + 1) ws) (drop (i + 1) xs)) t (p + get_or ws i 0)
      (omega arith) (omega (arith, total_turn)))

-- nothing is left
pub row_end : (ws xs : List ℕ) (i p : ℕ) (t : List ℕ) → length ws ≤ i → t ≡ splice p (fields (drop i ws) (drop i xs)) t
unfolding fields
row_end ws xs i p t h = splice_none p t ∙ ap (λ (l : List ℕ). splice p (fields l (drop i xs)) t) (sym (drop_of_length-le ws {i = i} h))

-- what a row's loop wrote is what its layout says
pub as_row : (s : Shape) → scalar s ≡ true → (v : Value s) (ws xs : List ℕ) (o : ℕ) (t t' : List ℕ) → ws ≡ widths s → xs ≡ cells s v
    → t' ≡ splice o (fields ws xs) t → t' ≡ splice o (enc s v) t
as_row s h v ws xs o t t' e f g = g ∙ (λ i. splice o (fields (e i) (f i)) t) ∙ ap (λ (x : List ℕ). splice o x t) (row s h v)
