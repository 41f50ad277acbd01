-- Laws of the first elements, of those past them, and of parts: each side is cut at the same places.
-- Assumes nothing.
use mathlib.Core.Path.{◌≡◌, refl, sym, ap, ◌∙◌}
use mathlib.Core.List.{List, [], ◌∷◌, ◌++◌, append_assoc}
use mathlib.Core.Logic.{⊎_elim}
use Prim.Native.Nat.{ℕ, zero, suc, ◌+◌, ◌-◌, ◌≤◌, ◌<◌, min}
use native.Mathlib.Nat.{zero-min, min-zero, suc-min-suc, not-suc-le-zero, le_of_suc-le-suc}
use native.Mathlib.Numerals.{add-one}
use native.Mathlib.Omega.{arith}
use lib.ListN.{length, take, drop, get_or, replicate, length-append, length-take, length-drop, take-append-drop, drop_of_length-le}
use lib.Seq.{take_at, drop_at, take-nil, take_all, take-take, take-add, drop-cons, drop-drop, length-take-le}
use lib.Seq.{get_or-take, get_or-drop, ext_get_or}
use Rattle.ground.specs.Lists.{part}
use Rattle.ground.proofs.Numbers.{below}

-- ---- the first elements, and those past them

pub take_least : (m n : ℕ) (l : List ℕ) → take m (take n l) ≡ take (min m n) l
take_least zero n l = rw zero-min
take_least (suc m) zero l = rw min-zero
take_least (suc m) (suc n) [] = rw suc-min-suc
take_least (suc m) (suc n) (x ∷ l) = rw suc-min-suc (ap (λ (r : List ℕ). x ∷ r) (take_least m n l))

pub take_kept : (n : ℕ) (l : List ℕ) → take (length (take n l)) l ≡ take n l
take_kept zero l = refl
take_kept (suc n) [] = refl
take_kept (suc n) (x ∷ l) = ap (λ (r : List ℕ). x ∷ r) (take_kept n l)

-- of a list that is no longer than i, the first i are the first k
pub take_both : (l : List ℕ) (i k : ℕ) → length l ≤ i → i ≤ k → take i l ≡ take k l
take_both l i k h m = take_all i l h ∙ sym (take_all k l (omega arith))

pub take_zeros : (k n : ℕ) → k ≤ n → take {A = ℕ} k (replicate n 0) ≡ replicate k 0
take_zeros zero n h = refl
take_zeros (suc k) zero h = absurd (not-suc-le-zero h)
take_zeros (suc k) (suc n) h = ap (λ (l : List ℕ). 0 ∷ l) (take_zeros k n (le_of_suc-le-suc h))

pub kept-length : (n room : ℕ) (l : List ℕ) → length l ≡ room → length (take n l) ≡ min n room
kept-length n room l e = length-take n l ∙ ap (min n) e

pub drop-take : (m n k : ℕ) (l : List ℕ) → k ≡ m + n → drop m (take k l) ≡ take n (drop m l)
drop-take zero n k l e = let z : k ≡ n = omega arith in ap (λ (i : ℕ). take i l) z
drop-take (suc m) n zero l e = absurd (omega arith)
drop-take (suc m) n (suc k) [] e = sym (take-nil n)
drop-take (suc m) n (suc k) (x ∷ l) e = drop-take m n k l (omega arith)

pub take-drop : (a n : ℕ) (x : List ℕ) → take n (drop a x) ≡ drop a (take (a + n) x)
take-drop a n x = sym (drop-take a n (a + n) x refl)

pub drop_split : (m n : ℕ) (l : List ℕ) → m ≤ n → drop m l ≡ drop m (take n l) ++ drop n l
drop_split zero n l h = sym (take-append-drop n l)
drop_split (suc m) zero l h = absurd (not-suc-le-zero h)
drop_split (suc m) (suc n) [] h = refl
drop_split (suc m) (suc n) (x ∷ l) h = drop_split m n l (le_of_suc-le-suc h)

-- past a place, or past the end where that comes first
pub drop_least : (k n : ℕ) (l : List ℕ) → length l ≤ n → drop (min k n) l ≡ drop k l
drop_least k n l h =
    ⊎_elim (λ m. let e : min k n ≡ n = omega arith in rw e (drop_of_length-le l {i = n} h
    ∙ sym (drop_of_length-le l {i = k} (omega arith))))
    (λ m. let e : min k n ≡ k = omega arith in rw e)
    (below n k)

-- a list laid over zeros is the list and zeros after it
pub over_zeros : (v : List ℕ) (n m : ℕ) → n ≤ m → take n v ++ drop (length v) (replicate n 0) ≡ take n (v ++ replicate m 0)
over_zeros [] zero m h = refl
over_zeros (x ∷ v) zero m h = refl
over_zeros [] (suc n) m h = sym (take_zeros (suc n) m h)
over_zeros (x ∷ v) (suc n) m h = ap (λ (l : List ℕ). x ∷ l) (over_zeros v n m (omega arith))

-- what is over past `from`, of the k that are there
pub some_over : (from n k : ℕ) (l : List ℕ) → k ≡ length (take n l) → from < k → take (k - from) (drop from l) ≡ drop from (take n l)
some_over from n k l e h =
    let s : from + (k - from) ≡ k = omega arith in
    take-drop from (k - from) l ∙ ap (λ (i : ℕ). drop from (take i l)) (s ∙ e) ∙ ap (drop from) (take_kept n l)

-- ---- parts

pub part-zero : (l : List ℕ) (at : ℕ) → part at 0 l ≡ []
unfolding part
part-zero l at = refl

-- one more element at the front of a part
pub part-suc : (l : List ℕ) (at k : ℕ) → at < length l → part at (suc k) l ≡ get_or l at 0 ∷ part (at + 1) k l
unfolding part
part-suc l at k h = rw (add-one, drop-cons l at 0)

pub part_length : (l : List ℕ) (at n : ℕ) → at + n ≤ length l → length (part at n l) ≡ n
unfolding part
part_length l at n h = length-take-le n (drop at l) (simp length-drop (omega arith))

pub part_short : (l : List ℕ) (at n : ℕ) → length (part at n l) ≤ n
unfolding part
part_short l at n = rw length-take (omega arith)

pub part_all : (l : List ℕ) (n : ℕ) → length l ≤ n → part 0 n l ≡ l
unfolding part
part_all l n h = take_all n l h

pub part_start : (l : List ℕ) (n : ℕ) → part 0 n l ≡ take n l
unfolding part
part_start l n = refl

pub get_d_part : (l : List ℕ) (at n k : ℕ) → k < n → get_or (part at n l) k 0 ≡ get_or l (at + k) 0
unfolding part
get_d_part l at n k h = get_or-take n (drop at l) k 0 h ∙ get_or-drop at l k 0

-- a part of the first elements, and of a part
pub part-take : (l : List ℕ) (at n m : ℕ) → at + n ≤ m → part at n (take m l) ≡ part at n l
unfolding part
part-take l at n m h = take-drop at n (take m l) ∙ ap (drop at) (take-take (at + n) m l h) ∙ sym (take-drop at n l)

pub part-part : (l : List ℕ) (at m a n : ℕ) → a + n ≤ m → part a n (part at m l) ≡ part (at + a) n l
unfolding part
part-part l at m a n h = part-take (drop at l) a n m h ∙ ap (take n) (drop-drop a at l)

-- two parts that adjoin are one
pub part-add : (l : List ℕ) (at n m : ℕ) → part at (n + m) l ≡ part at n l ++ part (at + n) m l
unfolding part
part-add l at n m = take-add n m (drop at l) ∙ ap (λ (x : List ℕ). take n (drop at l) ++ take m x) (drop-drop n at l)

pub part_join : (x : List ℕ) (at n m : ℕ) (l : List ℕ) → x ++ part at n l ++ part (at + n) m l ≡ x ++ part at (n + m) l
part_join x at n m l =
    append_assoc x (part at n l) (part (at + n) m l) ∙ ap (λ (r : List ℕ). x ++ r) (sym (part-add l at n m))

-- a part that is two lists, one after the other, is the two parts
module _ (l a b : List ℕ) (o n m : ℕ) (e : length a ≡ n) (h : part o (n + m) l ≡ a ++ b) where
  pub first_of : part o n l ≡ a
  unfolding part
  first_of = sym (take-take n (n + m) (drop o l) (omega arith)) ∙ ap (take n) h ∙ take_at a b n e

  pub rest_of : part (o + n) m l ≡ b
  unfolding part
  rest_of =
      let k : length b ≤ m = omega (arith, part_short l o (n + m), ap length h, length-append a b) in
      sym (part-part l o (n + m) n m (omega arith)) ∙ ap (part n m) h ∙ ap (take m) (drop_at a b n e) ∙ take_all m b k

-- a part that stands between others
pub part_between : (x v y l : List ℕ) (at n : ℕ) → l ≡ x ++ (v ++ y) → length x ≡ at → length v ≡ n → part at n l ≡ v
unfolding part
part_between x v y l at n e f g =
    ap (λ (r : List ℕ). take n (drop at r)) e ∙ ap (take n) (drop_at x (v ++ y) at f) ∙ take_at v y n g

module _ (l : List ℕ) (at : ℕ) where
  pub part1 : at + 1 ≤ length l → part at 1 l ≡ get_or l at 0 ∷ []
  part1 h = part-suc l at 0 (omega arith) ∙ ap (λ (r : List ℕ). get_or l at 0 ∷ r) (part-zero l (at + 1))

-- an array that was filled with the elements from `at` on is that part
pub filled_part : (l out : List ℕ) (at n : ℕ) → at + n ≤ length l → length out ≡ n
    → ((k : ℕ) → k < n → get_or out k 0 ≡ get_or l (at + k) 0) → out ≡ part at n l
filled_part l out at n h e all =
    ext_get_or 0 out (part at n l) (e ∙ sym (part_length l at n h)) (λ k b. let c : k < n = omega arith in all k c
    ∙ sym (get_d_part l at n k c))

-- ---- from one place to another

pub reaches : (l : List ℕ) (at to : ℕ) → at ≤ to → to ≤ length l → length (take (to - at) (drop at l)) ≡ to - at
reaches l at to h k = simp (length-take, length-drop) (omega arith)

pub part_fits : (l : List ℕ) (at to : ℕ) → at < to → to ≤ length l → at + length (take (to - at) (drop at l)) ≡ to
part_fits l at to h k = let e = reaches l at to (omega arith) k in omega arith

-- what lies past the end of a list is nothing
module _ (first last : ℕ) (m : List ℕ) (h : first ≤ last) {x y a e : ℕ} (p : x ≡ first) (q : y ≡ last)
    (s : a ≡ min x (length m)) (t : e ≡ min y (length m)) where
  pub cut_ordered : a ≤ e
  cut_ordered = omega arith

  pub cut_part : take (e - a) (drop a m) ≡ part first (last - first) m
  unfolding part
  cut_part =
      ⊎_elim
      (λ l.
      let b : a ≡ first = omega arith in
      ⊎_elim (λ k. let d : e ≡ last = omega arith in rw (b, d))
      (λ k.
      let n : length (drop first m) ≡ length m - first = length-drop first m in
      rw b (take_all (e - first) (drop first m) (omega arith) ∙ sym (take_all (last - first) (drop first m) (omega arith))))
      (below last (length m)))
      (λ l.
      let z : e - a ≡ 0 = omega arith in
      rw (z, drop_of_length-le m {i = first} (omega arith), take-nil {A = ℕ} (last - first)))
      (below first (length m))
