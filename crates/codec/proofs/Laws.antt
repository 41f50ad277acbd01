-- The laws of every layout, each by one induction over its shape.
-- Assumes nothing.
use mathlib.Core.Path.{◌≡◌, refl, sym, ap, ap₂, ◌∙◌, subst}
use mathlib.Core.Bool.{Bool, true, false}
use mathlib.Core.List.{List, [], ◌∷◌, ◌++◌, append-nil}
use mathlib.Core.Option.{none, some}
use Prim.Native.Nat.{ℕ, zero, suc, ◌+◌, ◌*◌, ◌^◌, ◌<◌, ◌≤◌}
use native.Mathlib.Nat.{mul-zero, mul-suc, mul-le-mul_left}
use native.Mathlib.Decide.{dec_lt}
use native.Mathlib.Omega.{arith}
use borrow.Author.Tests.{eqb-true, eq-eqb, ne_eqb, ltb-true, lt-ltb}
use lib.Dec.{eqb, ltb}
use lib.ListN.{length, get_or, replicate, length-append, length-replicate, drop_of_length-le, get_or-eq_default}
use Rattle.ground.specs.Choice.{both, pick}
use Rattle.ground.specs.Lists.{part, same, Each}
use Rattle.ground.proofs.Choices.{left, right, picks, skips, eq-same}
use Rattle.ground.proofs.Lists.{each, each_at, same-append, same_decided}
use Rattle.ground.proofs.Parts.{first_of, rest_of, part_length, part-zero, part-part, part-add}
use Rattle.ground.proofs.Numbers.{one_and}
use Rattle.splices.specs.Bytes.{num, bytes_of, nums, bytes_of_all, flat, splice}
use Rattle.splices.proofs.Splice.{AllBytes, bytes_part, splice-length, splice-splice}
use Rattle.splices.proofs.Splice.{splice-zero}
use Rattle.splices.proofs.Chunks.{bytes_of-length, bytes_of_bytes, bytes_of_all-length, num_bytes, bytes_num_at, bytes_of_all-nums, nums-length}
use Rattle.splices.proofs.Chunks.{get_or-nums, num-lt, nums-bytes_of_all}
use Rattle.codec.specs.Layout.{Shape, number, named, text, numbers, many, perhaps, within, ◌⊗◌, Value, width, enc, repeated, every}
use Rattle.codec.specs.Layout.{dec, ok, scalar}
use Rattle.codec.specs.Layout.{Sized, Fits, laid}

-- ---- n of a kind

pub repeated-length : {A : Type 0} (f : ℕ → A) (w n o : ℕ) → length (repeated f w n o) ≡ n
unfolding repeated
repeated-length f w zero o = refl
repeated-length f w (suc n) o = ap suc (repeated-length f w n (o + w))

-- what holds of f at each place that lies within m holds of each
each_repeated : {A : Type 0} (P : A → Type 0) (f : ℕ → A) (w m : ℕ) → ((p : ℕ) → p + w ≤ m → P (f p)) → (n o : ℕ) → o + w * n ≤ m
    → Each P (repeated f w n o)
unfolding repeated
each_repeated P f w m h zero o k = tt
each_repeated P f w m h (suc n) o k =
    let e = one_and w n in
    (h o (omega arith), each_repeated P f w m h n (o + w) (omega arith))

-- ---- the width

pub fits_sized : (s : Shape) (v : Value s) → Fits s v → Sized s v
fits_sized (number w) x h = tt
fits_sized (named n) x h = tt
fits_sized (text n) x h = h
fits_sized (numbers n w) x h = h.0
fits_sized (many n s) x h = (h.0, each (fits_sized s) x h.1)
fits_sized (perhaps s) none h = tt
fits_sized (perhaps s) (some x) h = fits_sized s x h
fits_sized (within s) x h = fits_sized s x h
fits_sized (s ⊗ t) (x, y) h = (fits_sized s x h.0, fits_sized t y h.1)

pub sized : (s : Shape) → scalar s ≡ true → (v : Value s) → Sized s v
sized (number w) h x = tt
sized (named n) h x = tt
sized (text n) h x = cc
sized (numbers n w) h x = cc
sized (many n s) h x = let z : ◌≡◌ {A = ℕ} 0 1 = cc in absurd (omega arith)
sized (perhaps s) h none = tt
sized (perhaps s) h (some x) = sized s h x
sized (within s) h x = sized s h x
sized (s ⊗ t) h (x, y) = (sized s (left (scalar s) (scalar t) h) x, sized t (right (scalar s) (scalar t) h) y)

flat_wide : {A : Type 0} (P : A → Type 0) (f : A → List ℕ) (w : ℕ) → ((x : A) → P x → length (f x) ≡ w) → (l : List A) → Each P l
    → length (flat f l) ≡ w * length l
unfolding flat
flat_wide P f w h [] e = sym (mul-zero w)
flat_wide P f w h (x ∷ l) e =
    length-append (f x) (flat f l) ∙ ap₂ ◌+◌ (h x e.0) (flat_wide P f w h l e.1) ∙ sym (one_and w (length l))

pub wide : (s : Shape) (v : Value s) → Sized s v → length (enc s v) ≡ width s
unfolding enc width
wide (number w) x h = bytes_of-length w x
wide (named n) x h = bytes_of-length 1 (n.number x)
wide (text n) x h = h
wide (numbers n w) x h = bytes_of_all-length w x ∙ ap (λ (k : ℕ). w * k) h
wide (many n s) x h = flat_wide (Sized s) (enc s) (width s) (wide s) x h.1 ∙ ap (λ (k : ℕ). width s * k) h.0
wide (perhaps s) none h = length-replicate (suc (width s)) 0
wide (perhaps s) (some x) h = omega (arith, length-append (bytes_of 1 1) (enc s x), bytes_of-length 1 1, wide s x h)
wide (within s) x h = wide s x h
wide (s ⊗ t) (x, y) h = length-append (enc s x) (enc t y) ∙ ap₂ ◌+◌ (wide s x h.0) (wide t y h.1)

-- ---- what is written is read back

zero_first : (n : ℕ) → replicate (suc n) 0 ≡ bytes_of 1 0 ++ replicate n 0
unfolding bytes_of
zero_first n = refl

one_more : (o n : ℕ) (l : List ℕ) → part o (suc n) l ≡ part o (1 + n) l
one_more o n l =
    let e : suc n ≡ 1 + n = omega arith in
    ap (λ (k : ℕ). part o k l) e

-- the byte before a value that may be there
held : num (bytes_of 1 1) ≡ 1
held = num_bytes 1 1 (omega arith)

repeated_back : {A : Type 0} (P : A → Type 0) (f : A → List ℕ) (g : ℕ → A) (w : ℕ) (l : List ℕ) → ((x : A) → P x → length (f x) ≡ w)
    → ((x : A) → P x → (o : ℕ) → part o w l ≡ f x → g o ≡ x) → (n : ℕ) (xs : List A) → length xs ≡ n → Each P xs → (o : ℕ)
    → part o (w * n) l ≡ flat f xs → repeated g w n o ≡ xs
unfolding repeated flat
repeated_back P f g w l k h zero [] m e o q = refl
repeated_back P f g w l k h zero (x ∷ xs) m e o q = absurd (omega arith)
repeated_back P f g w l k h (suc n) [] m e o q = absurd (omega arith)
repeated_back P f g w l k h (suc n) (x ∷ xs) m e o q =
    let r = ap (λ (j : ℕ). part o j l) (sym (one_and w n)) ∙ q in
    let u = first_of l (f x) (flat f xs) o w (w * n) (k x e.0) r in
    let v = rest_of l (f x) (flat f xs) o w (w * n) (k x e.0) r in
    ap₂ ◌∷◌ (h x e.0 o u) (repeated_back P f g w l k h n xs (omega arith) e.1 (o + w) v)

pub back : (s : Shape) (v : Value s) → Fits s v → (o : ℕ) (l : List ℕ) → part o (width s) l ≡ enc s v → dec s o l ≡ v
unfolding enc width dec
back (number w) x h o l e = ap num e ∙ num_bytes w x h
back (named n) x h o l e =
    let b : n.number x < 256 ^ 1 = omega (arith, n.small x, n.byte) in
    ap (λ (y : List ℕ). n.numbered (num y)) e ∙ ap n.numbered (num_bytes 1 (n.number x) b) ∙ n.there x
back (text n) x h o l e = e
back (numbers n w) x h o l e = ap (nums w n) e ∙ nums-bytes_of_all w x n (sym h.0) (each_at (λ y. y < 256 ^ w) x (λ k b. h.1 k))
back (many n s) x h o l e =
    repeated_back (Fits s) (enc s) (λ p. dec s p l) (width s) l (λ v q. wide s v (fits_sized s v q)) (λ v q p r. back s v q p l r) n x
    h.0 h.1 o e
back (perhaps s) none h o l e =
    let f = first_of l (bytes_of 1 0) (replicate (width s) 0) o 1 (width s) (bytes_of-length 1 0) (sym (one_more o (width s) l) ∙ e
    ∙ zero_first (width s)) in
    let z : num (part o 1 l) ≡ 0 = ap num f ∙ num_bytes 1 0 (omega arith) in
    skips (eqb (num (part o 1 l)) 1) (some (dec s (o + 1) l)) none (ne_eqb (num (part o 1 l)) 1 (omega arith))
back (perhaps s) (some x) h o l e =
    let k = sym (one_more o (width s) l) ∙ e in
    let f = first_of l (bytes_of 1 1) (enc s x) o 1 (width s) (bytes_of-length 1 1) k in
    let g = rest_of l (bytes_of 1 1) (enc s x) o 1 (width s) (bytes_of-length 1 1) k in
    picks (eqb (num (part o 1 l)) 1) (some (dec s (o + 1) l)) none (eq-eqb (num (part o 1 l)) 1 (ap num f ∙ held))
    ∙ ap some (back s x h (o + 1) l g)
back (within s) x h o l e = back s x h o l e
back (s ⊗ t) (x, y) h o l e =
    let n = wide s x (fits_sized s x h.0) in
    let p = back s x h.0 o l (first_of l (enc s x) (enc t y) o (width s) (width t) n e) in
    let q = back t y h.1 (o + width s) l (rest_of l (enc s x) (enc t y) o (width s) (width t) n e) in
    λ i. (p i, q i)

-- ---- what bytes say is written as just these bytes, where they pass the test

pub dec_sized : (s : Shape) (o : ℕ) (l : List ℕ) → o + width s ≤ length l → Sized s (dec s o l)
unfolding dec width pick
dec_sized (number w) o l h = tt
dec_sized (named n) o l h = tt
dec_sized (text n) o l h = part_length l o n h
dec_sized (numbers n w) o l h = nums-length w n (part o (w * n) l)
dec_sized (many n s) o l h =
    (repeated-length _ (width s) n o, each_repeated (Sized s) _ (width s) (length l) (λ p k. dec_sized s p l k) n o h)
dec_sized (perhaps s) o l h = go (eqb (num (part o 1 l)) 1) (dec_sized s (o + 1) l (omega arith))
  where
    go : (b : Bool) → Sized s (dec s (o + 1) l) → Sized (perhaps s) (pick b (some (dec s (o + 1) l)) none)
    go true k = k
    go false k = tt
dec_sized (within s) o l h = dec_sized s o l h
dec_sized (s ⊗ t) o l h = (dec_sized s o l (omega arith), dec_sized t (o + width s) l (omega arith))

module _ (l : List ℕ) (b : AllBytes l) (o : ℕ) where
  whole : (w : ℕ) → o + w ≤ length l → bytes_of w (num (part o w l)) ≡ part o w l
  whole w h = bytes_num_at w (part o w l) (part_length l o w h) (bytes_part o w l b)

every_exact : {A : Type 0} (f : A → List ℕ) (g : ℕ → A) (t : ℕ → Bool) (w : ℕ) (l : List ℕ)
    → ((p : ℕ) → p + w ≤ length l → (length (f (g p)) ≡ w) × (t p ≡ same (f (g p)) (part p w l))) → (n o : ℕ) → o + w * n ≤ length l
    → every t w n o ≡ same (flat f (repeated g w n o)) (part o (w * n) l)
unfolding every repeated flat
every_exact f g t w l h zero o k = sym (eq-same [] (part o (w * zero) l) (sym (ap (λ (j : ℕ). part o j l) (mul-zero w) ∙ part-zero l o)))
every_exact f g t w l h (suc n) o k =
    let e = one_and w n in
    let p = h o (omega arith) in
    let q = part_length l o w (omega arith) in
    ap₂ both p.1 (every_exact f g t w l h n (o + w) (omega arith))
    ∙ sym (same-append (f (g o)) (flat f (repeated g w n (o + w))) (part o w l) (part (o + w) (w * n) l) (p.0 ∙ sym q))
    ∙ ap (same (f (g o) ++ flat f (repeated g w n (o + w)))) (sym (ap (λ (j : ℕ). part o j l) e ∙ part-add l o w (w * n)))

pub exact : (s : Shape) (o : ℕ) (l : List ℕ) → AllBytes l → o + width s ≤ length l → ok s o l
    ≡ same (enc s (dec s o l)) (part o (width s) l)
unfolding enc dec ok width pick both
exact (number w) o l b h = sym (eq-same (bytes_of w (num (part o w l))) (part o w l) (whole l b o w h))
exact (named n) o l b h =
    let x = num (part o 1 l) in
    let y = n.number (n.numbered x) in
    same_decided (ltb x n.size) (bytes_of 1 y) (part o 1 l)
    (λ e. ap (bytes_of 1) (n.back x (ltb-true x n.size e)) ∙ whole l b o 1 h)
    (λ e. let k : y < 256 ^ 1 = omega (arith, n.small (n.numbered x), n.byte) in
    let q : y ≡ x = sym (num_bytes 1 y k) ∙ ap num e in
    lt-ltb x n.size (subst (λ (z : ℕ). z < n.size) q (n.small (n.numbered x))))
exact (text n) o l b h = sym (eq-same (part o n l) (part o n l) refl)
exact (numbers n w) o l b h =
    let p = part o (w * n) l in
    sym (eq-same (bytes_of_all w (nums w n p)) p (bytes_of_all-nums w n p (part_length l o (w * n) h) (bytes_part o (w * n) l b)))
exact (many n s) o l b h =
    every_exact (enc s) (λ p. dec s p l) (λ p. ok s p l) (width s) l
    (λ p k. (wide s (dec s p l) (dec_sized s p l k), exact s p l b k)) n o h
exact (perhaps s) o l b h = go (eqb (num (part o 1 l)) 1) refl (exact s (o + 1) l b (omega arith))
  where
    go : (t : Bool) → eqb (num (part o 1 l)) 1 ≡ t → ok s (o + 1) l ≡ same (enc s (dec s (o + 1) l)) (part (o + 1) (width s) l)
        → pick t (ok s (o + 1) l) (same (replicate (suc (width s)) 0) (part o (suc (width s)) l))
        ≡ same (enc (perhaps s) (pick t (some (dec s (o + 1) l)) none)) (part o (suc (width s)) l)
    go true e r =
        let f : bytes_of 1 1 ≡ part o 1 l = ap (bytes_of 1) (sym (eqb-true (num (part o 1 l)) 1 e)) ∙ whole l b o 1 (omega arith) in
        let d = enc s (dec s (o + 1) l) in
        r
        ∙ ap (λ (u : Bool). both u (same d (part (o + 1) (width s) l))) (sym (eq-same (bytes_of 1 1) (part o 1 l) f))
        ∙ sym (same-append (bytes_of 1 1) d (part o 1 l) (part (o + 1) (width s) l) (ap length f))
        ∙ ap (same (bytes_of 1 1 ++ d)) (sym (one_more o (width s) l ∙ part-add l o 1 (width s)))
    go false e r = refl
exact (within s) o l b h = exact s o l b h
exact (s ⊗ t) o l b h =
    let x = enc s (dec s o l) in
    let y = enc t (dec t (o + width s) l) in
    let k : o + width s ≤ length l = omega arith in
    let n : length x ≡ length (part o (width s) l) = wide s (dec s o l) (dec_sized s o l k) ∙ sym (part_length l o (width s) k) in
    ap₂ both (exact s o l b k) (exact t (o + width s) l b (omega arith))
    ∙ sym (same-append x y (part o (width s) l) (part (o + width s) (width t) l) n)
    ∙ ap (same (x ++ y)) (sym (part-add l o (width s) (width t)))

-- ---- fields written one after the other are the whole, written at once

pub laid_is : (s : Shape) (v : Value s) → Sized s v → (o : ℕ) (l : List ℕ) → o + width s ≤ length l → laid s o v l ≡ splice o (enc s v) l
unfolding laid enc width
laid_is (number w) x h o l k = refl
laid_is (named n) x h o l k = refl
laid_is (text n) x h o l k = refl
laid_is (numbers n w) x h o l k = refl
laid_is (many n s) x h o l k = refl
laid_is (perhaps s) x h o l k = refl
laid_is (within s) x h o l k = refl
laid_is (s ⊗ t) (x, y) h o l k =
    let m = laid s o x l in
    let e : m ≡ splice o (enc s x) l = laid_is s x h.0 o l (omega arith) in
    let n = wide s x h.0 in
    let r = wide t y h.1 in
    let q : length m ≡ length l = ap length e ∙ splice-length o (enc s x) l (omega arith) in
    laid_is t y h.1 (o + width s) m (omega arith)
    ∙ ap (splice (o + width s) (enc t y)) e
    ∙ splice-splice o (enc s x) (enc t y) l (o + width s) (omega arith) (omega arith)

-- over bytes of its width nothing else is left
pub splice_all : (s : Shape) (v : Value s) → Sized s v → (l : List ℕ) → length l ≡ width s → splice 0 (enc s v) l ≡ enc s v
splice_all s v h l e =
    let n = wide s v h in
    splice-zero (enc s v) l
    ∙ ap (λ (r : List ℕ). enc s v ++ r) (drop_of_length-le l {i = length (enc s v)} (omega arith))
    ∙ append-nil (enc s v)

-- ---- what may be there, read and tested

module _ (s : Shape) (o : ℕ) (l : List ℕ) where
  pub dec-none : (num (part o 1 l) ≡ 1 → ⊥) → dec (perhaps s) o l ≡ none
  unfolding dec
  dec-none n = skips (eqb (num (part o 1 l)) 1) (some (dec s (o + 1) l)) none (ne_eqb (num (part o 1 l)) 1 n)

  pub dec_some : num (part o 1 l) ≡ 1 → dec (perhaps s) o l ≡ some (dec s (o + 1) l)
  unfolding dec
  dec_some e = picks (eqb (num (part o 1 l)) 1) (some (dec s (o + 1) l)) none (eq-eqb (num (part o 1 l)) 1 e)

  pub ok-none : (num (part o 1 l) ≡ 1 → ⊥) → ok (perhaps s) o l ≡ same (replicate (suc (width s)) 0) (part o (suc (width s)) l)
  unfolding ok
  ok-none n = skips (eqb (num (part o 1 l)) 1) (ok s (o + 1) l) (same (replicate (suc (width s)) 0) (part o (suc (width s)) l))
      (ne_eqb (num (part o 1 l)) 1 n)

  pub ok-some : num (part o 1 l) ≡ 1 → ok (perhaps s) o l ≡ ok s (o + 1) l
  unfolding ok
  ok-some e = picks (eqb (num (part o 1 l)) 1) (ok s (o + 1) l) (same (replicate (suc (width s)) 0) (part o (suc (width s)) l))
      (eq-eqb (num (part o 1 l)) 1 e)

-- ---- what bytes say fits

numbers_fit : (w n : ℕ) (l : List ℕ) → AllBytes l → length l ≡ w * n → (k : ℕ) → get_or (nums w n l) k 0 < 256 ^ w
numbers_fit w n l b e k = go (dec_lt k n)
  where
    go : Dec (k < n) → get_or (nums w n l) k 0 < 256 ^ w
    go (yes h) =
        let m : w * k + w ≤ w * n = subst (λ (x : ℕ). x ≤ w * n) (mul-suc w k) (mul-le-mul_left w h) in
        let q = part_length l (w * k) w (omega arith) in
        rw (get_or-nums w n l k h) (subst (λ (x : ℕ). num (part (w * k) w l) < 256 ^ x) q
        (num-lt (part (w * k) w l) (bytes_part (w * k) w l b)))
    go (no h) = rw (get_or-eq_default (nums w n l) 0 {n = k} (omega (arith, nums-length w n l)))
        (omega (arith, subst (λ (x : ℕ). num (bytes_of w 0) < 256 ^ x) (bytes_of-length w 0) (num-lt (bytes_of w 0) (bytes_of_bytes w 0))))

pub dec_fits : (s : Shape) (o : ℕ) (l : List ℕ) → AllBytes l → o + width s ≤ length l → Fits s (dec s o l)
unfolding dec width pick
dec_fits (number w) o l b h = subst (λ (x : ℕ). num (part o w l) < 256 ^ x) (part_length l o w h) (num-lt (part o w l) (bytes_part o w l b))
dec_fits (named n) o l b h = tt
dec_fits (text n) o l b h = part_length l o n h
dec_fits (numbers n w) o l b h =
    (nums-length w n (part o (w * n) l), numbers_fit w n (part o (w * n) l) (bytes_part o (w * n) l b) (part_length l o (w * n) h))
dec_fits (many n s) o l b h =
    (repeated-length _ (width s) n o, each_repeated (Fits s) _ (width s) (length l) (λ p k. dec_fits s p l b k) n o h)
dec_fits (perhaps s) o l b h = go (eqb (num (part o 1 l)) 1) (dec_fits s (o + 1) l b (omega arith))
  where
    go : (t : Bool) → Fits s (dec s (o + 1) l) → Fits (perhaps s) (pick t (some (dec s (o + 1) l)) none)
    go true k = k
    go false k = tt
dec_fits (within s) o l b h = dec_fits s o l b h
dec_fits (s ⊗ t) o l b h = (dec_fits s o l b (omega arith), dec_fits t (o + width s) l b (omega arith))

-- ---- what a part of the bytes says is what the bytes say there

repeated-part : {A : Type 0} (f g : ℕ → A) (w p m : ℕ) → ((k : ℕ) → k + w ≤ m → f k ≡ g (p + k)) → (n k : ℕ) → k + w * n ≤ m
    → repeated f w n k ≡ repeated g w n (p + k)
unfolding repeated
repeated-part f g w p m h zero k q = refl
repeated-part f g w p m h (suc n) k q =
    let e = one_and w n in
    let a : p + (k + w) ≡ p + k + w = omega arith in
    ap₂ ◌∷◌ (h k (omega arith)) (repeated-part f g w p m h n (k + w) (omega arith) ∙ ap (repeated g w n) a)

pub dec-part : (s : Shape) (p m k : ℕ) (l : List ℕ) → k + width s ≤ m → dec s k (part p m l) ≡ dec s (p + k) l
unfolding dec width
dec-part (number w) p m k l h = ap num (part-part l p m k w h)
dec-part (named n) p m k l h = ap (λ (x : List ℕ). n.numbered (num x)) (part-part l p m k 1 h)
dec-part (text n) p m k l h = part-part l p m k n h
dec-part (numbers n w) p m k l h = ap (nums w n) (part-part l p m k (w * n) h)
dec-part (many n s) p m k l h =
    repeated-part (λ j. dec s j (part p m l)) (λ j. dec s j l) (width s) p m (λ j q. dec-part s p m j l q) n k h
dec-part (perhaps s) p m k l h =
    let e : p + (k + 1) ≡ p + k + 1 = omega arith in
    let a = part-part l p m k 1 (omega arith) in
    let d = dec-part s p m (k + 1) l (omega arith) ∙ ap (λ (j : ℕ). dec s j l) e in
    λ i. pick (eqb (num (a i)) 1) (some (d i)) none
dec-part (within s) p m k l h = dec-part s p m k l h
dec-part (s ⊗ t) p m k l h =
    let e : p + (k + width s) ≡ p + k + width s = omega arith in
    let a = dec-part s p m k l (omega arith) in
    let d = dec-part t p m (k + width s) l (omega arith) ∙ ap (λ (j : ℕ). dec t j l) e in
    λ i. (a i, d i)
