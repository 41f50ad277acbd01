-- A field alone is read at its offset, and written there changes just that field.
-- Assumes nothing.
use mathlib.Core.Path.{◌≡◌, sym, ap, ◌∙◌}
use mathlib.Core.List.{List, [], ◌∷◌, ◌++◌}
use Prim.Native.Nat.{ℕ, zero, suc, ◌+◌, ◌*◌, ◌<◌, ◌≤◌}
use native.Mathlib.Nat.{zero-add, mul-zero, mul-suc}
use native.Mathlib.Omega.{arith}
use lib.ListN.{length, set}
use lib.Seq.{drop_at}
use Rattle.ground.specs.Lists.{Each}
use Rattle.splices.specs.Bytes.{flat, splice}
use Rattle.splices.proofs.Splice.{splice_left, splice_right, splice-zero}
use Rattle.codec.specs.Layout.{Shape, Value, width, enc, dec, Sized}
use Rattle.codec.specs.Field.{In, here, first, later, inside, offset, get, change}
use Rattle.codec.proofs.Laws.{wide, splice_all}

-- it stands within
pub field_in : {s a : Shape} (p : In s a) → offset p + width s ≤ width a
unfolding offset width
field_in here = omega arith
field_in (first p) = omega (arith, field_in p)
field_in (later p) = omega (arith, field_in p)
field_in (inside p) = field_in p

pub field_read : {s a : Shape} (p : In s a) (o : ℕ) (l : List ℕ) → get p (dec a o l) ≡ dec s (o + offset p) l
unfolding offset dec
field_read {s} here o l =
    let e : o ≡ o + 0 = omega arith in
    ap (λ (k : ℕ). dec s k l) e
field_read (first p) o l = field_read p o l
field_read {s} (later {a} p) o l =
    let e : o + width a + offset p ≡ o + (width a + offset p) = omega arith in
    field_read p (o + width a) l ∙ ap (λ (k : ℕ). dec s k l) e
field_read (inside p) o l = field_read p o l

-- the field has its lengths
get_sized : {s a : Shape} (p : In s a) (v : Value a) → Sized a v → Sized s (get p v)
get_sized here v h = h
get_sized (first p) (x, y) h = get_sized p x h.0
get_sized (later p) (x, y) h = get_sized p y h.1
get_sized (inside p) v h = get_sized p v h

-- what is written within a field changes that field
pub write_within : {s a : Shape} (p : In s a) (k : ℕ) (w : List ℕ) (n : Value s) (v : Value a) → Sized a v → k + length w ≤ width s
    → splice k w (enc s (get p v)) ≡ enc s n → splice (offset p + k) w (enc a v) ≡ enc a (change p n v)
unfolding offset enc
write_within {s} here k w n v h m e = ap (λ (x : ℕ). splice x w (enc s v)) (zero-add k) ∙ e
write_within (first {a} {b} p) k w n (x, y) h m e =
    splice_right (offset p + k) w (enc a x) (enc b y) (omega (arith, field_in p, wide a x h.0))
    ∙ ap (λ (l : List ℕ). l ++ enc b y) (write_within p k w n x h.0 m e)
write_within (later {a} {b} p) k w n (x, y) h m e =
    splice_left (enc a x) w (enc b y) (offset p + k) (width a + offset p + k) (omega (arith, wide a x h.0))
    ∙ ap (λ (l : List ℕ). enc a x ++ l) (write_within p k w n y h.1 m e)
write_within (inside p) k w n v h m e = write_within p k w n v h m e

-- and so a field that is written whole
pub field_write : {s a : Shape} (p : In s a) (n : Value s) (v : Value a) → Sized s n → Sized a v → splice (offset p) (enc s n) (enc a v)
    ≡ enc a (change p n v)
field_write {s} {a} p n v h k =
    let e : offset p ≡ offset p + 0 = omega arith in
    ap (λ (x : ℕ). splice x (enc s n) (enc a v)) e
    ∙ write_within p 0 (enc s n) n v k (omega (arith, wide s n h))
    (splice_all s n h (enc s (get p v)) (wide s (get p v) (get_sized p v k)))

-- ---- a field of a layout with more behind it

-- what is written within the field changes it
pub within_over : {s a : Shape} (p : In s a) (k : ℕ) (w : List ℕ) (v : Value s) (x : Value a) (r : List ℕ) → Sized a x
    → k + length w ≤ width s → splice k w (enc s (get p x)) ≡ enc s v → splice (offset p + k) w (enc a x ++ r) ≡ enc a (change p v x) ++ r
within_over {s} {a} p k w v x r z m e =
    splice_right (offset p + k) w (enc a x) r (omega (arith, field_in p, wide a x z))
    ∙ ap (λ (y : List ℕ). y ++ r) (write_within p k w v x z m e)

-- and so does what is written over the whole field
pub field_over : {s a : Shape} (p : In s a) (v : Value s) (x : Value a) (r : List ℕ) → Sized s v → Sized a x
    → splice (offset p) (enc s v) (enc a x ++ r) ≡ enc a (change p v x) ++ r
field_over {s} {a} p v x r h z =
    splice_right (offset p) (enc s v) (enc a x) r (omega (arith, field_in p, wide s v h, wide a x z))
    ∙ ap (λ (y : List ℕ). y ++ r) (field_write p v x h z)

-- ---- one of n records of a kind

pub set_written : {A : Type 0} (P : A → Type 0) (f : A → List ℕ) (w : ℕ) → ((x : A) → P x → length (f x) ≡ w) → (l : List A) (i : ℕ) (x : A)
    → Each P l → P x → i < length l → splice (w * i) (f x) (flat f l) ≡ flat f (set l i x)
unfolding flat
set_written P f w h [] i x e p k = absurd (omega arith)
set_written P f w h (y ∷ l) zero x e p k =
    ap (λ (n : ℕ). splice n (f x) (f y ++ flat f l)) (mul-zero w)
    ∙ splice-zero (f x) (f y ++ flat f l)
    ∙ ap (λ (r : List ℕ). f x ++ r) (drop_at (f y) (flat f l) (length (f x)) (h y e.0 ∙ sym (h x p)))
set_written P f w h (y ∷ l) (suc i) x e p k =
    splice_left (f y) (f x) (flat f l) (w * i) (w * suc i) (omega (arith, mul-suc w i, h y e.0))
    ∙ ap (λ (r : List ℕ). f y ++ r) (set_written P f w h l i x e.1 p (omega arith))
