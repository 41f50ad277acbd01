-- Whatever bytes are handed in, the session that they say is a value of its type whose numbers fit their bytes: a session's bytes are what
-- it is written as, so each number is read from bytes that a number was written in; and all other bytes say one that is not open.
-- Assumes nothing.
use Prim.Native.Nat.{ℕ, suc, ◌+◌, ◌^◌, ◌<◌, ◌≤◌}
use mathlib.Core.Path.{◌≡◌, refl, sym, ap, ◌∙◌, subst}
use mathlib.Core.Bool.{Bool, true, false}
use mathlib.Core.List.{List}
use mathlib.Core.Option.{none, some}
use native.Mathlib.Omega.{arith}
use lib.Dec.{eqb}
use lib.ListN.{length}
use Rattle.ground.specs.Choice.{both, pick}
use Rattle.ground.specs.Lists.{part}
use Rattle.ground.proofs.Choices.{left, right}
use Rattle.ground.proofs.Bools.{picked}
use Rattle.ground.proofs.Parts.{first_of, rest_of, part_length, part_all}
use Rattle.splices.specs.Bytes.{num, bytes_of}
use Rattle.splices.proofs.Chunks.{num-lt, bytes_of_bytes, bytes_of-length}
use Rattle.codec.specs.Layout.{Shape, number, named, text, numbers, many, perhaps, within, ◌⊗◌, width, enc, dec, Fits}
use Rattle.codec.proofs.Laws.{wide, dec_sized}
use Rattle.session.specs.Machine.{unopened}
use Rattle.session.specs.Ranges.{Encodes}
use Rattle.session.specs.Ranges as ranges
use Rattle.session.proofs.Fresh.{unopened_encodes}
use Rattle.session_bytes.specs.Session.{session_shape, session_bytes, session_of, is_session, session_in}
use Rattle.session_bytes.proofs.Fields.{fields_back, fits_session}
use Rattle.session_bytes.proofs.Laws.{said, long, exact}

-- ---- bytes that numbers were written in

below : (k n : ℕ) (x : List ℕ) → x ≡ bytes_of k n → num x < 256 ^ k
below k n x e =
    subst (λ (y : List ℕ). num y < 256 ^ k) (sym e)
    (subst (λ (j : ℕ). num (bytes_of k n) < 256 ^ j) (bytes_of-length k n) (num-lt (bytes_of k n) (bytes_of_bytes k n)))

-- ---- what is written as these bytes fits them

-- a layout with no run of numbers or records
abbrev plain : Shape → Bool
plain (number w) = true
plain (named n) = true
plain (text n) = true
plain (numbers n w) = false
plain (many n s) = false
plain (perhaps s) = plain s
plain (within s) = plain s
plain (s ⊗ t) = both (plain s) (plain t)

session_plain : plain session_shape ≡ true
unfolding both
session_plain = refl

written_fits : (s : Shape) → plain s ≡ true → (o : ℕ) (l : List ℕ) → o + width s ≤ length l → part o (width s) l ≡ enc s (dec s o l)
    → Fits s (dec s o l)
unfolding enc dec width pick
written_fits (number w) p o l h e = below w _ (part o w l) e
written_fits (named n) p o l h e = tt
written_fits (text n) p o l h e = part_length l o n h
written_fits (numbers n w) p o l h e = let z : ◌≡◌ {A = ℕ} 0 1 = cc in absurd (omega arith)
written_fits (many n s) p o l h e = let z : ◌≡◌ {A = ℕ} 0 1 = cc in absurd (omega arith)
written_fits (perhaps s) p o l h e = go (eqb (num (part o 1 l)) 1) e (written_fits s p (o + 1) l (omega arith))
  where
    go : (t : Bool) → part o (suc (width s)) l ≡ enc (perhaps s) (pick t (some (dec s (o + 1) l)) none)
        → (part (o + 1) (width s) l ≡ enc s (dec s (o + 1) l) → Fits s (dec s (o + 1) l))
        → Fits (perhaps s) (pick t (some (dec s (o + 1) l)) none)
    go true f r =
        let g : 1 + width s ≡ suc (width s) = omega arith in
        let x = enc s (dec s (o + 1) l) in
        r (rest_of l (bytes_of 1 1) x o 1 (width s) (bytes_of-length 1 1) (ap (λ (k : ℕ). part o k l) g ∙ f))
    go false f r = tt
written_fits (within s) p o l h e = written_fits s p o l h e
written_fits (s ⊗ t) p o l h e =
    let k : o + width s ≤ length l = omega arith in
    let x = dec s o l in
    let y = dec t (o + width s) l in
    let n = wide s x (dec_sized s o l k) in (
      written_fits s (left (plain s) (plain t) p) o l k (first_of l (enc s x) (enc t y) o (width s) (width t) n e),
      written_fits t (right (plain s) (plain t) p) (o + width s) l (omega arith)
          (rest_of l (enc s x) (enc t y) o (width s) (width t) n e),
    )

-- ---- any bytes

said_encodes : (b : List ℕ) → is_session b ≡ true → Encodes (session_of b)
unfolding session_of session_bytes width
said_encodes b e =
    let n = long b e in
    let v = dec session_shape 0 b in
    let f : part 0 472 b ≡ enc session_shape v = part_all b 472 (omega arith) ∙ sym (exact b e) ∙ ap session_bytes (said b e)
    ∙ ap (enc session_shape) (fields_back v) in
    fits_session v (written_fits session_shape session_plain 0 b (omega arith) f)

pub encodes_in : (b : List ℕ) → Encodes (session_in b)
unfolding session_in
encodes_in b = picked Encodes (is_session b) (session_of b) unopened (said_encodes b) (λ e. unopened_encodes)

pub fits_in : (b : List ℕ) → ranges.Fits (session_in b)
fits_in b = (encodes_in b).fits
