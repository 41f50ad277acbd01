-- A layout as data: fields one after the other, every number lowest byte first. Its width, what a value is written as, what bytes say,
-- and whether they are just what the value they say is written as.
-- Assumes nothing.
use Rattle.std.specs.Prelude.{◌≡◌, Bool, true, false, List, [], ◌∷◌, ◌++◌, ℕ, zero, suc, ◌+◌, ◌*◌, ◌^◌, ◌<◌, ◌≤◌, eqb, ltb, length, get_or, replicate}
use Rattle.std.proofs.Math.Option.{Option, none, some}
use Rattle.ground.specs.Choice.{both, pick}
use Rattle.ground.specs.Lists.{part, same, Each}
use Rattle.splices.specs.Bytes.{num, bytes_of, nums, bytes_of_all, flat, splice}

infixr 6 ◌⊗◌
-- a type whose values are numbered from 0 on
pub record Named (A : Type 0) : Type 0 where
  pub size : ℕ
  pub number : A → ℕ
  pub numbered : ℕ → A
  pub byte : size ≤ 256
  pub small : (a : A) → number a < size
  pub there : (a : A) → numbered (number a) ≡ a
  pub back : (x : ℕ) → x < size → number (numbered x) ≡ x

-- a number of w bytes; a name in one byte; n bytes; n numbers of w bytes each; n records of one layout; a byte 1 and a value, or as many
-- zeros; a record within a record; one after the other
pub data Shape : Type 1 where
  number : ℕ → Shape
  named : {A : Type 0} → Named A → Shape
  text : ℕ → Shape
  numbers : ℕ → ℕ → Shape
  many : ℕ → Shape → Shape
  perhaps : Shape → Shape
  within : Shape → Shape
  ◌⊗◌ : Shape → Shape → Shape

abbrev pub Value : Shape → Type 0
Value (number w) = ℕ
Value (named {A} n) = A
Value (text n) = List ℕ
Value (numbers n w) = List ℕ
Value (many n s) = List (Value s)
Value (perhaps s) = Option (Value s)
Value (within s) = Value s
Value (s ⊗ t) = Value s × Value t

unfoldable pub width : Shape → ℕ
width (number w) = w
width (named n) = 1
width (text n) = n
width (numbers n w) = w * n
width (many n s) = width s * n
width (perhaps s) = suc (width s)
width (within s) = width s
width (s ⊗ t) = width s + width t

-- what a value is written as
unfoldable pub enc : (s : Shape) → Value s → List ℕ
enc (number w) x = bytes_of w x
enc (named n) x = bytes_of 1 (n.number x)
enc (text n) x = x
enc (numbers n w) x = bytes_of_all w x
enc (many n s) x = flat (enc s) x
enc (perhaps s) none = replicate (suc (width s)) 0
enc (perhaps s) (some x) = bytes_of 1 1 ++ enc s x
enc (within s) x = enc s x
enc (s ⊗ t) (x, y) = enc s x ++ enc t y

-- what f says of n places that are w apart, from o on; and whether each passes a test
unfoldable pub repeated : {A : Type 0} → (ℕ → A) → (width n at : ℕ) → List A
repeated f w zero o = []
repeated f w (suc n) o = f o ∷ repeated f w n (o + w)

unfoldable pub every : (ℕ → Bool) → (width n at : ℕ) → Bool
every f w zero o = true
every f w (suc n) o = both (f o) (every f w n (o + w))

-- what the bytes from o on say
unfoldable pub dec : (s : Shape) → ℕ → List ℕ → Value s
dec (number w) o l = num (part o w l)
dec (named n) o l = n.numbered (num (part o 1 l))
dec (text n) o l = part o n l
dec (numbers n w) o l = nums w n (part o (w * n) l)
dec (many n s) o l = repeated (λ p. dec s p l) (width s) n o
dec (perhaps s) o l = pick (eqb (num (part o 1 l)) 1) (some (dec s (o + 1) l)) none
dec (within s) o l = dec s o l
dec (s ⊗ t) o l = (dec s o l, dec t (o + width s) l)

-- whether the bytes from o on are just what the value they say is written as
unfoldable pub ok : Shape → ℕ → List ℕ → Bool
ok (number w) o l = true
ok (named n) o l = ltb (num (part o 1 l)) n.size
ok (text n) o l = true
ok (numbers n w) o l = true
ok (many n s) o l = every (λ p. ok s p l) (width s) n o
ok (perhaps s) o l = pick (eqb (num (part o 1 l)) 1) (ok s (o + 1) l) (same (replicate (suc (width s)) 0) (part o (suc (width s)) l))
ok (within s) o l = ok s o l
ok (s ⊗ t) o l = both (ok s o l) (ok t (o + width s) l)

-- arrays have their lengths
abbrev pub Sized : (s : Shape) → Value s → Type 0
Sized (number w) x = Unit {0}
Sized (named n) x = Unit {0}
Sized (text n) x = length x ≡ n
Sized (numbers n w) x = length x ≡ n
Sized (many n s) x = (length x ≡ n) × Each (Sized s) x
Sized (perhaps s) none = Unit {0}
Sized (perhaps s) (some x) = Sized s x
Sized (within s) x = Sized s x
Sized (s ⊗ t) (x, y) = Sized s x × Sized t y

-- there is no array, so that every value has its lengths
abbrev pub scalar : Shape → Bool
scalar (number w) = true
scalar (named n) = true
scalar (text n) = false
scalar (numbers n w) = false
scalar (many n s) = false
scalar (perhaps s) = scalar s
scalar (within s) = scalar s
scalar (s ⊗ t) = both (scalar s) (scalar t)

-- and numbers fit their bytes: what is written is then read back
abbrev pub Fits : (s : Shape) → Value s → Type 0
Fits (number w) x = x < 256 ^ w
Fits (named n) x = Unit {0}
Fits (text n) x = length x ≡ n
Fits (numbers n w) x = (length x ≡ n) × ((k : ℕ) → get_or x k 0 < 256 ^ w)
Fits (many n s) x = (length x ≡ n) × Each (Fits s) x
Fits (perhaps s) none = Unit {0}
Fits (perhaps s) (some x) = Fits s x
Fits (within s) x = Fits s x
Fits (s ⊗ t) (x, y) = Fits s x × Fits t y

-- bytes with the fields written over them one after the other, from o on
unfoldable pub laid : (s : Shape) → ℕ → Value s → List ℕ → List ℕ
laid (number w) o x l = splice o (bytes_of w x) l
laid (named n) o x l = splice o (bytes_of 1 (n.number x)) l
laid (text n) o x l = splice o x l
laid (numbers n w) o x l = splice o (bytes_of_all w x) l
laid (many n s) o x l = splice o (flat (enc s) x) l
laid (perhaps s) o x l = splice o (enc (perhaps s) x) l
laid (within s) o x l = splice o (enc s x) l
laid (s ⊗ t) o (x, y) l = laid t (o + width s) y (laid s o x l)
