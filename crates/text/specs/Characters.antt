-- Characters: document 01 'Message fields' and 'Digest and checksum', document 001 table 1. A character is a byte.
-- Assumes nothing.
use Rattle.std.specs.Prelude.{ℕ, ◌-◌, Bool, List, [], ◌∷◌, ◌++◌, eqb, take, replicate}
use Rattle.ground.specs.Choice.{either, pick, between}
use Rattle.ground.specs.Lists.{all, member}

abbrev pub blank : ℕ
blank = 0x20

-- A to Z
abbrev pub capital : ℕ → Bool
capital x = between 0x41 0x5A x

-- a to z
abbrev pub small : ℕ → Bool
small x = between 0x61 0x7A x

-- 0 to 9
abbrev pub digit : ℕ → Bool
digit x = between 0x30 0x39 x

-- the marks % ( ) * + , - . / : ; < = >
abbrev pub marks : List ℕ
marks =
    0x25 ∷ 0x28 ∷ 0x29 ∷ 0x2A ∷ 0x2B ∷ 0x2C ∷ 0x2D ∷ 0x2E ∷ 0x2F ∷ 0x3A ∷ 0x3B ∷ 0x3C ∷ 0x3D ∷ 0x3E ∷ []

-- A to Z, 0 to 9, blank and the marks: what fields 1 to 16 may use
unfoldable pub field_character : ℕ → Bool
field_character x = either (capital x) (either (digit x) (either (eqb x blank) (member x marks)))

-- the internal code: a-z become A-Z; A-Z, 0-9, the blank and the marks stay; every other byte is 20 hex
unfoldable pub internal : ℕ → ℕ
internal x = pick (small x) (x - 0x20) (pick (field_character x) x blank)

-- 0 to 9 and A to F; a lower case letter is no hex digit
unfoldable pub hex_digit : ℕ → Bool
hex_digit x = either (digit x) (between 0x41 0x46 x)

-- every character is a blank
abbrev pub all_blank : List ℕ → Bool
all_blank l = all (eqb blank) l

-- a name in a field of n characters: blanks fill it, what is over is cut
unfoldable pub padded : ℕ → List ℕ → List ℕ
padded n l = take n (l ++ replicate n blank)
