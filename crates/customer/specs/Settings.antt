-- Names, and a bank's settings (document 01, 'Covered' and 'Call refusals').
-- Assumes nothing.
use Rattle.std.specs.Prelude.{ℕ, Bool, List, eqb, take}
use Rattle.ground.specs.Choice.{both, either, fails}
use Rattle.ground.specs.Lists.{all}
use Rattle.text.specs.Characters.{field_character, all_blank}
use Rattle.customer.specs.declared.Settings.{Settings}

-- names use the field characters and aren't all blank
unfoldable pub sound_name : List ℕ → Bool
sound_name l = both (all field_character l) (fails (all_blank l))

-- an identity of 17 is a name; a qualifier of 8 uses the field characters and may be blank
unfoldable pub sound_who : List ℕ → Bool
sound_who l = both (all field_character l) (fails (all_blank (take 17 l)))

-- the version floor is 110 or 120; the key maker holds any two keys
unfoldable pub sound_settings : Settings → Bool
sound_settings s =
    both (sound_who s.bank) (both (sound_name s.software) (either (eqb s.floor 110) (eqb s.floor 120)))
