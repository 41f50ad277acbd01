-- What a desk holds: the keys of both kinds, how it is opened, and how a transport key is entered (document 02, R-5).
-- Assumes nothing.
use Rattle.std.specs.Prelude.{ℕ, List, [], ◌∷◌, eqb, ltb, replicate, None, Option, Some}
use Rattle.ground.specs.Choice.{either, fails, pick}
use Rattle.keys.specs.Keys.{combined, working_key0}
use Rattle.customer.specs.Settings.{sound_who}
use Rattle.refusals.specs.Refusals.{Refusal, refusal, lowest, even_part, check_differs, not_next}
use Rattle.desk.specs.declared.Keys.{Keys}
use Rattle.desk.specs.declared.Held.{Held}
use Rattle.desk.specs.declared.Parts.{Parts}
use Rattle.desk.specs.declared.Given.{Given}
use Rattle.desk.specs.declared.Numbered.{Numbered}

-- ---- keys, which have no days on this side

unfoldable pub before_named : Option Numbered → (generation : ℕ) → Option ℕ
before_named None g = None
before_named (Some k) g = pick (eqb k.generation g) (Some k.key) None

-- the key of that generation, if the desk holds it
unfoldable pub key_named : Keys → (generation : ℕ) → Option ℕ
key_named k g = pick (eqb k.generation g) (Some k.key) (before_named k.before g)

-- a new key is current, and the one that was current is the one before it
unfoldable pub replaced : Keys → (generation key : ℕ) → Keys
replaced k g x =
    record {
      generation = g;
      key = x;
      before = Some (record { generation = k.generation; key = k.key });
    }

-- ---- a desk is opened from the two key parts, with working key 0 derived

unfoldable pub opening_refusals : (own bank : List ℕ) → Parts → List Refusal
opening_refusals own bank p =
    refusal 8 (even_part p.part1 p.part2) ∷
    refusal 9 (check_differs p.part1 p.part2 p.check) ∷
    refusal 11 (either (fails (sound_who own)) (either (fails (sound_who bank)) (ltb 9 p.generation))) ∷ []

unfoldable pub opened_desk : (own bank : List ℕ) → Parts → Held
opened_desk own bank p =
    let key : ℕ = combined p.part1 p.part2 in
    record {
      own = own;
      bank = bank;
      transport = record { generation = p.generation; key = key; before = None };
      working = record { generation = 0; key = working_key0 key; before = None };
    }

-- where a desk can't be opened there is none: all zeros
unfoldable pub no_desk : Held
no_desk =
    record {
      own = replicate 25 0;
      bank = replicate 25 0;
      transport = record { generation = 0; key = 0; before = None };
      working = record { generation = 0; key = 0; before = None };
    }

unfoldable pub given_by : (refused : ℕ) (served refusing : Held) → Given
given_by n x y = record { refusal = n; held = pick (eqb n 0) x y }

unfoldable pub opening : (own bank : List ℕ) → Parts → Given
opening own bank p = given_by (lowest (opening_refusals own bank p)) (opened_desk own bank p) no_desk

-- ---- the next transport key is entered; the working keys stay as they are

unfoldable pub entering_refusals : Held → Parts → List Refusal
entering_refusals h p =
    refusal 8 (even_part p.part1 p.part2) ∷
    refusal 9 (check_differs p.part1 p.part2 p.check) ∷
    refusal 10 (not_next h.transport.generation p.generation) ∷ []

unfoldable pub entered_desk : Held → Parts → Held
entered_desk h p =
    record {
      own = h.own;
      bank = h.bank;
      transport = replaced h.transport p.generation (combined p.part1 p.part2);
      working = h.working;
    }

unfoldable pub entering : Held → Parts → Given
entering h p = given_by (lowest (entering_refusals h p)) (entered_desk h p) h
