-- The tables of the code say, row by row, what the lists of codes and fields say.
-- Assumes nothing.
use Rattle.std.specs.Prelude.{Option, Some, None}
use Rattle.std.specs.List.{find}
use Rattle.std.specs.Option.{unwrap_or, option_map}
use Rattle.std.specs.Borrow.{Bor}
use mathlib.Core.Path.{◌≡◌, refl, sym, ap, ◌∙◌}
use mathlib.Core.Bool.{Bool, true, false}
use mathlib.Core.List.{List, [], ◌∷◌, ◌++◌, map}
use Prim.Native.Nat.{ℕ}
use lib.Dec.{eqb}
use Rattle.ground.specs.Choice.{pick}
use Rattle.message.specs.Layout.{Field, fields, name_in}
use Rattle.notice.specs.Codes.{Code, codes, code_in, no_code, groups, field_name}
use Rattle.notice.specs.Rows.{code_of}
use Rattle.notice.specs.declared.tables.CodeRow.{CodeRow}

-- ---- the first row with a number

-- a row by its number, with what it says
abbrev pub keyed : {A B : Type 0} → (A → ℕ) → (A → B) → List A → List (ℕ × B)
keyed {A} {B} key value l = map {A = A} {B = ℕ × B} (λ x. (key x, value x)) l

look : {B : Type 0} → B → ℕ → List (ℕ × B) → B
look none n [] = none
look none n (p ∷ l) = pick (eqb p.0 n) p.1 (look none n l)

found : {A B : Type 0} (key : A → ℕ) (value : A → B) (none : B) (n : ℕ) (l : List A)
    → unwrap_or (option_map value (find (λ x. eqb (key x) n) l)) none ≡ look none n (keyed key value l)
unfolding look pick
found key value none n [] = refl
found key value none n (x ∷ l) = go (eqb (key x) n) refl (found key value none n l)
  where
    go : (t : Bool) → eqb (key x) n ≡ t → unwrap_or (option_map value (find (λ x. eqb (key x) n) l)) none ≡ look none n (keyed key value l)
        → unwrap_or (option_map value (find (λ x. eqb (key x) n) (x ∷ l))) none ≡ pick (eqb (key x) n) (value x) (look none n (keyed key value l))
    go true e h = rw e refl
    go false e h = rw e h

-- ---- the codes

code_look : (n : ℕ) (l : List Code) → code_in n l ≡ look no_code n (keyed (λ c. c.code) (λ c. c) l)
unfolding code_in look
code_look n [] = refl
code_look n (c ∷ l) = ap (pick (eqb c.code n) c) (code_look n l)

pub row_says : (n : ℕ) (none r : CodeRow) (f : Option CodeRow) (l : List CodeRow) → r ≡ unwrap_or f none → f ≡ find (λ r. eqb r.code n) l
    → code_of none ≡ no_code → keyed (λ r. r.code) code_of l ≡ keyed (λ c. c.code) (λ c. c) codes → code_of r ≡ code_in n codes
row_says n none r f l p q z e =
    ap code_of p ∙ chosen f ∙ ap (λ o. unwrap_or (option_map code_of o) no_code) q ∙ found (λ r. r.code) code_of no_code n l
    ∙ ap (look no_code n) e ∙ sym (code_look n codes)
  where
    chosen : (o : Option CodeRow) → code_of (unwrap_or o none) ≡ unwrap_or (option_map code_of o) no_code
    chosen None = z
    chosen (Some x) = refl

-- ---- the fields

name_look : (n : ℕ) (l : List Field) → name_in n l ≡ look [] n (keyed (λ f. f.number) (λ f. f.name) l)
unfolding name_in look
name_look n [] = refl
name_look n (f ∷ l) = ap (pick (eqb f.number n) f.name) (name_look n l)

pub name_says : (n : ℕ) (f : Option (ℕ × Bor (List ℕ))) (l : List (ℕ × Bor (List ℕ))) → f ≡ find (λ r. eqb r.0 n) l
    → keyed (λ r. r.0) (λ r. r.1.now) l ≡ keyed (λ f. f.number) (λ f. f.name) (fields ++ groups)
    → unwrap_or (option_map (λ r. r.1.now) f) [] ≡ field_name n
unfolding field_name
name_says n f l q e =
    ap (λ (o : Option (ℕ × Bor (List ℕ))). unwrap_or (option_map (λ r. r.1.now) o) []) q ∙ found (λ r. r.0) (λ r. r.1.now) [] n l
    ∙ ap (look [] n) e ∙ sym (name_look n (fields ++ groups))
