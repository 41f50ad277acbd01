-- There is room for every text: before a field's name, with the name, and with its contents. A text ends with what stands before the name,
-- or with what stands after it: the field's contents, nothing, or the end of 1026.
-- Assumes nothing.
use mathlib.Core.Path.{◌≡◌, refl, sym, ap, ◌∙◌, subst}
use mathlib.Core.Bool.{Bool, true, false}
use mathlib.Core.List.{List, [], ◌∷◌, ◌++◌, append_assoc, append-nil}
use mathlib.Core.Logic.{⊎_elim}
use Prim.Native.Nat.{ℕ, ◌+◌, ◌≤◌}
use native.Mathlib.Omega.{arith}
use borrow.Author.Tests.{leb-true, eqb-true}
use lib.Dec.{leb, eqb}
use lib.ListN.{length}
use Rattle.ground.specs.Choice.{both, either, fails, pick}
use Rattle.ground.proofs.Choices.{left, right, picks, skips, fails-true, either_decides, either_cases}
use Rattle.ground.proofs.Bools.{picked_each, not_failed}
use Rattle.text.specs.Letters.{letters}
use Rattle.message.specs.Layout.{Field, fields, name_in}
use Rattle.notice.specs.Codes.{Code, codes, code_in, no_code, groups, field_name, value_text, text_of}
use Rattle.notice.specs.Rows.{code_of}
use Rattle.notice.specs.declared.tables.CodeRow.{CodeRow}

-- a test of each entry, which antt computes
all_of : {A : Type 0} → (A → Bool) → List A → Bool
all_of f [] = true
all_of f (x ∷ l) = both (f x) (all_of f l)

-- a rule of every code, and of no code
code_rule : (f : Code → Bool) → f no_code ≡ true → (l : List Code) → all_of f l ≡ true → (n : ℕ) → f (code_in n l) ≡ true
unfolding code_in all_of
code_rule f p [] q n = p
code_rule f p (c ∷ l) q n =
    picked_each (λ (x : Code). f x ≡ true) (eqb c.code n) c (code_in n l) (left _ _ q) (code_rule f p l (right _ _ q) n)

name_rule : (f : List ℕ → Bool) → f [] ≡ true → (l : List Field) → all_of (λ x. f x.name) l ≡ true → (n : ℕ) → f (name_in n l) ≡ true
unfolding name_in all_of
name_rule f p [] q n = p
name_rule f p (x ∷ l) q n =
    picked_each (λ (v : List ℕ). f v ≡ true) (eqb x.number n) x.name (name_in n l) (left _ _ q) (name_rule f p l (right _ _ q) n)

pub name_length : (n : ℕ) → length (field_name n) ≤ 15
unfolding both letters all_of field_name
name_length n = leb-true _ 15 (name_rule (λ x. leb (length x) 15) refl (fields ++ groups) refl n)

-- before a name and with it, whatever field it names
pub code_room : (n : ℕ) → length (code_in n codes).before + pick (code_in n codes).names 15 0 ≤ 51
unfolding both pick letters all_of
code_room n = leb-true _ 51 (code_rule (λ c. leb (length c.before + pick c.names 15 0) 51) refl codes refl n)

-- with what it shows, and to the end
whole_room : (n : ℕ) → length (code_in n codes).before + pick (code_in n codes).names 15 0 + pick (code_in n codes).shows 18 0
    + length (code_in n codes).after ≤ 53
unfolding both pick letters all_of
whole_room n =
    leb-true _ 53
    (code_rule (λ c. leb (length c.before + pick c.names 15 0 + pick c.shows 18 0 + length c.after) 53) refl codes refl n)

-- ---- what it is put together from

-- only 1026 has a text after the field's name
plain : Code → Bool
plain c = either (eqb c.code 1026) (leb (length c.after) 0)

empty : (l : List ℕ) → leb (length l) 0 ≡ true → l ≡ []
empty [] h = refl
empty (x ∷ l) h = absurd (let p : length (x ∷ l) ≤ 0 = leb-true _ 0 h in omega arith)

plain_after : (n : ℕ) → (n ≡ 1026 → ⊥) → (c : Code) → plain c ≡ true → c.code ≡ n → c.after ≡ []
unfolding plain
plain_after n d c p e =
    ⊎_elim (λ q. absurd (d (sym e ∙ eqb-true c.code 1026 q))) (λ q. empty c.after q)
    (either_cases (eqb c.code 1026) (leb (length c.after) 0) p)

after_in : (n : ℕ) → (n ≡ 1026 → ⊥) → (l : List Code) → all_of plain l ≡ true → (code_in n l).after ≡ []
unfolding code_in pick all_of
after_in n d [] q = refl
after_in n d (c ∷ l) q = go (eqb c.code n) refl (after_in n d l (right (plain c) (all_of plain l) q))
  where
    go : (t : Bool) → eqb c.code n ≡ t → (code_in n l).after ≡ [] → (pick {A = Code} t c (code_in n l)).after ≡ []
    go true e r = plain_after n d c (left (plain c) (all_of plain l) q) (eqb-true c.code n e)
    go false e r = r

all_after : all_of plain codes ≡ true
unfolding plain both either letters all_of
all_after = refl

pub no_after : (n : ℕ) → (n ≡ 1026 → ⊥) → (code_in n codes).after ≡ []
no_after n d = after_in n d codes all_after

-- a code that names no field shows none, and has no text after it; one that shows a field's contents has no text after them
plain_text : Code → Bool
plain_text c = either c.names (both (fails c.shows) (leb (length c.after) 0))

value_last : Code → Bool
value_last c = either (fails c.shows) (leb (length c.after) 0)

-- what stands after the field's name
abbrev pub rest_of : Code → List ℕ → List ℕ
rest_of c v = pick c.shows (value_text v) [] ++ c.after

module _ (c : Code) (n v : List ℕ) where
  whole : List ℕ
  whole = c.before ++ pick c.names n [] ++ pick c.shows (value_text v) [] ++ c.after

  without : plain_text c ≡ true → c.names ≡ false → c.before ≡ whole
  unfolding plain_text whole
  without p e =
      let q : both (fails c.shows) (leb (length c.after) 0) ≡ true = sym (either_decides _ _ e) ∙ p in
      let a : c.after ≡ [] = empty c.after (right _ _ q) in
      let s : c.shows ≡ false = fails-true c.shows (left _ _ q) in
      rw (skips {A = List ℕ} c.names n [] e, skips {A = List ℕ} c.shows (value_text v) [] s, a) (simp append-nil)

  with_name : c.names ≡ true → c.before ++ n ++ rest_of c v ≡ whole
  unfolding whole
  with_name e = rw (picks {A = List ℕ} c.names n [] e) (simp append_assoc)

  with_value : value_last c ≡ true → c.shows ≡ true → value_text v ≡ rest_of c v
  unfolding value_last
  with_value p e =
      let a : c.after ≡ [] = empty c.after (sym (either_decides _ _ (not_failed _ e)) ∙ p) in
      rw (picks {A = List ℕ} c.shows (value_text v) [] e, a) (simp append-nil)

  without_value : c.shows ≡ false → c.after ≡ rest_of c v
  without_value e = ap (λ (x : List ℕ). x ++ c.after) (sym (skips c.shows (value_text v) [] e))

all_plain : (k : ℕ) → plain_text (code_in k codes) ≡ true
unfolding plain_text both either fails letters all_of
all_plain k = code_rule plain_text refl codes refl k

all_last : (k : ℕ) → value_last (code_in k codes) ≡ true
unfolding value_last both either fails letters all_of
all_last k = code_rule value_last refl codes refl k

after_1026 : (code_in 1026 codes).after ≡ letters ": SUO-SANOMA <> VAR-SANOMA"
unfolding code_in pick
after_1026 = refl

module _ (code n : ℕ) (v : List ℕ) where
  pub unnamed : (code_in code codes).names ≡ false → (code_in code codes).before ≡ text_of code n v
  unfolding text_of whole
  unnamed e = without (code_in code codes) (field_name n) v (all_plain code) e

  pub named : (code_in code codes).names ≡ true → (code_in code codes).before ++ field_name n ++ rest_of (code_in code codes) v ≡ text_of code n v
  unfolding text_of whole
  named e = with_name (code_in code codes) (field_name n) v e

  -- there is room for the name
  pub name_room : (code_in code codes).names ≡ true → length (code_in code codes).before + length (field_name n) ≤ 51
  name_room e =
      omega (arith, code_room code, picks {A = ℕ} (code_in code codes).names 15 0 e, name_length n)

module _ (code : ℕ) (v : List ℕ) where
  pub rest_value : (code_in code codes).shows ≡ true → value_text v ≡ rest_of (code_in code codes) v
  rest_value e = with_value (code_in code codes) [] v (all_last code) e

  pub rest_none : (code_in code codes).shows ≡ false → (code ≡ 1026 → ⊥) → [] ≡ rest_of (code_in code codes) v
  rest_none e d = sym (no_after code d) ∙ without_value (code_in code codes) [] v e

  pub rest_1026 : (code_in code codes).shows ≡ false → code ≡ 1026 → letters ": SUO-SANOMA <> VAR-SANOMA" ≡ rest_of (code_in code codes) v
  rest_1026 e f =
      sym (ap (λ (k : ℕ). (code_in k codes).after) f ∙ after_1026) ∙ without_value (code_in code codes) [] v e

-- ---- of the row of a code

module _ (n : ℕ) (r : CodeRow) (e : code_of r ≡ code_in n codes) where
  pub row_room : length r.before.now + pick r.names 15 0 + pick r.shows 18 0 + length r.after.now ≤ 53
  row_room =
      subst (λ (c : Code). length c.before + pick c.names 15 0 + pick c.shows 18 0 + length c.after ≤ 53) (sym e) (whole_room n)

  -- the parts put one after the other
  pub row_text : (field : ℕ) (v : List ℕ) {s0 s1 s2 s3 s4 : List ℕ} → s0 ≡ [] → s1 ≡ s0 ++ r.before.now
      → s2 ≡ s1 ++ pick r.names (field_name field) [] → s3 ≡ s2 ++ pick r.shows (value_text v) [] → s4 ≡ s3 ++ r.after.now
      → s4 ≡ text_of n field v
  unfolding text_of
  row_text field v p0 p1 p2 p3 p4 =
      rw (p4, p3, p2, p1, p0)
      (ap (λ (c : Code). c.before ++ pick c.names (field_name field) [] ++ pick c.shows (value_text v) [] ++ c.after) e)
