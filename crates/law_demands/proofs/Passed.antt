-- What a message tells is not changed by blanks in its rest, so each record says the same, and what is under way differs in blanks alone.
-- Assumes nothing.
use Prim.Native.Nat.{ℕ}
use Prim.Native.String.{String}
use mathlib.Core.Path.{◌≡◌, refl, sym, ap, subst, ◌∙◌}
use mathlib.Core.Bool.{Bool, true, false}
use mathlib.Core.List.{List, [], ◌∷◌, ◌++◌}
use lib.ListN.{take}
use Rattle.ground.specs.Choice.{both, pick}
use Rattle.ground.specs.Lists.{same}
use Rattle.ground.proofs.Choices.{join, right, fails_left, fails_right, picks, skips, same-eq}
use Rattle.ground.proofs.Bools.{clash}
use Rattle.text.specs.Letters.{letters}
use Rattle.message.specs.Layout.{field, no_field}
use Rattle.message.specs.declared.Collected.{Collected}
use Rattle.message.specs.declared.Extent.TheVariants.{Whole, CutShort}
use Rattle.message.specs.declared.Kind.{Kind}
use Rattle.message.specs.declared.Kind.TheVariants.{Esi, Suo, Var}
use Rattle.opening.specs.declared.Opening.{Opening}
use Rattle.whole_file.specs.Records.{Item, line, past_size}
use Rattle.whole_file.specs.Messages.{begins, extent_of, is_whole, wants_more, collected_as}
use Rattle.whole_file.specs.WholeFile.{Opened, Situation, before_esi, collecting_esi, outside, collecting_suo, in_frame, collecting_var, closed}
use Rattle.whole_file.specs.WholeFile.{Standing, Step, moved, silent, replies, esi_says, pte_says, after_esi, esi_ends, suo_ends, var_ends}
use Rattle.whole_file.specs.WholeFile.{esi_goes_on, suo_goes_on, var_goes_on, esi_starts, suo_starts, var_starts}
use Rattle.whole_file.specs.WholeFile.{first_record, outside_record, with_record, frame_record, record_in, past_in, end_in}
use Rattle.whole_file.specs.WholeFile.{Told, given_at, sooner, told_of, at_start}
use Rattle.law_demands.specs.Rest.{rest_blanked, start_blanked, on_blanked, record_blanked, items_blanked}
use Rattle.law_demands.specs.Demands.{RestUnseen}
use Rattle.law_demands.proofs.Blanked.{blanked_begins, blanked_extent, blanked_wants, blanked_collected, whole_on, blanked_on}

-- ---- what is under way, with blanks in its rest

blanked_in : Situation → Situation
blanked_in before_esi = before_esi
blanked_in (collecting_esi sofar) = collecting_esi (rest_blanked Esi sofar)
blanked_in (outside told) = outside told
blanked_in (collecting_suo sofar) = collecting_suo (rest_blanked Suo sofar)
blanked_in (in_frame f) = in_frame f
blanked_in (collecting_var sofar f) = collecting_var (rest_blanked Var sofar) f
blanked_in closed = closed

blanked_at : Standing → Standing
blanked_at s = moved s (blanked_in s.situation)

blanked_step : Step → Step
blanked_step x = record { says = x.says; after = blanked_at x.after }

-- a message under way is collected whole
abbrev Collects : Situation → Type 0
Collects before_esi = Unit {0}
Collects (collecting_esi sofar) = is_whole (extent_of Esi sofar) ≡ true
Collects (outside told) = Unit {0}
Collects (collecting_suo sofar) = is_whole (extent_of Suo sofar) ≡ true
Collects (in_frame f) = Unit {0}
Collects (collecting_var sofar f) = is_whole (extent_of Var sofar) ≡ true
Collects closed = Unit {0}

-- y says what x does, and leaves the same but for blanks
record Passes (x y : Step) : Type 0 where
  is : y ≡ blanked_step x
  whole : Collects x.after.situation

-- no message is under way
still : (x : Step) → blanked_in x.after.situation ≡ x.after.situation → Collects x.after.situation → Passes x x
unfolding blanked_step blanked_at moved
still x e c = record { is = ap {B = Step} (λ (z : Situation). record { says = x.says; after = moved x.after z }) (sym e); whole = c }

-- choices by the same test
alike : (t u : Bool) (a b c d : Step) → u ≡ t → (t ≡ true → Passes a c) → (t ≡ false → Passes b d) → Passes (pick t a b) (pick u c d)
unfolding pick
alike true u a b c d e p q = subst (Passes a) (sym (picks u c d e)) (p refl)
alike false u a b c d e p q = subst (Passes b) (sym (skips u c d e)) (q refl)

-- ---- a record that may begin a message

module _ (tag : String) (kind : Kind) (chars : List ℕ) where
  start_whole : begins tag chars ≡ true → is_whole (extent_of kind chars) ≡ true → start_blanked tag kind chars ≡ rest_blanked kind chars
  unfolding start_blanked
  start_whole b w = picks _ _ _ (join _ _ b w)

  start_faulty : is_whole (extent_of kind chars) ≡ false → start_blanked tag kind chars ≡ chars
  unfolding start_blanked
  start_faulty w = skips _ _ _ (fails_right _ _ w)

  start_other : begins tag chars ≡ false → start_blanked tag kind chars ≡ chars
  unfolding start_blanked
  start_other b = skips _ _ _ (fails_left _ _ b)

  start_begins : (s : String) → begins s (start_blanked tag kind chars) ≡ begins s chars
  unfolding start_blanked
  start_begins s = go (both (begins tag chars) (is_whole (extent_of kind chars))) refl
    where
      go : (t : Bool) → both (begins tag chars) (is_whole (extent_of kind chars)) ≡ t
          → begins s (start_blanked tag kind chars) ≡ begins s chars
      go true e = ap (begins s) (picks _ _ _ e) ∙ blanked_begins kind chars (right _ _ e) s
      go false e = ap (begins s) (skips _ _ _ e)

-- ---- a message of any kind: where it stands while it is collected, and what its end gives

module _ (kind : Kind) (way : List ℕ → Situation) (ends : Collected → Step) (s : Standing)
    (is : (l : List ℕ) → blanked_in (way l) ≡ way (rest_blanked kind l))
    (c : (l : List ℕ) → is_whole (extent_of kind l) ≡ true → Collects (way l))
    (e : (m : Collected) → Passes (ends m) (ends m)) where
  abbrev goes_on : List ℕ → Step
  goes_on l = pick (wants_more l) (silent (moved s (way l))) (ends (collected_as kind Whole l))

  abbrev starts : List ℕ → Step
  starts l = pick (is_whole (extent_of kind l)) (goes_on l) (ends (collected_as kind (extent_of kind l) l))

  goes : (l : List ℕ) → is_whole (extent_of kind l) ≡ true → Passes (goes_on l) (goes_on (rest_blanked kind l))
  unfolding blanked_step blanked_at moved silent
  goes l w =
      alike (wants_more l) (wants_more (rest_blanked kind l)) _ _ _ _ (blanked_wants kind l w)
      (λ t. record { is = ap (λ (z : Situation). silent (moved s z)) (sym (is l)); whole = c l w })
      (λ t.
      subst (λ (m : Collected). Passes (ends (collected_as kind Whole l)) (ends m)) (sym (blanked_collected kind l w Whole))
      (e (collected_as kind Whole l)))

  on : (sofar chars : List ℕ) → is_whole (extent_of kind sofar) ≡ true
      → Passes (goes_on (sofar ++ chars)) (goes_on (rest_blanked kind sofar ++ on_blanked kind sofar chars))
  on sofar chars w =
      subst (λ (l : List ℕ). Passes (goes_on (sofar ++ chars)) (goes_on l)) (sym (blanked_on kind sofar chars w))
      (goes (sofar ++ chars) (whole_on kind sofar w chars))

  begun : (tag : String) (chars : List ℕ) → begins tag chars ≡ true → Passes (starts chars) (starts (start_blanked tag kind chars))
  begun tag chars b = go (is_whole (extent_of kind chars)) refl
    where
      go : (t : Bool) → is_whole (extent_of kind chars) ≡ t → Passes (starts chars) (starts (start_blanked tag kind chars))
      go true w =
          subst (λ (l : List ℕ). Passes (starts chars) (starts l)) (sym (start_whole tag kind chars b w))
          (alike (is_whole (extent_of kind chars)) (is_whole (extent_of kind (rest_blanked kind chars))) _ _ _ _
          (ap is_whole (blanked_extent kind chars w kind)) (λ t. goes chars w) (λ f. absurd (clash _ w f)))
      go false w =
          subst (λ (l : List ℕ). Passes (starts chars) (starts l)) (sym (start_faulty tag kind chars w))
          (alike (is_whole (extent_of kind chars)) (is_whole (extent_of kind chars)) _ _ _ _ refl (λ t. absurd (clash _ t w))
          (λ f. e (collected_as kind (extent_of kind chars) chars)))

  cut : (sofar : List ℕ) → is_whole (extent_of kind sofar) ≡ true
      → Passes (ends (collected_as kind CutShort sofar)) (ends (collected_as kind CutShort (rest_blanked kind sofar)))
  cut sofar w =
      subst (λ (m : Collected). Passes (ends (collected_as kind CutShort sofar)) (ends m)) (sym (blanked_collected kind sofar w CutShort))
      (e (collected_as kind CutShort sofar))

-- ---- the three kinds

after_esi_lem : (t : Bool) → blanked_in (after_esi t) ≡ after_esi t
unfolding blanked_in after_esi
after_esi_lem true = refl
after_esi_lem false = refl

after_whole : (t : Bool) → Collects (after_esi t)
unfolding after_esi
after_whole true = tt
after_whole false = tt

suo_ends_lem : (s : Standing) (m : Collected) → Passes (suo_ends s m) (suo_ends s m)
unfolding suo_ends silent moved blanked_in
suo_ends_lem s m = still (suo_ends s m) refl tt

module _ (o : Opening) (s : Standing) where
  esi_ends_lem : (m : Collected) → Passes (esi_ends o s m) (esi_ends o s m)
  unfolding esi_ends replies
  esi_ends_lem m = still (esi_ends o s m) (after_esi_lem _) (after_whole _)

  var_ends_lem : (f : Opened) (m : Collected) → Passes (var_ends o s f m) (var_ends o s f m)
  unfolding var_ends replies blanked_in
  var_ends_lem f m = still (var_ends o s f m) refl tt

  pte_closes : (code : ℕ) → Passes (pte_says o s code (moved s closed)) (pte_says o s code (moved s closed))
  unfolding pte_says replies moved blanked_in
  pte_closes code = still (pte_says o s code (moved s closed)) refl tt

  esi_closes : (code n : ℕ) (chars : List ℕ)
      → Passes (esi_says o s code n chars (moved s closed)) (esi_says o s code n chars (moved s closed))
  unfolding esi_says replies moved blanked_in
  esi_closes code n chars = still (esi_says o s code n chars (moved s closed)) refl tt

-- an ESI
module _ (o : Opening) (s : Standing) where
  esi_on_lem : (x y : Situation) (sofar chars : List ℕ) → is_whole (extent_of Esi sofar) ≡ true
      → Passes (esi_goes_on o (moved s x) (sofar ++ chars)) (esi_goes_on o (moved s y) (rest_blanked Esi sofar ++ on_blanked Esi sofar chars))
  unfolding esi_goes_on esi_ends moved blanked_in
  esi_on_lem x y = on Esi collecting_esi (esi_ends o s) s (λ l. refl) (λ l w. w) (esi_ends_lem o s)

  esi_begun : (chars : List ℕ) → begins ">>ESI" chars ≡ true → Passes (esi_starts o s chars) (esi_starts o s (start_blanked ">>ESI" Esi chars))
  unfolding esi_starts esi_goes_on blanked_in
  esi_begun = begun Esi collecting_esi (esi_ends o s) s (λ l. refl) (λ l w. w) (esi_ends_lem o s) ">>ESI"

  esi_cut : (x y : Situation) (sofar : List ℕ) → is_whole (extent_of Esi sofar) ≡ true
      → Passes (esi_ends o (moved s x) (collected_as Esi CutShort sofar))
      (esi_ends o (moved s y) (collected_as Esi CutShort (rest_blanked Esi sofar)))
  unfolding esi_ends moved blanked_in
  esi_cut x y = cut Esi collecting_esi (esi_ends o s) s (λ l. refl) (λ l w. w) (esi_ends_lem o s)

-- a SUO
module _ (s : Standing) where
  suo_on_lem : (x y : Situation) (sofar chars : List ℕ) → is_whole (extent_of Suo sofar) ≡ true
      → Passes (suo_goes_on (moved s x) (sofar ++ chars)) (suo_goes_on (moved s y) (rest_blanked Suo sofar ++ on_blanked Suo sofar chars))
  unfolding suo_goes_on suo_ends moved blanked_in
  suo_on_lem x y = on Suo collecting_suo (suo_ends s) s (λ l. refl) (λ l w. w) (suo_ends_lem s)

  suo_begun : (chars : List ℕ) → begins ">>SUO" chars ≡ true → Passes (suo_starts s chars) (suo_starts s (start_blanked ">>SUO" Suo chars))
  unfolding suo_starts suo_goes_on blanked_in
  suo_begun = begun Suo collecting_suo (suo_ends s) s (λ l. refl) (λ l w. w) (suo_ends_lem s) ">>SUO"

-- a VAR
module _ (o : Opening) (s : Standing) (f : Opened) where
  var_on_lem : (x y : Situation) (sofar chars : List ℕ) → is_whole (extent_of Var sofar) ≡ true
      → Passes (var_goes_on o (moved s x) f (sofar ++ chars)) (var_goes_on o (moved s y) f (rest_blanked Var sofar ++ on_blanked Var sofar chars))
  unfolding var_goes_on var_ends moved blanked_in
  var_on_lem x y = on Var (λ l. collecting_var l f) (var_ends o s f) s (λ l. refl) (λ l w. w) (var_ends_lem o s f)

  var_begun : (chars : List ℕ) → begins ">>VAR" chars ≡ true
      → Passes (var_starts o s f chars) (var_starts o s f (start_blanked ">>VAR" Var chars))
  unfolding var_starts var_goes_on blanked_in
  var_begun = begun Var (λ l. collecting_var l f) (var_ends o s f) s (λ l. refl) (λ l w. w) (var_ends_lem o s f) ">>VAR"

  var_cut : (x y : Situation) (sofar : List ℕ) → is_whole (extent_of Var sofar) ≡ true
      → Passes (var_ends o (moved s x) f (collected_as Var CutShort sofar))
      (var_ends o (moved s y) f (collected_as Var CutShort (rest_blanked Var sofar)))
  unfolding var_ends moved blanked_in
  var_cut x y = cut Var (λ l. collecting_var l f) (var_ends o s f) s (λ l. refl) (λ l w. w) (var_ends_lem o s f)

-- ---- records outside a message

var_no_suo : (chars : List ℕ) → begins ">>VAR" chars ≡ true → begins ">>SUO" chars ≡ false
unfolding begins same both letters
var_no_suo chars e = ap (λ (l : List ℕ). same l (letters ">>SUO")) (same-eq (take 5 chars) (letters ">>VAR") e)

module _ (o : Opening) (s : Standing) where
  first_passes : (chars : List ℕ) → Passes (first_record o s chars) (first_record o s (start_blanked ">>ESI" Esi chars))
  unfolding first_record
  first_passes chars =
      alike (begins ">>ESI" chars) (begins ">>ESI" (start_blanked ">>ESI" Esi chars)) _ _ _ _ (start_begins ">>ESI" Esi chars ">>ESI")
      (esi_begun o s chars)
      (λ b.
      subst (λ (l : List ℕ). Passes (esi_says o s 1010 (field 1) chars (moved s closed)) (esi_says o s 1010 (field 1) l (moved s closed)))
      (sym (start_other ">>ESI" Esi chars b)) (esi_closes o s 1010 (field 1) chars))

  -- a record that begins no SUO
  abbrev other : Bool → List ℕ → Step
  other told chars =
      pick (begins ">>ESI" chars) (esi_says o s 1011 (field 1) chars (moved s closed))
      (pick told (silent s) (pte_says o s 1023 (moved s (outside true))))

  other_passes : (told : Bool) (chars : List ℕ) → s.situation ≡ outside told → Passes (other told chars) (other told chars)
  unfolding silent pte_says replies moved blanked_in
  other_passes told chars e =
      alike (begins ">>ESI" chars) (begins ">>ESI" chars) _ _ _ _ refl (λ b. esi_closes o s 1011 (field 1) chars)
      (λ b.
      alike told told _ _ _ _ refl
      (λ t. still (silent s) (ap blanked_in e ∙ sym e) (subst Collects (sym e) tt))
      (λ t. still (pte_says o s 1023 (moved s (outside true))) refl tt))

  outside_passes : (told : Bool) (chars : List ℕ) → s.situation ≡ outside told
      → Passes (outside_record o s told chars) (outside_record o s told (start_blanked ">>SUO" Suo chars))
  unfolding outside_record
  outside_passes told chars e =
      alike (begins ">>SUO" chars) (begins ">>SUO" (start_blanked ">>SUO" Suo chars)) _ _ _ _ (start_begins ">>SUO" Suo chars ">>SUO")
      (suo_begun s chars)
      (λ b.
      subst (λ (l : List ℕ). Passes (other told chars) (other told l)) (sym (start_other ">>SUO" Suo chars b)) (other_passes told chars e))

  -- 1024, and what a new SUO leaves
  second : (x y : Step) → Passes x y → Passes (pte_says o s 1024 x.after) (pte_says o s 1024 y.after)
  unfolding pte_says replies blanked_step
  second x y p = record { is = ap (λ (z : Step). pte_says o s 1024 z.after) p.is; whole = p.whole }

  module _ (f : Opened) where
    -- a record that begins neither VAR nor SUO, and one that begins no VAR
    abbrev held : List ℕ → Step
    held chars = pick (begins ">>ESI" chars) (pte_says o s 1024 (moved s closed)) (silent (moved s (in_frame (with_record f chars))))

    abbrev no_var : List ℕ → Step
    no_var chars = pick (begins ">>SUO" chars) (pte_says o s 1024 (suo_starts s chars).after) (held chars)

    held_passes : (chars : List ℕ) → Passes (held chars) (held chars)
    unfolding silent moved blanked_in
    held_passes chars =
        alike (begins ">>ESI" chars) (begins ">>ESI" chars) _ _ _ _ refl (λ b. pte_closes o s 1024)
        (λ b. still (silent (moved s (in_frame (with_record f chars)))) refl tt)

    no_var_lem : (chars : List ℕ) → Passes (no_var chars) (no_var (start_blanked ">>SUO" Suo chars))
    no_var_lem chars =
        alike (begins ">>SUO" chars) (begins ">>SUO" (start_blanked ">>SUO" Suo chars)) _ _ _ _ (start_begins ">>SUO" Suo chars ">>SUO")
        (λ b. second (suo_starts s chars) (suo_starts s (start_blanked ">>SUO" Suo chars)) (suo_begun s chars b))
        (λ b. subst (λ (l : List ℕ). Passes (held chars) (held l)) (sym (start_other ">>SUO" Suo chars b)) (held_passes chars))

    frame_passes : (chars : List ℕ)
        → Passes (frame_record o s f chars) (frame_record o s f (start_blanked ">>SUO" Suo (start_blanked ">>VAR" Var chars)))
    unfolding frame_record
    frame_passes chars = go (begins ">>VAR" chars) refl
      where
        start : List ℕ
        start = start_blanked ">>VAR" Var chars

        var : begins ">>VAR" start ≡ begins ">>VAR" chars
        var = start_begins ">>VAR" Var chars ">>VAR"

        go : (t : Bool) → begins ">>VAR" chars ≡ t → Passes (frame_record o s f chars) (frame_record o s f (start_blanked ">>SUO" Suo start))
        go true b =
            let n : begins ">>SUO" start ≡ false = start_begins ">>VAR" Var chars ">>SUO" ∙ var_no_suo chars b in
            subst (λ (l : List ℕ). Passes (frame_record o s f chars) (frame_record o s f l)) (sym (start_other ">>SUO" Suo start n))
            (alike (begins ">>VAR" chars) (begins ">>VAR" start) _ _ _ _ var (var_begun o s f chars) (λ n. absurd (clash _ b n)))
        go false b =
            subst (λ (l : List ℕ). Passes (frame_record o s f chars) (frame_record o s f (start_blanked ">>SUO" Suo l)))
            (sym (start_other ">>VAR" Var chars b))
            (alike (begins ">>VAR" chars) (begins ">>VAR" (start_blanked ">>SUO" Suo chars)) _ _ _ _ (start_begins ">>SUO" Suo chars ">>VAR")
            (λ t. absurd (clash _ t b)) (λ n. no_var_lem chars))

-- ---- any record, a byte past the size limit, and the file's end

module _ (o : Opening) (s : Standing) where
  moved_in : (x : Situation) → (moved s x).situation ≡ x
  unfolding moved
  moved_in x = refl

  stays : (x : Situation) → blanked_in x ≡ x → Collects x → Passes (silent (moved s x)) (silent (moved s x))
  unfolding silent moved
  stays x e w = still (silent (moved s x)) e w

  record_passes : (x : Situation) (chars : List ℕ) → Collects x
      → Passes (record_in o (moved s x) x chars) (record_in o (moved s (blanked_in x)) (blanked_in x) (record_blanked x chars))
  unfolding record_in record_blanked blanked_in
  record_passes before_esi chars w = first_passes o (moved s before_esi) chars
  record_passes (collecting_esi sofar) chars w = esi_on_lem o s _ _ sofar chars w
  record_passes (outside told) chars w = outside_passes o (moved s (outside told)) told chars (moved_in (outside told))
  record_passes (collecting_suo sofar) chars w = suo_on_lem s _ _ sofar chars w
  record_passes (in_frame f) chars w = frame_passes o (moved s (in_frame f)) f chars
  record_passes (collecting_var sofar f) chars w = var_on_lem o s f _ _ sofar chars w
  record_passes closed chars w = stays closed refl tt

  past_passes : (x : Situation) → Passes (past_in o (moved s x) x) (past_in o (moved s (blanked_in x)) (blanked_in x))
  unfolding past_in blanked_in esi_says pte_says moved
  past_passes before_esi = esi_closes o s 1034 no_field []
  past_passes (collecting_esi sofar) = esi_closes o s 1034 no_field []
  past_passes (outside told) = pte_closes o s 1034
  past_passes (collecting_suo sofar) = pte_closes o s 1034
  past_passes (in_frame f) = pte_closes o s 1034
  past_passes (collecting_var sofar f) = pte_closes o s 1034
  past_passes closed = stays closed refl tt

  end_passes : (x : Situation) → Collects x → Passes (end_in o (moved s x) x) (end_in o (moved s (blanked_in x)) (blanked_in x))
  unfolding end_in blanked_in pte_says moved
  end_passes before_esi w = stays before_esi refl tt
  end_passes (collecting_esi sofar) w = esi_cut o s _ _ sofar w
  end_passes (outside told) w = stays (outside told) refl tt
  end_passes (collecting_suo sofar) w = pte_closes o s 1032
  end_passes (in_frame f) w = pte_closes o s 1024
  end_passes (collecting_var sofar f) w = var_cut o s f _ _ sofar w
  end_passes closed w = stays closed refl tt

-- ---- all records

blanked_told : Told → Told
blanked_told x = record { given = x.given; standing = blanked_at x.standing }

module _ (o : Opening) (size : ℕ) where
  told_passes : (l : List Item) (s : Standing) → Collects s.situation
      → told_of o size (blanked_at s) (items_blanked o s l) ≡ blanked_told (told_of o size s l)
  unfolding told_of items_blanked blanked_told blanked_step blanked_at moved sooner
  told_passes [] s w =
      ap {B = Told} (λ (x : Step). record { given = given_at size x.says; standing = x.after }) (end_passes o s s.situation w).is
  told_passes (line r ∷ l) s w =
      let x : Step = record_in o s s.situation r.chars in
      let p : Passes x (record_in o (blanked_at s) (blanked_in s.situation) (record_blanked s.situation r.chars)) =
      record_passes o s s.situation r.chars w in
      ap (λ (y : Step). sooner (given_at r.end y.says) (told_of o size y.after (items_blanked o x.after l))) p.is
      ∙ ap (sooner (given_at r.end x.says)) (told_passes l x.after p.whole)
  told_passes (past_size at ∷ l) s w =
      let x : Step = past_in o s s.situation in
      let p : Passes x (past_in o (blanked_at s) (blanked_in s.situation)) = past_passes o s s.situation in
      ap (λ (y : Step). sooner (given_at at y.says) (told_of o size y.after (items_blanked o x.after l))) p.is
      ∙ ap (sooner (given_at at x.says)) (told_passes l x.after p.whole)

pub rest_unseen : RestUnseen
unfolding blanked_told blanked_at blanked_in moved at_start
rest_unseen o t size l =
    let e : told_of o size (at_start t) (items_blanked o (at_start t) l) ≡ blanked_told (told_of o size (at_start t) l) =
    told_passes o size l (at_start t) tt in
    (ap (λ (x : Told). x.given) e, ap (λ (x : Told). x.standing.table) e)
