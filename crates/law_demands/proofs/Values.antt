-- A bare reply holds the contents of the field that it names, and its notice shows them; a fault of form is on a field of the layout, whose
-- contents are kept whole.
-- Assumes nothing.
use Rattle.std.specs.Prelude.{Err, Ok, Result}
use Prim.Native.Nat.{ℕ, ◌≤◌}
use mathlib.Core.Path.{◌≡◌, refl, sym, subst, ap, ◌∙◌}
use mathlib.Core.Bool.{Bool, true, false, false≢true}
use mathlib.Core.List.{List, [], ◌∷◌, ◌++◌, append_assoc, append-nil}
use mathlib.Core.Logic.{⊎_elim}
use borrow.Author.Tests.{eqb-true, leb-true}
use lib.Dec.{eqb, leb, lit≤}
use Rattle.ground.specs.Choice.{both, either, fails, pick}
use Rattle.ground.proofs.Choices.{picks, skips, either_cases, either_decides}
use Rattle.ground.proofs.Bools.{not_failed}
use Rattle.ground.proofs.Lists.{one_is}
use Rattle.calendar.specs.declared.Date.{Date}
use Rattle.text.specs.Characters.{padded}
use Rattle.text.specs.Letters.{letters}
use Rattle.acceptance.specs.declared.Granted.{Granted}
use Rattle.table.specs.Table.{Table}
use Rattle.message.specs.Layout.{field, fields, layout, width_in, field_text}
use Rattle.message.specs.Contents.{contents_as, held_in, at_fault}
use Rattle.message.specs.declared.Check.{Check}
use Rattle.message.specs.Order.{first_failing, fault_at}
use Rattle.message.specs.Rules.{each_field, form_checks}
use Rattle.message.specs.declared.About.{About}
use Rattle.message.specs.declared.About.TheVariants.{Answered, Closing}
use Rattle.message.specs.declared.Fault.{Fault}
use Rattle.message.specs.declared.Collected.{Collected}
use Rattle.message.proofs.Kept.{held_field}
use Rattle.message.proofs.Order.{each_check, first_each, found_first}
use Rattle.checks.specs.Checks.{party_checks, stamp_checks, room_checks, esi_key_checks, type_checks, pair_checks, key_checks, esi_checks}
use Rattle.checks.specs.Checks.{frame_checks}
use Rattle.checks.specs.declared.Frame.{Frame}
use Rattle.verdict.specs.Outcomes.{grant_to, outcome_of, esi_outcome, esi_table, frame_outcome, frame_table}
use Rattle.notice.specs.Codes.{code_in, codes, field_name, value_text, text_of}
use Rattle.reply.specs.Reply.{clock_text, notice_of}
use Rattle.reply.specs.declared.Answering.{Answering}
use Rattle.answers.specs.Answers.{bare_answer, verdict_answer}
use Rattle.answers.proofs.Made.{verdict_code}
use Rattle.opening.specs.declared.Opening.{Opening}
use Rattle.whole_file.specs.WholeFile.{Step, replies, occasion, esi_ends, frame_of, var_ends, esi_says, first_record, outside_record}
use Rattle.law_history.proofs.Codes.{is_accepted, grants_k}
use Rattle.law_demands.specs.Demands.{ShowsField, is_fault, EsiFaultShown, FrameFaultShown, TagFaultShown}
use Rattle.law_demands.proofs.Accepted.{true_none}

-- ---- 1010 and 1011

-- what holds of both
of_both : (P : ℕ → Type 0) → P 1010 → P 1011 → (code : ℕ) → is_fault code ≡ true → P code
of_both P p q code e =
    ⊎_elim (λ h. subst P (sym (eqb-true code 1010 h)) p) (λ h. subst P (sym (eqb-true code 1011 h)) q) (either_cases _ _ e)

fault_bare : (code : ℕ) → is_fault code ≡ true → (code_in code codes).bare ≡ true
unfolding code_in pick
fault_bare = of_both (λ code. (code_in code codes).bare ≡ true) refl refl

pub fault_refused : (code : ℕ) → is_fault code ≡ true → is_accepted code ≡ false
unfolding code_in pick
fault_refused = of_both (λ code. is_accepted code ≡ false) refl refl

text_is : (n : ℕ) (v : List ℕ) (code : ℕ) → is_fault code ≡ true → text_of code n v ≡ (code_in code codes).before ++ field_name n ++ value_text v
unfolding text_of code_in pick
text_is n v =
    of_both (λ code. text_of code n v ≡ (code_in code codes).before ++ field_name n ++ value_text v) (append-nil _) (append-nil _)

-- ---- a bare reply on a field

joined : (a b c d e f : List ℕ) → a ++ b ++ (c ++ d ++ (e ++ f)) ≡ a ++ b ++ c ++ d ++ e ++ f
joined a b c d e f = simp append_assoc

pub bare_shows : (t : Table) (o : Opening) (pte : Bool) (code n : ℕ) (m : List ℕ) → is_fault code ≡ true → width_in n fields ≤ 17
    → ShowsField (bare_answer t o pte code n m) m
unfolding bare_answer notice_of value_text
bare_shows t o pte code n m e h =
    record {
      notice =
          ap (λ (v : List ℕ). padded 60 (clock_text o.time ++ letters " " ++ text_of code n v)) (held_field n m h)
          ∙ ap (λ (x : List ℕ). padded 60 (clock_text o.time ++ letters " " ++ x)) (text_is n (field_text n m) code e)
          ∙ ap (padded 60) (joined (clock_text o.time) (letters " ") (code_in code codes).before (field_name n) (letters " ") _);
    }

-- ---- a verdict's

-- the fields of faults of form have at most 17 characters
pub narrow : ℕ → ℕ → Bool
narrow code n = either (fails (is_fault code)) (leb (width_in n fields) 17)

pub esi_narrow : (t : Table) (today : Date) (m : Collected) → each_check narrow (esi_checks t today m) ≡ true
unfolding narrow each_check esi_checks form_checks each_field layout width_in party_checks stamp_checks esi_key_checks room_checks both either
    fails pick
esi_narrow t today m = refl

pub frame_narrow : (t : Table) (today : Date) (kind : ℕ) (f : Frame) → each_check narrow (frame_checks t today kind f) ≡ true
unfolding narrow each_check frame_checks form_checks each_field layout width_in party_checks type_checks pair_checks stamp_checks key_checks
    room_checks both either fails pick
frame_narrow t today kind f = refl

narrow_is : (code n : ℕ) → is_fault code ≡ true → narrow code n ≡ true → width_in n fields ≤ 17
unfolding narrow
narrow_is code n e p = leb-true _ 17 (sym (either_decides _ _ (not_failed _ e)) ∙ p)

module _ (t : Table) (o : Opening) (pte : Bool) (g : Granted) (made : ℕ) (m closing : List ℕ) (cs : List Check)
    (w : each_check narrow cs ≡ true) where
  pub found_shows : (code n : ℕ) (about : About) → first_failing cs ≡ fault_at code n about → is_fault code ≡ true
      → ShowsField (verdict_answer t o pte (outcome_of (fault_at code n about) g made) m closing) (at_fault about m closing)
  unfolding verdict_answer outcome_of
  found_shows code n about p e =
      subst (λ (a : Answering). ShowsField a (at_fault about m closing)) (sym (picks _ _ _ (fault_bare code e)))
      (bare_shows t o pte code n (at_fault about m closing) e (narrow_is code n e (first_each narrow cs code n about w p)))

  -- whatever the verdict is: what is granted is no fault
  pub verdict_shows : (f : Result Unit Fault) → first_failing cs ≡ f → is_accepted g.code ≡ true → is_fault (outcome_of f g made).code ≡ true
      → ((about : About) → at_fault about m closing ≡ m)
      → ShowsField (verdict_answer t o pte (outcome_of f g made) m closing) m
  unfolding outcome_of
  verdict_shows (Ok _) p k e a = absurd (false≢true (sym (fault_refused g.code e) ∙ k))
  verdict_shows (Err fault) p k e a =
      subst (ShowsField (verdict_answer t o pte (outcome_of (fault_at fault.code fault.field fault.about) g made) m closing)) (a fault.about) (found_shows fault.code fault.field fault.about p e)

found_code : (t : Table) (o : Opening) (pte : Bool) (code n : ℕ) (about : About) (g : Granted) (made : ℕ) (m closing : List ℕ)
    → (verdict_answer t o pte (outcome_of (fault_at code n about) g made) m closing).code ≡ code
unfolding outcome_of
found_code t o pte code n about g made m closing = verdict_code t o pte (outcome_of (fault_at code n about) g made) m closing

pub alone : (m : List ℕ) (about : About) → at_fault about m m ≡ m
unfolding at_fault
alone m Answered = refl
alone m Closing = refl

-- ---- the statements

pub esi_fault_shown : EsiFaultShown
unfolding esi_ends replies occasion esi_outcome
esi_fault_shown o s m reply says e =
    let cs = esi_checks s.table o.today m in
    let g = grant_to s.table (occasion o s.made) m.text m.text in
    let t = esi_table s.table (occasion o s.made) m in
    let out = outcome_of (first_failing cs) g s.made in
    let r : verdict_answer t o false out m.text m.text ≡ reply = one_is _ _ says in
    subst (λ (a : Answering). ShowsField a m.text) r
    (verdict_shows t o false g s.made m.text m.text cs (esi_narrow s.table o.today m) (first_failing cs) refl
    (grants_k s.table (occasion o s.made) m.text m.text)
    (ap is_fault (sym (verdict_code t o false out m.text m.text) ∙ ap (λ (a : Answering). a.code) r) ∙ e)
    (alone m.text))

pub frame_fault_shown : FrameFaultShown
unfolding var_ends replies occasion frame_outcome frame_of
frame_fault_shown o s f m reply says e before here after order n fail =
    let cs = frame_checks s.table o.today o.kind (frame_of f m) in
    let g = grant_to s.table (occasion o s.made) f.suo.text m.text in
    let t = frame_table s.table (occasion o s.made) (frame_of f m) in
    let found : first_failing cs ≡ fault_at here.code here.field here.about = found_first cs here.code here.field here.about
    (record {
      before = before;
      here = here;
      after = after;
      order = order;
      passed = true_none before n;
      failed = fail;
      is = refl;
    }) in
    let r : verdict_answer t o true (outcome_of (fault_at here.code here.field here.about) g s.made) f.suo.text m.text
    ≡ reply =
    ap (λ (x : Result Unit Fault). verdict_answer t o true (outcome_of x g s.made) f.suo.text m.text) (sym found) ∙ one_is _ _ says in
    subst (λ (a : Answering). ShowsField a (at_fault here.about f.suo.text m.text)) r
    (found_shows t o true g s.made f.suo.text m.text cs (frame_narrow s.table o.today o.kind (frame_of f m)) here.code
    here.field here.about found
    (ap is_fault (sym (found_code t o true here.code here.field here.about g s.made f.suo.text m.text)
    ∙ ap (λ (a : Answering). a.code) r) ∙ e))

-- field 1 has five characters
pub tag_narrow : width_in (field 1) fields ≤ 17
unfolding width_in pick
tag_narrow = lit≤ tt

is1010 : is_fault 1010 ≡ true
unfolding either
is1010 = refl

is1011 : is_fault 1011 ≡ true
unfolding either
is1011 = refl

-- what holds of the reply that is given
given : (a reply : Answering) (chars : List ℕ) (x : Step) → x.says ≡ reply ∷ [] → x.says ≡ a ∷ [] → a.field ≡ field 1 → ShowsField a chars
    → (reply.field ≡ field 1) × ShowsField reply chars
given a reply chars x says is n shows =
    subst (λ (r : Answering). (r.field ≡ field 1) × ShowsField r chars) (one_is _ _ (sym is ∙ says)) (n, shows)

pub tag_fault_shown : TagFaultShown
unfolding first_record outside_record esi_says replies bare_answer
tag_fault_shown = (
  λ o s chars reply b says.
      given (bare_answer s.table o false 1010 (field 1) chars) reply chars (first_record o s chars) says
      (ap (λ (x : Step). x.says) (skips _ _ _ b)) refl (bare_shows s.table o false 1010 (field 1) chars is1010 tag_narrow),
  λ o s told chars reply b c says.
      given (bare_answer s.table o false 1011 (field 1) chars) reply chars (outside_record o s told chars) says
      (ap (λ (x : Step). x.says) (skips _ _ _ b ∙ picks _ _ _ c)) refl (bare_shows s.table o false 1011 (field 1) chars is1011 tag_narrow),
)
