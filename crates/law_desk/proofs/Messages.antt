-- The fields that a full reply repeats are those of a message without fault of form, so each passes the same test in the reply.
-- Assumes nothing.
use Rattle.std.specs.Prelude.{Ok}
use Prim.Native.Nat.{ℕ}
use mathlib.Core.Path.{◌≡◌, refl, sym, ap, ◌∙◌, subst}
use mathlib.Core.Bool.{Bool, true, false}
use mathlib.Core.List.{List, [], ◌∷◌, ◌++◌}
use lib.Dec.{leb}
use Rattle.ground.specs.Choice.{both, either, fails}
use Rattle.ground.specs.Lists.{all, member}
use Rattle.ground.proofs.Choices.{left, right}
use Rattle.text.specs.Characters.{digit, field_character, hex_digit, all_blank}
use Rattle.text.specs.Numbers.{decimal}
use Rattle.text.specs.Letters.{letters}
use Rattle.calendar.specs.Dates.{real_date, real_time}
use Rattle.message.specs.Layout.{whole_number, layout, fields, field_text}
use Rattle.message.specs.Order.{first_failing}
use Rattle.message.specs.Rules.{Form, only, one_of, form_of, hex_fields, length_rules, common_rules, own_rules, format_holds, obeys, form_checks}
use Rattle.message.specs.declared.Kind.{Kind}
use Rattle.message.specs.declared.Kind.TheVariants.{Esi, Suo, Var}
use Rattle.message.specs.declared.About.{About}
use Rattle.message.specs.declared.About.TheVariants.{Answered, Closing}
use Rattle.message.specs.declared.Collected.{Collected}
use Rattle.message.proofs.Laws.{numbers_of, in_each, sound_field}
use Rattle.message.proofs.Tests.{obeys-append}
use Rattle.reply.specs.declared.Answering.{Answering}
use Rattle.desk_form.specs.declared.Reply.TheVariants.{Esi as ReplyEsi, Pte}
use Rattle.law_desk.proofs.Form.{Common, Made, Facts}

-- ---- a test that is made, as it is asked

pub asked_of : (a b : Bool) → only a b ≡ true → a ≡ true → b ≡ true
unfolding either fails
asked_of true b e p = e
asked_of false b e p = cc

module _ (form : Form) (blank_over : Bool) (n : ℕ) (text : List ℕ) (h : format_holds form blank_over n text ≡ true) where
  characters : leb (whole_number n) 16 ≡ true → all field_character text ≡ true
  unfolding format_holds
  characters p = asked_of _ _ (left _ _ h) p

  numbers : member (whole_number n) (2 ∷ 3 ∷ 5 ∷ 10 ∷ 11 ∷ 12 ∷ []) ≡ true → all digit text ≡ true
  unfolding format_holds
  numbers p = asked_of _ _ (left _ _ (right _ _ h)) p

  hexed : member n form.hexes ≡ true → all hex_digit text ≡ true
  unfolding format_holds
  hexed p = asked_of _ _ (left _ _ (right _ _ (right _ _ h))) p

-- ---- a message without fault

module _ (k : Kind) (about : About) (m : Collected) (sound : first_failing (form_checks (form_of k) about m) ≡ Ok tt) where
  abbrev shared : ℕ → Bool
  shared n = member n (numbers_of (layout k))

  chars : (n : ℕ) → shared n ≡ true → leb (whole_number n) 16 ≡ true → all field_character (field_text n m.text) ≡ true
  chars n t p = characters (form_of k) m.blank n _ (sound_field k about m sound n t).0 p

  digits : (n : ℕ) → shared n ≡ true → member (whole_number n) (2 ∷ 3 ∷ 5 ∷ 10 ∷ 11 ∷ 12 ∷ []) ≡ true
      → all digit (field_text n m.text) ≡ true
  digits n t p = numbers (form_of k) m.blank n _ (sound_field k about m sound n t).0 p

  hexes : (n : ℕ) → shared n ≡ true → member n (hex_fields k) ≡ true → all hex_digit (field_text n m.text) ≡ true
  hexes n t p = hexed (form_of k) m.blank n _ (sound_field k about m sound n t).0 p

  rules_of : (n : ℕ) → shared n ≡ true → (obeys (common_rules k) n m.text ≡ true) × (obeys (own_rules k) n m.text ≡ true)
  rules_of n t =
      let v = (sound_field k about m sound n t).1 in
      let a = right _ _ (sym (obeys-append (length_rules k) (common_rules k ++ own_rules k) n m.text) ∙ v) in
      let b = sym (obeys-append (common_rules k) (own_rules k) n m.text) ∙ a in
      (left _ _ b, right _ _ b)

  date_rule : obeys (common_rules k) 121 m.text ≡ true → real_date (decimal (field_text 121 m.text)) ≡ true
  unfolding common_rules obeys both either fails
  date_rule e = left _ _ e

  time_rule : obeys (common_rules k) 122 m.text ≡ true → real_time (decimal (field_text 122 m.text)) ≡ true
  unfolding common_rules obeys both either fails
  time_rule e = left _ _ e

-- ---- what a full reply knows of the message that it answers

module _ (k : Kind) (about : About) (m : Collected) (sound : first_failing (form_checks (form_of k) about m) ≡ Ok tt) where
  pub common : Common m.text
  unfolding member either
  common =
      let c : (n : ℕ) → member n (numbers_of (layout k)) ≡ true → leb (whole_number n) 16 ≡ true → all field_character (field_text n m.text) ≡ true
      = chars k about m sound in
      let d : (n : ℕ) → member n (numbers_of (layout k)) ≡ true → member (whole_number n) (2 ∷ 3 ∷ 5 ∷ 10 ∷ 11 ∷ 12 ∷ []) ≡ true
      → all digit (field_text n m.text) ≡ true = digits k about m sound in
      record {
        receiver = c 81 (in_each k 81 refl) refl;
        receiver_more = c 82 (in_each k 82 refl) refl;
        sender = c 91 (in_each k 91 refl) refl;
        sender_more = c 92 (in_each k 92 refl) refl;
        transport = (c 100 (in_each k 100 refl) refl, d 100 (in_each k 100 refl) refl);
        working = (c 110 (in_each k 110 refl) refl, d 110 (in_each k 110 refl) refl);
        date = (c 121 (in_each k 121 refl) refl, d 121 (in_each k 121 refl) refl);
        time = (c 122 (in_each k 122 refl) refl, d 122 (in_each k 122 refl) refl);
        count = (c 123 (in_each k 123 refl) refl, d 123 (in_each k 123 refl) refl);
        real_date_fact = date_rule k about m sound (rules_of k about m sound 121 (in_each k 121 refl)).0;
        real_time_fact = time_rule k about m sound (rules_of k about m sound 122 (in_each k 122 refl)).0;
        area = c 130 (in_each k 130 refl) refl;
        once = c 150 (in_each k 150 refl) refl;
      }

-- ---- an ESI: fields 13, 15 and 16 blank

module _ (about : About) (m : Collected) (sound : first_failing (form_checks (form_of Esi) about m) ≡ Ok tt) where
  own_esi : (n : ℕ) → member n (numbers_of (layout Esi)) ≡ true → obeys (own_rules Esi) n m.text ≡ true
  own_esi n t = (rules_of Esi about m sound n t).1

  esi_area : all_blank (field_text 130 m.text) ≡ true
  unfolding member either layout own_rules obeys both fails
  esi_area = left _ _ (own_esi 130 refl)

  esi_once : all_blank (field_text 150 m.text) ≡ true
  unfolding member either layout own_rules obeys both fails
  esi_once = left _ _ (own_esi 150 refl)

  esi_digest : all_blank (field_text 160 m.text) ≡ true
  unfolding member either layout own_rules obeys both fails
  esi_digest = left _ _ (own_esi 160 refl)

  esi_digest_chars : all field_character (field_text 160 m.text) ≡ true
  unfolding member either layout
  esi_digest_chars = chars Esi about m sound 160 refl refl

-- ---- a SUO and its VAR: field 13 S or A, 15 and 16 hex digits

module _ (about : About) (m : Collected) (sound : first_failing (form_checks (form_of Suo) about m) ≡ Ok tt) where
  suo_area : one_of (letters "S" ∷ letters "A" ∷ []) (field_text 130 m.text) ≡ true
  unfolding member either layout own_rules obeys both fails
  suo_area = left _ _ (rules_of Suo about m sound 130 refl).1

  suo_once : all hex_digit (field_text 150 m.text) ≡ true
  unfolding member either layout hex_fields
  suo_once = hexes Suo about m sound 150 refl refl

module _ (about : About) (m : Collected) (sound : first_failing (form_checks (form_of Var) about m) ≡ Ok tt) where
  var_digest : all hex_digit (field_text 160 m.text) ≡ true
  unfolding member either layout hex_fields
  var_digest = hexes Var about m sound 160 refl refl

  var_digest_chars : all field_character (field_text 160 m.text) ≡ true
  unfolding member either layout
  var_digest_chars = chars Var about m sound 160 refl refl

-- ---- so the reply is of good form

pub esi_facts : (a : Answering) (m : Collected) → Made a false → m.text ≡ a.message → m.text ≡ a.closing
    → first_failing (form_checks (form_of Esi) Answered m) ≡ Ok tt → Facts ReplyEsi a
esi_facts a m d p q sound =
    record {
      made = d;
      common = subst Common p (common Esi Answered m sound);
      area_holds_fact = ap (λ (l : List ℕ). all_blank (field_text 130 l)) (sym p) ∙ esi_area Answered m sound;
      once_holds = ap (λ (l : List ℕ). all_blank (field_text 150 l)) (sym p) ∙ esi_once Answered m sound;
      digest = ap (λ (l : List ℕ). all field_character (field_text 160 l)) (sym q) ∙ esi_digest_chars Answered m sound;
      digest_holds = ap (λ (l : List ℕ). all_blank (field_text 160 l)) (sym q) ∙ esi_digest Answered m sound;
    }

pub pte_facts : (a : Answering) (suo var : Collected) → Made a true → suo.text ≡ a.message → var.text ≡ a.closing
    → first_failing (form_checks (form_of Suo) Answered suo) ≡ Ok tt → first_failing (form_checks (form_of Var) Closing var) ≡ Ok tt
    → Facts Pte a
pte_facts a suo var d p q s v =
    record {
      made = d;
      common = subst Common p (common Suo Answered suo s);
      area_holds_fact = ap (λ (l : List ℕ). one_of (letters "S" ∷ letters "A" ∷ []) (field_text 130 l)) (sym p) ∙ suo_area Answered suo s;
      once_holds = ap (λ (l : List ℕ). all hex_digit (field_text 150 l)) (sym p) ∙ suo_once Answered suo s;
      digest = ap (λ (l : List ℕ). all field_character (field_text 160 l)) (sym q) ∙ var_digest_chars Closing var v;
      digest_holds = ap (λ (l : List ℕ). all hex_digit (field_text 160 l)) (sym q) ∙ var_digest Closing var v;
    }
