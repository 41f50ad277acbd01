-- The step that ends an accepted message gives its full answer: no check failed, so what was granted is answered, on the table afterwards.
-- Assumes nothing.
use Rattle.std.specs.Prelude.{Some, Err, Ok, Result}
use Prim.Native.Nat.{ℕ, ◌+◌, ◌≤◌}
use mathlib.Core.Path.{◌≡◌, refl, sym, ap, ap₂, ◌∙◌, subst}
use mathlib.Core.Bool.{Bool, true, false, false≢true}
use mathlib.Core.List.{List, [], ◌∷◌, ◌++◌}
use mathlib.Core.Logic.{◌⊎◌}
use native.Mathlib.Omega.{arith}
use lib.ListN.{length}
use Rattle.ground.specs.Choice.{pick}
use Rattle.ground.specs.Lists.{part}
use Rattle.ground.proofs.Choices.{fails-false, same-eq}
use Rattle.ground.proofs.Bools.{neither}
use Rattle.ground.proofs.Lists.{one_is}
use Rattle.ground.proofs.Parts.{part1}
use Rattle.calendar.specs.declared.Date.{Date}
use Rattle.customer.specs.declared.Customer.{Customer}
use Rattle.changeover.specs.Held.{held_key}
use Rattle.changeover.proofs.Laws.{good_held}
use Rattle.acceptance.specs.declared.Granted.{Granted}
use Rattle.table.specs.Table.{Table, sound_table}
use Rattle.table.specs.Named.{named}
use Rattle.message.specs.Layout.{field_text, offset_in, width_in, fields}
use Rattle.message.specs.Fields.{sender_of, transport_generation_of, working_generation_of}
use Rattle.message.specs.declared.Check.{Check}
use Rattle.message.specs.Order.{first_failing, fault_at}
use Rattle.message.specs.Rules.{form_of, form_checks}
use Rattle.message.specs.declared.Kind.TheVariants.{Esi, Suo, Var}
use Rattle.message.specs.declared.About.{About}
use Rattle.message.specs.declared.About.TheVariants.{Answered, Closing}
use Rattle.message.specs.declared.Collected.{Collected}
use Rattle.message.specs.declared.Fault.{Fault}
use Rattle.message.proofs.Order.{NoneFails, accepted, none_fails_lem, none_left, none_right}
use Rattle.checks.specs.Checks.{esi_checks, frame_checks, party_checks, stamp_checks, esi_key_checks, type_checks, key_checks, pair_checks, room_checks, key_or0}
use Rattle.checks.specs.declared.Frame.{Frame}
use Rattle.checks.specs.declared.Occasion.{Occasion}
use Rattle.checks.proofs.Parts.{esi_parts, frame_parts, esi_parts_lem, frame_parts_lem}
use Rattle.verdict.specs.Outcomes.{grant_to, table_after, outcome_of, esi_outcome, esi_table, frame_outcome, frame_table}
use Rattle.verdict.specs.declared.Outcome.{Outcome}
use Rattle.verdict.proofs.Laws.{Accepted, esi_accepted, frame_accepted, esi_is, frame_is}
use Rattle.reply.specs.Reply.{reply_of}
use Rattle.reply.specs.declared.Answering.{Answering}
use Rattle.answers.specs.Answers.{full_answer, verdict_answer}
use Rattle.answers.proofs.Made.{verdict_code, verdict_full}
use Rattle.opening.specs.declared.Opening.{Opening}
use Rattle.whole_file.specs.WholeFile.{Standing, replies, occasion, esi_ends, frame_of, var_ends}
use Rattle.desk_form.specs.declared.Reply.TheVariants.{Esi as ReplyEsi, Pte}
use Rattle.desk.specs.Desk.{checked_by, esi_checked, pte_checked, desk_esi_checks, desk_pte_checks}
use Rattle.desk.specs.Sent.{mark_of, sent_by}
use Rattle.desk.specs.declared.Held.{Held}
use Rattle.law_history.proofs.Codes.{is_accepted, grants_full, esi_e, frame_e}
use Rattle.law_desk.specs.Desks.{SameKeys, Passed, sent_from, EsiPasses, PtePasses}
use Rattle.law_desk.proofs.Form.{Facts, Made}
use Rattle.law_desk.proofs.Messages.{esi_facts, pte_facts}
use Rattle.law_desk.proofs.Passes.{Answers, esi_passes, pte_passes}
use Rattle.law_desk.proofs.Accepted.{made_so, keyed_so, keys_before}
use Rattle.law_desk.proofs.Kept.{passed_so}

-- ---- where the reply is K no check failed

accepts : (checks : List Check) (g : Granted) (made : ℕ)
    → ((code field : ℕ) (about : About) → first_failing checks ≡ fault_at code field about → is_accepted code ≡ false)
    → (f : Result Unit Fault) → first_failing checks ≡ f → is_accepted (outcome_of f g made).code ≡ true → f ≡ Ok tt
unfolding outcome_of
accepts checks g made e (Ok _) p a = refl
accepts checks g made e (Err fault) p a = absurd (false≢true (sym (e fault.code fault.field fault.about p) ∙ a))

-- the answer is then the full one
full_then : (t : Table) (x : Occasion) (o : Opening) (pte : Bool) (m closing : List ℕ) (u v : Table) (f : Result Unit Fault) → f ≡ Ok tt → v ≡ u
    → verdict_answer v o pte (outcome_of f (grant_to t x m closing) x.made) m closing
    ≡ full_answer u o pte (outcome_of (Ok tt) (grant_to t x m closing) x.made) m closing
unfolding outcome_of
full_then t x o pte m closing u v f p q =
    ap₂ (λ (w : Table) (y : Result Unit Fault). verdict_answer w o pte (outcome_of y (grant_to t x m closing) x.made) m closing) q p
    ∙ verdict_full u o pte (outcome_of (Ok tt) (grant_to t x m closing) x.made) m closing (grants_full t x m closing)

-- ---- one character of a field

mark_is : (n : ℕ) (m : List ℕ) → length m ≡ 161 → (offset_in n fields + 1 ≤ 161) → width_in n fields ≡ 1
    → mark_of n m ∷ [] ≡ field_text n m
unfolding field_text
mark_is n m l h w =
    let k : offset_in n fields + 1 ≤ length m = omega arith in
    sym (ap (λ (j : ℕ). part (offset_in n fields) j m) w ∙ part1 m (offset_in n fields) k)

transport_mark : (m : List ℕ) → length m ≡ 161 → mark_of 100 m ∷ [] ≡ field_text 100 m
unfolding offset_in width_in pick
transport_mark m l = mark_is 100 m l (omega arith) refl

working_mark : (m : List ℕ) → length m ≡ 161 → mark_of 110 m ∷ [] ≡ field_text 110 m
unfolding offset_in width_in pick
working_mark m l = mark_is 110 m l (omega arith) refl

area_mark : (m : List ℕ) → length m ≡ 161 → mark_of 130 m ∷ [] ≡ field_text 130 m
unfolding offset_in width_in pick
area_mark m l = mark_is 130 m l (omega arith) refl

-- ---- what was sent is what is answered

answers_so : (u : Table) (o : Opening) (pte : Bool) (out : Outcome) (m closing : List ℕ) → length m ≡ 161 → length closing ≡ 161
    → field_text 100 m ≡ field_text 100 closing → field_text 110 m ≡ field_text 110 closing
    → Answers (sent_by m closing) (full_answer u o pte out m closing)
unfolding sent_by full_answer
answers_so u o pte out m closing l n t w =
    record {
      receiver = refl;
      sender = refl;
      transport = transport_mark closing n ∙ sym t;
      working = working_mark closing n ∙ sym w;
      stamp = refl;
      area = area_mark m l;
      once = refl;
      digest = refl;
    }

-- ---- an ESI

module _ (t : Table) (today : Date) (m : Collected) (e : first_failing (esi_checks t today m) ≡ Ok tt) where
  abbrev c : Customer
  c = named t (sender_of m.text)

  esi_none : (first_failing (form_checks (form_of Esi) Answered m) ≡ Ok tt) × NoneFails (esi_key_checks c m.text)
  esi_none =
      let l₃ = esi_key_checks c m.text ++ room_checks t c today in
      let l₂ = stamp_checks t c today m.text ++ l₃ in
      let l₁ = party_checks t m.text ++ l₂ in
      let n = accepted (esi_parts t c today m) (ap first_failing (sym (esi_parts_lem t today m)) ∙ e) in
      let p = none_right (form_checks (form_of Esi) Answered m) l₁ n in
      let s = none_right (party_checks t m.text) l₂ p in
      let k = none_right (stamp_checks t c today m.text) l₃ s in
      (none_fails_lem _ (none_left (form_checks (form_of Esi) Answered m) l₁ n), none_left (esi_key_checks c m.text) (room_checks t c today) k)

  esi_keys : ((x : ℕ) × (held_key c.transport (transport_generation_of m.text) ≡ Some x))
      × ((x : ℕ) × (held_key c.working (working_generation_of m.text) ≡ Some x))
  unfolding esi_key_checks
  esi_keys =
      let k = esi_none.1 in
      (good_held c.transport _ _ (fails-false _ k.0), good_held c.working _ _ (fails-false _ k.1.0))

-- the reply passes, whoever is compared
module _ (o : Opening) (t : Table) (x : Occasion) (m : Collected) (h : Held) (sound : sound_table t ≡ true) (l : length m.text ≡ 161)
    (e : first_failing (esi_checks t x.today m) ≡ Ok tt) where
  abbrev esi_u : Table
  esi_u = table_after t x m.text m.text 0

  abbrev esi_answer : Answering
  esi_answer = full_answer esi_u o false (outcome_of (Ok tt) (grant_to t x m.text m.text) x.made) m.text m.text

  abbrev esi_a : Accepted t x.today m.text
  esi_a = esi_accepted t x.today m e

  esi_made : Made esi_answer false
  esi_made =
      let w = (esi_keys t x.today m e).1 in
      made_so t sound o x false m.text m.text 0 l l esi_a w.0 w.1

  esi_formed : Facts ReplyEsi esi_answer
  unfolding full_answer
  esi_formed = esi_facts esi_answer m esi_made refl refl (esi_none t x.today m e).0

  module _ (same : SameKeys h (named t (sender_of m.text)) m.text) where
    esi_sound : first_failing (desk_esi_checks h (sent_by m.text m.text) (reply_of esi_answer)) ≡ Ok tt
    esi_sound =
        let w = (esi_keys t x.today m e).1 in
        none_fails_lem _
        (esi_passes esi_answer esi_formed h (keyed_so t sound o x false m.text m.text 0 l l esi_a w.0 w.1 h same)
        (sent_by m.text m.text)
        (answers_so esi_u o false _ m.text m.text l l refl refl))

    esi_passed : Passed h (named t (sender_of m.text)) (named esi_u (sender_of m.text)) m.text (reply_of esi_answer)
        (esi_checked h (sent_by m.text m.text) (reply_of esi_answer))
    unfolding esi_checked
    esi_passed =
        let w = (esi_keys t x.today m e).1 in
        let k = (esi_keys t x.today m e).0 in
        subst (λ (f : Result Unit Fault). Passed h (named t (sender_of m.text)) (named esi_u (sender_of m.text)) m.text (reply_of esi_answer)
        (checked_by h (reply_of esi_answer) f)) (sym esi_sound)
        (passed_so ReplyEsi t sound o x m.text m.text 0 l l esi_a esi_formed w.0 k.0 w.1 k.1 h same)

-- where the reply is K every check passed
passed_checks : (o : Opening) (s : Standing) (m : Collected) (a : Answering)
    → a ≡ verdict_answer (esi_table s.table (occasion o s.made) m) o false (esi_outcome s.table (occasion o s.made) m) m.text m.text
    → is_accepted a.code ≡ true → first_failing (esi_checks s.table o.today m) ≡ Ok tt
unfolding esi_outcome occasion
passed_checks o s m a q k =
    accepts (esi_checks s.table o.today m) (grant_to s.table (occasion o s.made) m.text m.text) s.made
    (esi_e s.table o.today m) _ refl
    (ap is_accepted (sym (ap (λ (y : Answering). y.code) q ∙ verdict_code _ o false _ m.text m.text)) ∙ k)

esi_full : (o : Opening) (s : Standing) (m : Collected) → first_failing (esi_checks s.table o.today m) ≡ Ok tt
    → verdict_answer (esi_table s.table (occasion o s.made) m) o false (esi_outcome s.table (occasion o s.made) m) m.text m.text
    ≡ full_answer (table_after s.table (occasion o s.made) m.text m.text 0) o false
    (outcome_of (Ok tt) (grant_to s.table (occasion o s.made) m.text m.text) (occasion o s.made).made) m.text m.text
unfolding esi_outcome occasion
esi_full o s m e =
    full_then s.table (occasion o s.made) o false m.text m.text _ _ _ e (esi_is s.table (occasion o s.made) m e)

pub esi_ends_pass : EsiPasses
unfolding esi_ends replies occasion
esi_ends_pass o s m a h sound l p k same =
    let x : Occasion = occasion o s.made in
    let v = esi_table s.table x m in
    let out = esi_outcome s.table x m in
    let q : a ≡ verdict_answer v o false out m.text m.text = sym (one_is _ _ p) in
    let e = passed_checks o s m a q k in
    let u = esi_is s.table x m e in
    let b : a ≡ esi_answer o s.table x m h sound l e = q ∙ esi_full o s m e in
    subst (λ (y : Answering). Passed h (sent_from s.table m.text) (sent_from v m.text) m.text (reply_of y)
    (esi_checked h (sent_by m.text m.text) (reply_of y))) (sym b)
    (subst (λ (y : Table). Passed h (sent_from s.table m.text) (sent_from y m.text) m.text
    (reply_of (esi_answer o s.table x m h sound l e)) (esi_checked h (sent_by m.text m.text)
    (reply_of (esi_answer o s.table x m h sound l e)))) (sym u)
    (esi_passed o s.table x m h sound l e
    (keys_before s.table sound o x false m.text m.text 0 l l (esi_accepted s.table x.today m e) h
    (subst (λ (y : Table). SameKeys h (sent_from s.table m.text) m.text ⊎ SameKeys h (sent_from y m.text) m.text) u same))))

-- ---- a frame

module _ (t : Table) (today : Date) (kind : ℕ) (f : Frame) (e : first_failing (frame_checks t today kind f) ≡ Ok tt) where
  abbrev fc : Customer
  fc = named t (sender_of f.suo.text)

  record FrameNone : Type 0 where
    suo : first_failing (form_checks (form_of Suo) Answered f.suo) ≡ Ok tt
    var : first_failing (form_checks (form_of Var) Closing f.var) ≡ Ok tt
    pairs : NoneFails (pair_checks f.suo.text f.var.text)
    keys : NoneFails (key_checks t fc today f)

  frame_none : FrameNone
  frame_none =
      let l₆ = key_checks t fc today f ++ room_checks t fc today in
      let l₅ = stamp_checks t fc today f.suo.text ++ l₆ in
      let l₄ = pair_checks f.suo.text f.var.text ++ l₅ in
      let l₃ = type_checks fc kind ++ l₄ in
      let l₂ = party_checks t f.suo.text ++ l₃ in
      let l₁ = form_checks (form_of Var) Closing f.var ++ l₂ in
      let n = accepted (frame_parts t fc today kind f) (ap first_failing (sym (frame_parts_lem t today kind f)) ∙ e) in
      let v = none_right (form_checks (form_of Suo) Answered f.suo) l₁ n in
      let p = none_right (form_checks (form_of Var) Closing f.var) l₂ v in
      let b = none_right (type_checks fc kind) l₄ (none_right (party_checks t f.suo.text) l₃ p) in
      let s = none_right (pair_checks f.suo.text f.var.text) l₅ b in
      let k = none_right (stamp_checks t fc today f.suo.text) l₆ s in
      record {
        suo = none_fails_lem _ (none_left (form_checks (form_of Suo) Answered f.suo) l₁ n);
        var = none_fails_lem _ (none_left (form_checks (form_of Var) Closing f.var) l₂ v);
        pairs = none_left (pair_checks f.suo.text f.var.text) l₅ b;
        keys = none_left (key_checks t fc today f) (room_checks t fc today) k;
      }

  frame_keys : ((x : ℕ) × (held_key fc.transport (transport_generation_of f.suo.text) ≡ Some x))
      × ((x : ℕ) × (held_key fc.working (working_generation_of f.suo.text) ≡ Some x))
  unfolding key_checks
  frame_keys =
      let k = frame_none.keys in
      (good_held fc.transport _ _ (fails-false _ (neither _ _ k.0).1), good_held fc.working _ _ (fails-false _ k.1.0))

  -- SUO and VAR name the same generations
  frame_generations : (field_text 100 f.suo.text ≡ field_text 100 f.var.text) × (field_text 110 f.suo.text ≡ field_text 110 f.var.text)
  unfolding pair_checks
  frame_generations =
      let n = frame_none.pairs in
      (same-eq _ _ (fails-false _ n.1.1.1.1.0), same-eq _ _ (fails-false _ n.1.1.1.1.1.0))

module _ (o : Opening) (t : Table) (x : Occasion) (f : Frame) (h : Held) (sound : sound_table t ≡ true) (l : length f.suo.text ≡ 161)
    (n : length f.var.text ≡ 161)
    (e : first_failing (frame_checks t x.today x.kind f) ≡ Ok tt) where
  abbrev pte_u : Table
  pte_u = table_after t x f.suo.text f.var.text (key_or0 f.once)

  abbrev pte_answer : Answering
  pte_answer = full_answer pte_u o true (outcome_of (Ok tt) (grant_to t x f.suo.text f.var.text) x.made) f.suo.text f.var.text

  abbrev pte_a : Accepted t x.today f.suo.text
  pte_a = frame_accepted t x.today x.kind f e

  pte_made : Made pte_answer true
  pte_made =
      let w = (frame_keys t x.today x.kind f e).1 in
      made_so t sound o x true f.suo.text f.var.text (key_or0 f.once) l n pte_a w.0 w.1

  pte_formed : Facts Pte pte_answer
  unfolding full_answer
  pte_formed =
      let z = frame_none t x.today x.kind f e in
      pte_facts pte_answer f.suo f.var pte_made refl refl z.suo z.var

  module _ (same : SameKeys h (named t (sender_of f.suo.text)) f.suo.text) where
    pte_sound : first_failing (desk_pte_checks h (sent_by f.suo.text f.var.text) (reply_of pte_answer)) ≡ Ok tt
    pte_sound =
        let w = (frame_keys t x.today x.kind f e).1 in
        let b = frame_generations t x.today x.kind f e in
        none_fails_lem _
        (pte_passes pte_answer pte_formed h
        (keyed_so t sound o x true f.suo.text f.var.text (key_or0 f.once) l n pte_a w.0 w.1 h same)
        (sent_by f.suo.text f.var.text)
        (answers_so pte_u o true _ f.suo.text f.var.text l n b.0 b.1))

    pte_passed : Passed h (named t (sender_of f.suo.text)) (named pte_u (sender_of f.suo.text)) f.suo.text (reply_of pte_answer)
        (pte_checked h (sent_by f.suo.text f.var.text) (reply_of pte_answer))
    unfolding pte_checked
    pte_passed =
        let w = (frame_keys t x.today x.kind f e).1 in
        let k = (frame_keys t x.today x.kind f e).0 in
        subst (λ (y : Result Unit Fault). Passed h (named t (sender_of f.suo.text)) (named pte_u (sender_of f.suo.text)) f.suo.text
        (reply_of pte_answer) (checked_by h (reply_of pte_answer) y)) (sym pte_sound)
        (passed_so Pte t sound o x f.suo.text f.var.text (key_or0 f.once) l n pte_a pte_formed w.0 k.0 w.1 k.1 h same)

-- where the reply is K every check passed
passed_frame : (o : Opening) (s : Standing) (f : Frame) (a : Answering)
    → a ≡ verdict_answer (frame_table s.table (occasion o s.made) f) o true (frame_outcome s.table (occasion o s.made) f)
    f.suo.text f.var.text
    → is_accepted a.code ≡ true → first_failing (frame_checks s.table o.today o.kind f) ≡ Ok tt
unfolding frame_outcome occasion
passed_frame o s f a q k =
    accepts (frame_checks s.table o.today o.kind f) (grant_to s.table (occasion o s.made) f.suo.text f.var.text) s.made
    (frame_e s.table o.today o.kind f) _ refl
    (ap is_accepted (sym (ap (λ (y : Answering). y.code) q ∙ verdict_code _ o true _ f.suo.text f.var.text)) ∙ k)

frame_full : (o : Opening) (s : Standing) (f : Frame) → first_failing (frame_checks s.table o.today o.kind f) ≡ Ok tt
    → verdict_answer (frame_table s.table (occasion o s.made) f) o true (frame_outcome s.table (occasion o s.made) f)
    f.suo.text f.var.text
    ≡ full_answer (table_after s.table (occasion o s.made) f.suo.text f.var.text (key_or0 f.once)) o true
    (outcome_of (Ok tt) (grant_to s.table (occasion o s.made) f.suo.text f.var.text) (occasion o s.made).made)
    f.suo.text f.var.text
unfolding frame_outcome occasion
frame_full o s f e =
    full_then s.table (occasion o s.made) o true f.suo.text f.var.text _ _ _ e (frame_is s.table (occasion o s.made) f e)

pub var_ends_pass : PtePasses
unfolding var_ends replies occasion frame_of
var_ends_pass o s g m a h sound l n p k same =
    let x : Occasion = occasion o s.made in
    let f : Frame = frame_of g m in
    let v = frame_table s.table x f in
    let out = frame_outcome s.table x f in
    let q : a ≡ verdict_answer v o true out g.suo.text m.text = sym (one_is _ _ p) in
    let e = passed_frame o s f a q k in
    let u = frame_is s.table x f e in
    let b : a ≡ pte_answer o s.table x f h sound l n e = q ∙ frame_full o s f e in
    subst (λ (y : Answering). Passed h (sent_from s.table g.suo.text) (sent_from v g.suo.text) g.suo.text (reply_of y)
    (pte_checked h (sent_by g.suo.text m.text) (reply_of y))) (sym b)
    (subst (λ (y : Table). Passed h (sent_from s.table g.suo.text) (sent_from y g.suo.text) g.suo.text
    (reply_of (pte_answer o s.table x f h sound l n e)) (pte_checked h (sent_by g.suo.text m.text)
    (reply_of (pte_answer o s.table x f h sound l n e)))) (sym u)
    (pte_passed o s.table x f h sound l n e
    (keys_before s.table sound o x true g.suo.text m.text (key_or0 g.once) l n
    (frame_accepted s.table x.today x.kind f e) h
    (subst (λ (y : Table). SameKeys h (sent_from s.table g.suo.text) g.suo.text ⊎ SameKeys h (sent_from y g.suo.text) g.suo.text)
    u same))))
