-- A check over bytes is the check of the desk that they say, by the fields of what was sent; so where that one passes, the call answers 0 and
-- leaves what the desk is then.
-- Assumes nothing.
use Prim.Native.Nat.{ℕ}
use mathlib.Core.Path.{◌≡◌, sym, ap, ◌∙◌, subst}
use mathlib.Core.Bool.{true}
use mathlib.Core.List.{List}
use borrow.Author.Tests.{eq-eqb}
use lib.ListN.{length}
use Rattle.ground.proofs.Choices.{join, picks}
use Rattle.customer.specs.declared.Customer.{Customer}
use Rattle.message.specs.declared.Kind.TheVariants.{Esi, Suo, Var}
use Rattle.whole_file.specs.Messages.{known_text}
use Rattle.desk.specs.Desk.{esi_checked, pte_checked}
use Rattle.desk.specs.Sent.{sent_by}
use Rattle.desk.specs.declared.Held.{Held}
use Rattle.desk.specs.declared.Sent.{Sent}
use Rattle.desk.specs.declared.Finding.{Finding}
use Rattle.desk.specs.declared.Checked.{Checked}
use Rattle.desk_bytes.specs.Layout.{sent_size}
use Rattle.desk_bytes.specs.Bytes.{held_in, sent_in}
use Rattle.desk_edge.specs.Calls.{sent_after_call, finding_code, is_served, esi_by, pte_by, check_answer}
use Rattle.law_desk.specs.Desks.{Passed, Lending, PassedCall}
use Rattle.law_desk.proofs.Sent.{sent_long, sent_size_fact, sent_said, esi_sent, batch_sent}
use Rattle.law_desk.proofs.Back.{esi_back, pte_back}

-- where all is lent as it should be, the check is served
lent_served : (held word first closing room : List ℕ) → Lending held word first closing room
    → is_served held (sent_after_call first closing room) word ≡ true
unfolding is_served
lent_served held word first closing room w =
    join _ _ w.desk
    (join _ _ (eq-eqb _ sent_size (sent_size_fact first closing room w.taken w.bytes.1 w.bytes.2)) (eq-eqb _ 3 w.words))

answers_0 : (held sent word : List ℕ) (c d : Customer) (m r : List ℕ) (x : Checked) → is_served held sent word ≡ true
    → Passed (held_in held) c d m r x → check_answer (is_served held sent word) x ≡ 0
unfolding check_answer finding_code
answers_0 held sent word c d m r x e p = picks _ _ _ e ∙ ap finding_code p.passes

pub esi_called : (held word first room : List ℕ) → Lending held word first first room → (m r : List ℕ) (c d : Customer)
    → known_text Esi first ≡ m → Passed (held_in held) c d m r (esi_checked (held_in held) (sent_by m m) r)
    → PassedCall held (sent_after_call first first room) word c d m r (esi_by held (sent_after_call first first room) r)
unfolding esi_by
esi_called held word first room w m r c d q p =
    let sent = sent_after_call first first room in
    let t = lent_served held word first first room w in
    let z : sent_in sent ≡ sent_by m m =
    sent_said first first room w.taken w.bytes.1 w.bytes.2 ∙ esi_sent m first (sent_long first first room w.taken).closes q in
    let v = subst (λ (s : Sent). Passed (held_in held) c d m r (esi_checked (held_in held) s r)) (sym z) p in
    record { answers = answers_0 held sent word c d m r _ t v; desk = v; keeps = esi_back held sent r word w.bytes.0 t }

pub pte_called : (held word first closing room : List ℕ) → Lending held word first closing room → (suo m r : List ℕ) (c d : Customer)
    → known_text Suo first ≡ suo → known_text Var closing ≡ m → Passed (held_in held) c d suo r (pte_checked (held_in held) (sent_by suo m) r)
    → PassedCall held (sent_after_call first closing room) word c d suo r (pte_by held (sent_after_call first closing room) r)
unfolding pte_by
pte_called held word first closing room w suo m r c d q j p =
    let sent = sent_after_call first closing room in
    let t = lent_served held word first closing room w in
    let z : sent_in sent ≡ sent_by suo m =
    sent_said first closing room w.taken w.bytes.1 w.bytes.2
    ∙ batch_sent suo m first closing (sent_long first closing room w.taken) q j in
    let v = subst (λ (s : Sent). Passed (held_in held) c d suo r (pte_checked (held_in held) s r)) (sym z) p in
    record { answers = answers_0 held sent word c d suo r _ t v; desk = v; keeps = pte_back held sent r word w.bytes.0 t }
