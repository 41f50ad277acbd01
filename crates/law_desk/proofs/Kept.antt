-- A reply that passes leaves the desk with the bank's current working key: an enclosed one is kept, under the generation after the one used,
-- and the key that was used stays beside it.
-- Assumes nothing.
use Rattle.std.specs.Prelude.{None, Option, Some, Ok}
use Prim.Native.Nat.{ℕ, ◌+◌}
use mathlib.Core.Path.{◌≡◌, refl, sym, ap, ap₂, ◌∙◌}
use mathlib.Core.Bool.{Bool, true, false}
use mathlib.Core.List.{List}
use native.Mathlib.Omega.{arith}
use borrow.Author.Tests.{ne_eqb, ltb-false}
use lib.Dec.{eqb, ltb}
use lib.ListN.{length}
use Rattle.ground.specs.Choice.{pick}
use Rattle.ground.proofs.Choices.{decides, fails_right, picks, skips}
use Rattle.ground.proofs.Bools.{clash}
use Rattle.keys.specs.Keys.{next_generation}
use Rattle.customer.specs.declared.Customer.{Customer}
use Rattle.changeover.specs.Held.{held_key}
use Rattle.changeover.proofs.Laws.{next_differs}
use Rattle.table.specs.Table.{Table, sound_table}
use Rattle.table.specs.Named.{named}
use Rattle.message.specs.Fields.{sender_of, transport_generation_of, working_generation_of}
use Rattle.checks.specs.Checks.{key_or0}
use Rattle.checks.specs.declared.Occasion.{Occasion}
use Rattle.verdict.specs.Outcomes.{grant_to, table_after, outcome_of, is_sound}
use Rattle.verdict.proofs.Laws.{Accepted}
use Rattle.reply.specs.Reply.{sealed, enclosed_key, reply_of}
use Rattle.reply.specs.declared.Answering.{Answering}
use Rattle.answers.specs.Answers.{full_answer}
use Rattle.opening.specs.declared.Opening.{Opening}
use Rattle.desk_form.specs.Replies.{encloses}
use Rattle.desk_form.specs.declared.Reply.{Reply}
use Rattle.desk.specs.Held.{before_named, key_named}
use Rattle.desk.specs.Desk.{enclosed_in, with_enclosed, kept_from, held_after, finding_of, checked_by}
use Rattle.desk.specs.declared.Held.{Held}
use Rattle.desk.specs.declared.Keys.{Keys}
use Rattle.law_desk.specs.Desks.{SameKeys, Passed}
use Rattle.law_desk.proofs.Form.{Facts, is_pte, encloses_is, encloses_none}
use Rattle.law_desk.proofs.Passes.{Keyed, working_is, enclosed_is}
use Rattle.law_desk.proofs.Accepted.{keyed_so, working_held, transport_held_lem, current_after, same_after}
use Rattle.desk.specs.declared.Numbered.{Numbered}

-- ---- the keys of a desk

was_named : (w : Keys) (used : ℕ) → eqb w.generation used ≡ true
    → before_named (Some (record { generation = w.generation; key = w.key })) used ≡ Some w.key
unfolding before_named
was_named w used e = picks _ _ _ e

-- the key that was used stays
used_stays : (w : Keys) (used key : ℕ) → key_named (with_enclosed w used key) used ≡ key_named w used
unfolding key_named with_enclosed
used_stays w used key = skips _ _ _ (ne_eqb _ _ (next_differs used)) ∙ by (eqb w.generation used) refl
  where
    by : (t : Bool) → eqb w.generation used ≡ t
        → before_named (pick (eqb w.generation used) (Some (record { generation = w.generation; key = w.key })) w.before) used
        ≡ pick (eqb w.generation used) (Some w.key) (before_named w.before used)
    by true e =
        ap (λ (b : Option Numbered). before_named b used) (picks _ _ _ e)
        ∙ was_named w used e
        ∙ sym (picks _ _ _ e)
    by false e = ap (λ (b : Option Numbered). before_named b used) (skips _ _ _ e) ∙ sym (skips _ _ _ e)

-- ---- the desk after a reply that passes

module _ (k : Reply) (t : Table) (sound : sound_table t ≡ true) (o : Opening) (x : Occasion) (m closing : List ℕ) (once : ℕ)
    (l : length m ≡ 161) (n : length closing ≡ 161) (a : Accepted t x.today m) where
  abbrev c : Customer
  c = named t (sender_of m)

  abbrev d : Customer
  d = named (table_after t x m closing once) (sender_of m)

  abbrev answer : Answering
  answer = full_answer (table_after t x m closing once) o (is_pte k) (outcome_of (Ok tt) (grant_to t x m closing) x.made) m closing

  abbrev r : List ℕ
  r = reply_of answer

  module _ (f : Facts k answer) (w tk : ℕ) (held : held_key c.working (working_generation_of m) ≡ Some w)
      (sealing : held_key c.transport (transport_generation_of m) ≡ Some tk) (h : Held) (same : SameKeys h c m) where
    keyed : Keyed h answer
    keyed = keyed_so t sound o x (is_pte k) m closing once l n a w held h same

    -- a key is enclosed exactly if one is granted
    sealed_none : (e : Option ℕ) → sealed (Some tk) e ≡ None → e ≡ None
    unfolding sealed
    sealed_none None p = refl
    sealed_none (Some y) p = absurd (let z : ◌≡◌ {A = ℕ} 0 1 = cc in omega arith)

    transport_is : answer.transport ≡ Some tk
    unfolding full_answer
    transport_is = transport_held_lem t sound o x (is_pte k) m closing once l n a ∙ sealing

    granted_none : enclosed_key answer ≡ None → (grant_to t x m closing).enclosed ≡ None
    unfolding enclosed_key full_answer outcome_of
    granted_none p =
        sealed_none (grant_to t x m closing).enclosed
        (ap (λ (y : Option ℕ). sealed y (grant_to t x m closing).enclosed) (sym transport_is)
        ∙ sym (skips false None (sealed answer.transport (grant_to t x m closing).enclosed) refl) ∙ p)

    none_kept : encloses r ≡ false → held_after h r (Ok tt) ≡ h
    unfolding held_after
    none_kept e = skips _ _ _ (fails_right _ _ e)

    one_kept : encloses r ≡ true → held_after h r (Ok tt) ≡ kept_from h r
    unfolding held_after is_sound
    one_kept e = picks _ _ _ (decides true _ refl ∙ e)

    -- by the field that says so
    enclosing : (e : Option ℕ) → enclosed_key answer ≡ e → encloses r ≡ true → (y : ℕ) × (enclosed_key answer ≡ Some y)
    enclosing None p q = absurd (clash _ q (encloses_none k answer f p))
    enclosing (Some y) p q = (y, p)

    not_enclosing : (e : Option ℕ) → enclosed_key answer ≡ e → encloses r ≡ false → enclosed_key answer ≡ None
    not_enclosing None p q = p
    not_enclosing (Some y) p q = absurd (clash _ (encloses_is k answer f y p) q)

    granted_is : (y : ℕ) → answer.enclosed ≡ Some y → (grant_to t x m closing).enclosed ≡ Some y
    unfolding full_answer outcome_of
    granted_is y e = e

    kept_working : (y : ℕ) → enclosed_in h r ≡ Some y → (kept_from h r).working ≡ with_enclosed h.working (working_generation_of m) y
    unfolding kept_from key_or0 full_answer
    kept_working y e = ap₂ (with_enclosed h.working) (working_is k answer f) (ap key_or0 e)

    kept_current : encloses r ≡ true
        → ((held_after h r (Ok tt)).working.generation ≡ d.working.generation) × ((held_after h r (Ok tt)).working.key ≡ d.working.key)
    unfolding with_enclosed
    kept_current q =
        let p = enclosing _ refl q in
        let y = enclosed_is k answer f h keyed p.0 p.1 in
        let b = current_after t sound o x (is_pte k) m closing once l n a w held y.0 (granted_is y.0 y.1) in
        let e : (held_after h r (Ok tt)).working ≡ with_enclosed h.working (working_generation_of m) y.0
        = ap (λ (z : Held). z.working) (one_kept q) ∙ kept_working y.0 y.2 in
        (ap (λ (z : Keys). z.generation) e ∙ sym b.0, ap (λ (z : Keys). z.key) e ∙ sym b.1)

    -- of the generation that the message names the same key is held
    named_still : (b : Bool) → encloses r ≡ b
        → key_named (held_after h r (Ok tt)).working (working_generation_of m) ≡ key_named h.working (working_generation_of m)
    named_still true q =
        let p = enclosing _ refl q in
        let y = enclosed_is k answer f h keyed p.0 p.1 in
        ap (λ (z : Keys). key_named z (working_generation_of m))
        (ap (λ (z : Held). z.working) (one_kept q) ∙ kept_working y.0 y.2)
        ∙ used_stays h.working (working_generation_of m) y.0
    named_still false q = ap (λ (z : Held). key_named z.working (working_generation_of m)) (none_kept q)

    -- nothing else of the desk changes
    rest_stays : (b : Bool) → encloses r ≡ b
        → ((held_after h r (Ok tt)).own ≡ h.own) × ((held_after h r (Ok tt)).bank ≡ h.bank) × ((held_after h r (Ok tt)).transport ≡ h.transport)
    unfolding kept_from
    rest_stays true q =
        (ap (λ (z : Held). z.own) (one_kept q), ap (λ (z : Held). z.bank) (one_kept q), ap (λ (z : Held). z.transport) (one_kept q))
    rest_stays false q =
        (ap (λ (z : Held). z.own) (none_kept q), ap (λ (z : Held). z.bank) (none_kept q), ap (λ (z : Held). z.transport) (none_kept q))

    pub passed_so : Passed h c d m r (checked_by h r (Ok tt))
    unfolding checked_by finding_of
    passed_so =
        let s = rest_stays _ refl in
        record {
          passes = refl;
          own = s.0;
          bank = s.1;
          transport = s.2;
          kept = kept_current;
          stays = λ q.
              let e = same_after t sound o x (is_pte k) m closing once l n a (granted_none (not_enclosing _ refl q)) in
              (none_kept q, e.0, e.1);
          still = record {
            own = s.0 ∙ same.own;
            transport = ap (λ (z : Keys). key_named z (transport_generation_of m)) s.2 ∙ same.transport
                ∙ sym (transport_held_lem t sound o x (is_pte k) m closing once l n a);
            working = named_still _ refl ∙ same.working ∙ sym (working_held t sound o x (is_pte k) m closing once l n a);
          };
        }
