-- A finding is the first failing check's, since the desk's two lists are looked at in their order; no list has another code.
-- Assumes nothing.
use Rattle.std.specs.Prelude.{Err, Ok, Result}
use Prim.Native.Nat.{ℕ}
use mathlib.Core.Path.{◌≡◌, refl, sym, ap, ◌∙◌}
use mathlib.Core.Bool.{Bool, true, false}
use mathlib.Core.List.{List, [], ◌∷◌}
use native.Mathlib.Omega.{arith}
use Rattle.ground.specs.Choice.{both, either, fails, pick}
use Rattle.ground.specs.Lists.{member}
use Rattle.ground.proofs.Choices.{join}
use Rattle.message.specs.declared.Check.{Check}
use Rattle.message.specs.Order.{first_failing, fault_at}
use Rattle.message.specs.Rules.{each_field}
use Rattle.message.specs.declared.About.{About}
use Rattle.message.specs.declared.Fault.{Fault}
use Rattle.message.proofs.Order.{NoneFails, accepted, none_fails_lem, found_first, each_check, first_each, parts}
use Rattle.verdict.specs.Outcomes.{is_sound}
use Rattle.desk_form.specs.Replies.{reply_layout, encloses, reply_checks}
use Rattle.desk.specs.declared.Finding.{Finding}
use Rattle.desk.specs.Desk.{receiver_checks, reply_key_checks, stamp_sent_checks, desk_esi_checks, batch_sent_checks, came_checks, desk_pte_checks, finding_at}
use Rattle.desk.specs.declared.Finding.{Finding}
use Rattle.desk.specs.Desk.{kept_from, held_after, finding_of, checked_by, esi_checked, pte_checked}
use Rattle.desk.specs.declared.Held.{Held}
use Rattle.desk.specs.declared.Sent.{Sent}
use Rattle.law_demands.specs.Demands.{none_fails}
use Rattle.law_demands.proofs.Accepted.{true_none}
use Rattle.law_desk.specs.Desks.{FoundBy, FindingFirst, KeysKept, esi_findings, pte_findings, OnlyListed}

-- ---- no check fails, as a test

none_true : (cs : List Check) → NoneFails cs → none_fails cs ≡ true
unfolding none_fails fails
none_true [] n = refl
none_true (c ∷ cs) n = join _ _ (ap fails n.0) (none_true cs n.1)

-- ---- a finding

abbrev told_code : Result Unit Finding → ℕ
told_code (Ok _) = 0
told_code (Err finding) = finding.code

abbrev told_field : Result Unit Finding → ℕ
told_field (Ok _) = 0
told_field (Err finding) = finding.field

passes_of : (f : Result Unit Fault) → finding_of f ≡ Ok tt → f ≡ Ok tt
unfolding finding_of
passes_of (Ok _) e = refl
passes_of (Err fault) e = absurd (let z : ◌≡◌ {A = ℕ} 0 1 = cc in omega arith)

fails_of : (f : Result Unit Fault) (code field : ℕ) → finding_of f ≡ finding_at code field → (about : About) × (f ≡ fault_at code field about)
unfolding finding_of
fails_of (Ok _) code field e = absurd (let z : ◌≡◌ {A = ℕ} 0 1 = cc in omega arith)
fails_of (Err fault) code field e =
    let p : fault.code ≡ code = ap told_code e in
    let q : fault.field ≡ field = ap told_field e in
    (fault.about, parts fault code field p q)

found_by : (h : Held) (r : List ℕ) (checks : List Check) → FoundBy checks (checked_by h r (first_failing checks))
unfolding checked_by finding_of
found_by h r checks =
    record {
      passes = λ n. ap finding_of (none_fails_lem checks (true_none checks n));
      passed = λ e. none_true checks (accepted checks (passes_of (first_failing checks) e));
      first = λ before here after order n fail.
          ap finding_of (found_first checks here.code here.field here.about
          (record { before = before; here = here; after = after; order = order; passed = true_none before n; failed = fail; is = refl }));
    }

pub finding_first : FindingFirst
unfolding esi_checked pte_checked
finding_first h s r = (found_by h r (desk_esi_checks h s r), found_by h r (desk_pte_checks h s r))

-- ---- the keys

sound_is : (checks : List Check) (f : Result Unit Fault) → first_failing checks ≡ f → is_sound f ≡ none_fails checks
unfolding is_sound
sound_is checks (Ok _) e = sym (none_true checks (accepted checks e))
sound_is checks (Err fault) e = by (none_fails checks) refl
  where
    by : (t : Bool) → none_fails checks ≡ t → false ≡ none_fails checks
    by true p =
        let q : Err fault ≡ Ok tt = sym e ∙ none_fails_lem checks (true_none checks p) in
        absurd (let z : ◌≡◌ {A = ℕ} 0 1 = cc in omega arith)
    by false p = sym p

kept_by : (h : Held) (r : List ℕ) (checks : List Check)
    → (checked_by h r (first_failing checks)).held ≡ pick (both (none_fails checks) (encloses r)) (kept_from h r) h
unfolding checked_by held_after
kept_by h r checks = ap (λ (t : Bool). pick (both t (encloses r)) (kept_from h r) h) (sound_is checks (first_failing checks) refl)

pub keys_kept : KeysKept
unfolding esi_checked pte_checked
keys_kept h s r = (kept_by h r (desk_esi_checks h s r), kept_by h r (desk_pte_checks h s r))

-- ---- the codes

esi_codes : (h : Held) (s : Sent) (r : List ℕ) → each_check (λ code field. member code esi_findings) (desk_esi_checks h s r) ≡ true
unfolding desk_esi_checks reply_checks receiver_checks stamp_sent_checks reply_key_checks each_field reply_layout each_check member both either
esi_codes h s r = refl

pte_codes : (h : Held) (s : Sent) (r : List ℕ) → each_check (λ code field. member code pte_findings) (desk_pte_checks h s r) ≡ true
unfolding desk_pte_checks came_checks reply_checks receiver_checks batch_sent_checks reply_key_checks each_field reply_layout each_check member both either
pte_codes h s r = refl

pub only_listed : OnlyListed
unfolding esi_checked pte_checked checked_by
only_listed h s r code field = (
  λ e. let f = fails_of (first_failing (desk_esi_checks h s r)) code field e in
      first_each (λ c n. member c esi_findings) (desk_esi_checks h s r) code field f.0 (esi_codes h s r) f.1,
  λ e. let f = fails_of (first_failing (desk_pte_checks h s r)) code field e in
      first_each (λ c n. member c pte_findings) (desk_pte_checks h s r) code field f.0 (pte_codes h s r) f.1,
)
