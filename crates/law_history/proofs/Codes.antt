-- Which codes are K: those that acceptance grants, with the whole reply; the code of no check that fails is.
-- Assumes nothing.
use Prim.Native.Nat.{ℕ}
use mathlib.Core.Path.{◌≡◌, refl}
use mathlib.Core.List.{List}
use mathlib.Core.Bool.{Bool, true, false}
use Rattle.ground.specs.Choice.{both, fails, pick}
use Rattle.ground.specs.Lists.{all, member}
use Rattle.ground.proofs.Choices.{fails-true}
use Rattle.ground.proofs.Lists.{all-member}
use Rattle.calendar.specs.declared.Date.{Date}
use Rattle.acceptance.proofs.Grants.{codes as granted, grant_code}
use Rattle.table.specs.Table.{Table}
use Rattle.message.specs.Layout.{layout}
use Rattle.message.specs.Order.{first_failing, fault_at}
use Rattle.message.proofs.Order.{each_check, first_each}
use Rattle.message.specs.Rules.{each_field, form_checks}
use Rattle.message.specs.declared.About.{About}
use Rattle.checks.specs.Checks.{party_checks, stamp_checks, room_checks, esi_key_checks, type_checks, pair_checks, key_checks, esi_checks}
use Rattle.checks.specs.Checks.{frame_checks}
use Rattle.verdict.specs.Outcomes.{grant_to}
use Rattle.message.specs.declared.Collected.{Collected}
use Rattle.checks.specs.declared.Frame.{Frame}
use Rattle.checks.specs.declared.Occasion.{Occasion}
use Rattle.notice.specs.Codes.{code_in, codes}
use Rattle.law_history.specs.History.{reading_codes}

-- K or E, and bare or full
abbrev pub is_accepted : ℕ → Bool
is_accepted code = (code_in code codes).accepted

abbrev pub is_bare : ℕ → Bool
is_bare code = (code_in code codes).bare

-- ---- what is granted is K, and full

granted_accepted : all is_accepted granted ≡ true
unfolding all both code_in pick
granted_accepted = refl

granted_full : all (λ c. fails (is_bare c)) granted ≡ true
unfolding all both fails code_in pick
granted_full = refl

-- ---- the bare answers of the reading rules are E

reading_all_e : all (λ c. fails (is_accepted c)) reading_codes ≡ true
unfolding all both fails code_in pick
reading_all_e = refl

pub reading_e : (code : ℕ) → member code reading_codes ≡ true → is_accepted code ≡ false
reading_e code m = fails-true _ (all-member (λ c. fails (is_accepted c)) reading_codes code reading_all_e m)

module _ (t : Table) (o : Occasion) (m closing : List ℕ) where
  granted_code : member (grant_to t o m closing).code granted ≡ true
  unfolding grant_to
  granted_code = grant_code _ _ _ _ _ _

  pub grants_k : is_accepted (grant_to t o m closing).code ≡ true
  grants_k = all-member is_accepted granted _ granted_accepted granted_code

  pub grants_full : is_bare (grant_to t o m closing).code ≡ false
  grants_full = fails-true _ (all-member (λ c. fails (is_bare c)) granted _ granted_full granted_code)

-- ---- the code of a check that fails is E

is_e : ℕ → ℕ → Bool
is_e code field = fails (is_accepted code)

esi_all_e : (t : Table) (today : Date) (m : Collected) → each_check is_e (esi_checks t today m) ≡ true
unfolding is_e each_check esi_checks form_checks each_field layout party_checks stamp_checks esi_key_checks room_checks both fails code_in pick
esi_all_e t today m = refl

frame_all_e : (t : Table) (today : Date) (kind : ℕ) (f : Frame) → each_check is_e (frame_checks t today kind f) ≡ true
unfolding is_e each_check frame_checks form_checks each_field layout party_checks type_checks pair_checks stamp_checks key_checks room_checks both
    fails code_in pick
frame_all_e t today kind f = refl

pub esi_e : (t : Table) (today : Date) (m : Collected) (code field : ℕ) (about : About)
    → first_failing (esi_checks t today m) ≡ fault_at code field about → is_accepted code ≡ false
unfolding is_e
esi_e t today m code field about e = fails-true _ (first_each is_e (esi_checks t today m) code field about (esi_all_e t today m) e)

pub frame_e : (t : Table) (today : Date) (kind : ℕ) (f : Frame) (code field : ℕ) (about : About)
    → first_failing (frame_checks t today kind f) ≡ fault_at code field about → is_accepted code ≡ false
unfolding is_e
frame_e t today kind f code field about e =
    fails-true _ (first_each is_e (frame_checks t today kind f) code field about (frame_all_e t today kind f) e)
