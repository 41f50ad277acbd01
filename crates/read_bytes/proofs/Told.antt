-- Characters enciphered by the true table and the one-time key's round keys are what the session hears; none at all leave it as it was.
-- Assumes nothing.
use Prim.Native.Nat.{ℕ}
use mathlib.Core.Path.{◌≡◌, sym, ap, ap₂, ◌∙◌}
use mathlib.Core.Bool.{Bool, true, false}
use mathlib.Core.List.{List, [], ◌∷◌, ◌++◌}
use borrow.Author.Tests.{eq-eqb, ne_eqb}
use Rattle.ground.proofs.Choices.{picks, skips}
use Rattle.des.specs.Des.{schedule_of}
use Rattle.des.specs.Joined.{joined, joined_by}
use Rattle.des.proofs.Joined.{joined-cipher}
use Rattle.checks.specs.Checks.{key_or0}
use Rattle.whole_file.specs.Records.{cr}
use Rattle.session.specs.Lines.{waited}
use Rattle.session.specs.Events.{cipher_of, heard_by, heard}
use Rattle.session.specs.declared.Session.{Session}
use Rattle.law_cutting.proofs.Plain.{heard_none}
use Rattle.read_bytes.specs.Runs.{told_by}

-- the cipher by the true table and the one-time key's round keys
pub serves : (s : Session) (boxes keys : List ℕ) → boxes ≡ joined → keys ≡ schedule_of (key_or0 s.batch.once) → joined_by boxes keys ≡ cipher_of s
unfolding cipher_of
serves s boxes keys et ek =
    ap₂ {C = ℕ → ℕ} (λ (t k : List ℕ). joined_by t k) et ek ∙ joined-cipher (schedule_of (key_or0 s.batch.once))

pub hears : (s : Session) (boxes keys l : List ℕ) → (boxes ≡ joined) × (keys ≡ schedule_of (key_or0 s.batch.once))
    → heard_by (joined_by boxes keys) s l ≡ heard s l
unfolding heard
hears s boxes keys l e = ap (λ (f : ℕ → ℕ). heard_by f s l) (serves s boxes keys e.0 e.1)

module _ (s : Session) (waiting : Bool) where
  pub waits : waiting ≡ true → heard s (cr ∷ []) ≡ heard s (waited waiting)
  unfolding waited
  waits e = ap (λ (t : Bool). heard s (waited t)) (sym e)

  pub none_waits : waiting ≡ false → s ≡ heard s (waited waiting)
  unfolding waited
  none_waits e = sym (heard_none s) ∙ ap (λ (t : Bool). heard s (waited t)) (sym e)

  module _ (b : ℕ) where
    pub told_cr : b ≡ cr → heard s (waited waiting) ≡ heard s (told_by waiting b)
    unfolding told_by
    told_cr e = ap (heard s) (sym (picks _ _ _ (eq-eqb b cr e)))

    pub told_other : (b ≡ cr → ⊥) → heard s (waited waiting ++ (b ∷ [])) ≡ heard s (told_by waiting b)
    unfolding told_by
    told_other e = ap (heard s) (sym (skips _ _ _ (ne_eqb b cr e)))

    pub both_told : waiting ≡ true → (b ≡ cr → ⊥) → heard s (cr ∷ b ∷ []) ≡ heard s (told_by waiting b)
    unfolding waited
    both_told w e = ap (λ (t : Bool). heard s (waited t ++ (b ∷ []))) (sym w) ∙ told_other e

    pub one_told : waiting ≡ false → (b ≡ cr → ⊥) → heard s (b ∷ []) ≡ heard s (told_by waiting b)
    unfolding waited
    one_told w e = ap (λ (t : Bool). heard s (waited t ++ (b ∷ []))) (sym w) ∙ told_other e
