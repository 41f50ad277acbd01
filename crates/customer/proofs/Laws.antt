-- The stamps of a customer: each of the first n is real, and the room after them is zero.
-- Assumes nothing.
use mathlib.Core.Path.{◌≡◌}
use mathlib.Core.Bool.{Bool, true}
use mathlib.Core.List.{List, [], ◌∷◌}
use Prim.Native.Nat.{ℕ, zero, suc, ◌+◌, ◌≤◌, ◌<◌}
use native.Mathlib.Nat.{le_of_suc-le-suc, not-suc-le-zero}
use native.Mathlib.Numerals.{add-one}
use native.Mathlib.Omega.{arith}
use borrow.Author.Tests.{eqb-true}
use lib.Dec.{eqb}
use lib.ListN.{length, get_or, set}
use Rattle.ground.specs.Choice.{both}
use Rattle.ground.proofs.Choices.{left, right, join}
use Rattle.customer.specs.Customer.{real_stamp, sound_once, sound_stamps}

-- what is asked of a stamp and its one-time key, among the first n and in the room after them
abbrev pub used : ℕ → ℕ → Bool
used s k = both (real_stamp s) (sound_once k)

abbrev pub free : ℕ → ℕ → Bool
free s k = both (eqb s 0) (eqb k 0)

-- ---- each stamp

pub stamps_real : (n : ℕ) (ss ks : List ℕ) → sound_stamps n ss ks ≡ true → length ss ≡ length ks
    → (i : ℕ) → i < n → i < length ss → (real_stamp (get_or ss i 0) ≡ true) × (sound_once (get_or ks i 0) ≡ true)
unfolding sound_stamps
stamps_real n [] ks e l i m h = absurd (not-suc-le-zero h)
stamps_real n (s ∷ ss) [] e l i m h = absurd (omega arith)
stamps_real zero (s ∷ ss) (k ∷ ks) e l i m h = absurd (not-suc-le-zero m)
stamps_real (suc n) (s ∷ ss) (k ∷ ks) e l zero m h =
    let t = left (used s k) _ e in
    (left (real_stamp s) (sound_once k) t, right (real_stamp s) (sound_once k) t)
stamps_real (suc n) (s ∷ ss) (k ∷ ks) e l (suc i) m h =
    stamps_real n ss ks (right (used s k) _ e) (omega arith) i (le_of_suc-le-suc m) (le_of_suc-le-suc h)

pub stamps_zero : (n : ℕ) (ss ks : List ℕ) → sound_stamps n ss ks ≡ true → length ss ≡ length ks
    → (i : ℕ) → n ≤ i → i < length ss → (get_or ss i 0 ≡ 0) × (get_or ks i 0 ≡ 0)
unfolding sound_stamps
stamps_zero n [] ks e l i m h = absurd (not-suc-le-zero h)
stamps_zero n (s ∷ ss) [] e l i m h = absurd (omega arith)
stamps_zero zero (s ∷ ss) (k ∷ ks) e l zero m h =
    let t = left (free s k) _ e in
    (eqb-true s 0 (left (eqb s 0) (eqb k 0) t), eqb-true k 0 (right (eqb s 0) (eqb k 0) t))
stamps_zero zero (s ∷ ss) (k ∷ ks) e l (suc i) m h =
    stamps_zero zero ss ks (right (free s k) _ e) (omega arith) i (omega arith) (le_of_suc-le-suc h)
stamps_zero (suc n) (s ∷ ss) (k ∷ ks) e l zero m h = absurd (not-suc-le-zero m)
stamps_zero (suc n) (s ∷ ss) (k ∷ ks) e l (suc i) m h =
    stamps_zero n ss ks (right (used s k) _ e) (omega arith) i (le_of_suc-le-suc m) (le_of_suc-le-suc h)

-- ---- one stamp more

more : (n : ℕ) (ss ks : List ℕ) (s k : ℕ) → sound_stamps n ss ks ≡ true → n < length ss → length ss ≡ length ks
    → real_stamp s ≡ true → sound_once k ≡ true → sound_stamps (suc n) (set ss n s) (set ks n k) ≡ true
unfolding sound_stamps
more n [] ks s k e h l p q = absurd (not-suc-le-zero h)
more n (x ∷ ss) [] s k e h l p q = absurd (omega arith)
more zero (x ∷ ss) (y ∷ ks) s k e h l p q =
    join (used s k) _ (join (real_stamp s) (sound_once k) p q) (right (free x y) _ e)
more (suc n) (x ∷ ss) (y ∷ ks) s k e h l p q =
    join (used x y) _ (left (used x y) _ e)
    (more n ss ks s k (right (used x y) _ e) (le_of_suc-le-suc h) (omega arith) p q)

pub sound_stamp_more : (n : ℕ) (ss ks : List ℕ) (s k : ℕ) → sound_stamps n ss ks ≡ true → n < length ss → length ss ≡ length ks
    → real_stamp s ≡ true → sound_once k ≡ true → sound_stamps (n + 1) (set ss n s) (set ks n k) ≡ true
sound_stamp_more n ss ks s k e h l p q = rw (add-one n) (more n ss ks s k e h l p q)
