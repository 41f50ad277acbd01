-- A record that fits and is sound is read back as it was written: each of its numbers is below what its bytes hold.
-- Assumes nothing.
use Rattle.std.specs.Prelude.{None, Option, Some}
use mathlib.Core.Path.{◌≡◌, sym, ◌∙◌}
use mathlib.Core.List.{List, [], ◌∷◌}
use mathlib.Core.Bool.{true}
use mathlib.Core.Logic.{⊎_elim}
use Prim.Native.Nat.{ℕ, zero, suc, ◌^◌, ◌<◌}
use native.Mathlib.Omega.{arith}
use borrow.Author.Tests.{eqb-true, leb-true, ltb-true}
use lib.Dec.{eqb}
use lib.ListN.{length, get_or}
use Rattle.ground.proofs.Choices.{left, right, either_cases, between-true}
use Rattle.ground.proofs.Lists.{each_below}
use Rattle.calendar.specs.Dates.{real_date}
use Rattle.customer.specs.Customer.{sound_previous, sound_keys, real_stamp, sound_stamps, sound_customer}
use Rattle.customer.specs.Settings.{sound_settings}
use Rattle.customer.specs.declared.KeyPair.{KeyPair}
use Rattle.customer.specs.declared.Customer.{Customer}
use Rattle.customer.specs.declared.Settings.{Settings}
use Rattle.codec.specs.Layout.{perhaps, Fits}
use Rattle.customer_bytes.specs.Layout.{previous_held, pair_shape, customer_shape, settings_shape, previous_to, pair_to, customer_to, settings_to}
use Rattle.table.specs.Table.{word, previous_fits, pair_fits, customer_fits, settings_fit}
use Rattle.customer.specs.declared.Changeover.{Changeover}

-- ---- keys

pub real_lt : (d : ℕ) → real_date d ≡ true → d < 256 ^ 4
unfolding real_date
real_lt d e = let h = ltb-true d 1000000 (left _ _ e) in omega arith

word_lt : (x : ℕ) → word x ≡ true → x < 256 ^ 8
word_lt x e = omega (arith, ltb-true x (2 ^ 64) e)

previous_shaped : (current : ℕ) (p : Option Changeover) → previous_fits p ≡ true → sound_previous current p ≡ true
    → Fits (perhaps previous_held) (previous_to p)
unfolding previous_fits sound_previous
previous_shaped current None f e = tt
previous_shaped current (Some p) f e =
    let e₃ = right _ _ (right _ _ (right _ _ e)) in
    let g = leb-true p.generation 9 (left _ _ e) in
    (omega arith, (word_lt p.key f, (real_lt p.first.yymmdd (left _ _ e₃), real_lt p.last.yymmdd (left _ _ (right _ _ e₃)))))

pair_shaped : (k : KeyPair) → pair_fits k ≡ true → sound_keys k ≡ true → Fits pair_shape (pair_to k)
unfolding sound_keys
pair_shaped k f e =
    let g = leb-true k.generation 9 (left _ _ e) in (
      omega arith,
      (word_lt k.key (left _ _ f), previous_shaped k.generation k.previous (right _ _ f) (right _ _ (right _ _ e))),
    )

-- ---- stamps

stamp_lt : (s : ℕ) → real_stamp s ≡ true → s < 256 ^ 8
unfolding real_stamp
stamp_lt s e = let h = ltb-true s 1000000000000000 (left _ _ e) in omega arith

stamps_lt : (n : ℕ) (ss ks : List ℕ) → sound_stamps n ss ks ≡ true → length ss ≡ length ks → (k : ℕ) → get_or ss k 0 < 256 ^ 8
unfolding sound_stamps
stamps_lt n [] ks e l k = omega arith
stamps_lt n (s ∷ ss) [] e l k = absurd (omega arith)
stamps_lt zero (s ∷ ss) (q ∷ ks) e l zero = let h = eqb-true s 0 (left _ _ (left _ _ e)) in omega arith
stamps_lt zero (s ∷ ss) (q ∷ ks) e l (suc k) = stamps_lt zero ss ks (right _ _ e) (omega arith) k
stamps_lt (suc n) (s ∷ ss) (q ∷ ks) e l zero = stamp_lt s (left _ _ (left _ _ e))
stamps_lt (suc n) (s ∷ ss) (q ∷ ks) e l (suc k) = stamps_lt n ss ks (right _ _ e) (omega arith) k

-- ---- a customer, and the settings

pub customer_shaped : (c : Customer) → customer_fits c ≡ true → sound_customer c ≡ true → Fits customer_shape (customer_to c)
unfolding customer_fits sound_customer
customer_shaped c f e =
    let f₁ = right _ _ f in
    let f₂ = right _ _ f₁ in
    let f₃ = right _ _ f₂ in
    let f₄ = right _ _ f₃ in
    let e₁ = right _ _ e in
    let e₂ = right _ _ e₁ in
    let e₃ = right _ _ e₂ in
    let e₄ = right _ _ e₃ in
    let e₅ = right _ _ e₄ in
    let ss : length c.stamps ≡ 64 = eqb-true _ _ (left _ _ f₁) in
    let ks : length c.once ≡ 64 = eqb-true _ _ (left _ _ f₂) in
    let days : c.length.0 < 256 ^ 1 = omega (arith, between-true 1 60 c.length.0 (left _ _ e₂)) in
    let count : c.count < 256 ^ 1 = omega (arith, leb-true c.count 64 (left _ _ e₅)) in
    let types : c.types < 256 ^ 2 = omega (arith, ltb-true c.types (2 ^ 16) (left _ _ e₁)) in
    let transport = pair_shaped c.transport (left _ _ f₄) (left _ _ e₃) in
    let working = pair_shaped c.working (right _ _ f₄) (left _ _ e₄) in (
      eqb-true _ _ (left _ _ f),
      (
        (types, (tt, (tt, (days, (transport, (working, count)))))),
        (
          (ss, stamps_lt c.count c.stamps c.once (right _ _ e₅) (ss ∙ sym ks)),
          (ks, each_below word (256 ^ 8) word_lt (omega arith) c.once (left _ _ f₃)),
        ),
      ),
    )

pub settings_shaped : (s : Settings) → settings_fit s ≡ true → sound_settings s ≡ true → Fits settings_shape (settings_to s)
unfolding settings_fit sound_settings
settings_shaped s f e =
    let f₁ = right _ _ f in
    let f₂ = right _ _ f₁ in
    let floor : s.floor < 256 ^ 1 = ⊎_elim (λ (p : eqb s.floor 110 ≡ true). let q = eqb-true s.floor 110 p in omega arith)
    (λ (p : eqb s.floor 120 ≡ true). let q = eqb-true s.floor 120 p in omega arith) (either_cases _ _ (right _ _ (right _ _ e))) in (
      eqb-true _ _ (left _ _ f),
      (eqb-true _ _ (left _ _ f₁), (floor, (word_lt s.maker.key (left _ _ f₂), word_lt s.maker.seed (right _ _ f₂)))),
    )
