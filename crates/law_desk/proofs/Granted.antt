-- What acceptance grants, seen from the desk: the key that was used is still held afterwards, an enclosed key has odd parity, and it is the
-- current one from then on, of the generation after the one used.
-- Assumes nothing.
use Rattle.std.specs.Prelude.{None, Option, Some}
use Prim.Native.Nat.{ℕ, ◌<◌, ◌^◌}
use mathlib.Core.Path.{◌≡◌, refl, sym, ap, ◌∙◌, subst}
use mathlib.Core.Bool.{Bool, true, false}
use native.Mathlib.Omega.{arith}
use borrow.Author.Tests.{eqb-true, ltb-true}
use lib.Dec.{eqb}
use Rattle.ground.proofs.Choices.{left, right, picks, skips}
use Rattle.ground.proofs.Bools.{picked, picked_each}
use Rattle.calendar.specs.declared.Date.{Date}
use Rattle.keys.specs.Keys.{next_generation}
use Rattle.keys.specs.Maker.{key_of}
use Rattle.keys.specs.Parity.{odd_parity}
use Rattle.keys.specs.declared.KeyMaker.{KeyMaker}
use Rattle.keys.proofs.Laws.{made_lt}
use Rattle.customer.specs.Customer.{sound_previous, sound_keys, sound_customer}
use Rattle.customer.specs.declared.KeyPair.{KeyPair}
use Rattle.customer.specs.declared.Customer.{Customer}
use Rattle.changeover.specs.Held.{previous_named, held_key}
use Rattle.changeover.specs.Changes.{changed, with_keys, with_working, without_previous}
use Rattle.changeover.proofs.Laws.{after_change}
use Rattle.acceptance.specs.Grants.{granted_by}
use Rattle.acceptance.specs.Steps.{granted, under_previous, new_key, under_current}
use Rattle.acceptance.specs.declared.Granted.{Granted}
use Rattle.acceptance.proofs.Rows.{by_rows}
use Rattle.acceptance.proofs.Grants.{grant_odd}
use Rattle.table.specs.Table.{customer_fits}
use Rattle.customer.specs.declared.Changeover.{Changeover}

-- the current generation is held, and follows a previous one that is
current_held : (k : KeyPair) (g : ℕ) → eqb k.generation g ≡ true → held_key k g ≡ Some k.key
unfolding held_key
current_held k g e = picks _ _ _ e

follows_previous : (n : ℕ) (p : Option Changeover) (g w : ℕ) → sound_previous n p ≡ true → previous_named p g ≡ Some w → n ≡ next_generation g
unfolding sound_previous previous_named
follows_previous n None g w s e = absurd (let z : ◌≡◌ {A = ℕ} 0 1 = cc in omega arith)
follows_previous n (Some p) g w s e = by (eqb p.generation g) refl
  where
    by : (t : Bool) → eqb p.generation g ≡ t → n ≡ next_generation g
    by true q = sym (eqb-true _ _ (left _ _ (right _ _ s))) ∙ ap next_generation (eqb-true p.generation g q)
    by false q =
        let m : None ≡ Some w = sym (skips (eqb p.generation g) (Some p.key) None q) ∙ e in
        absurd (let z : ◌≡◌ {A = ℕ} 0 1 = cc in omega arith)

follows : (k : KeyPair) (g w : ℕ) → sound_keys k ≡ true → eqb k.generation g ≡ false → held_key k g ≡ Some w
    → k.generation ≡ next_generation g
unfolding sound_keys held_key
follows k g w s e h =
    follows_previous k.generation k.previous g w (right _ _ (right _ _ s)) (sym (skips _ _ _ e) ∙ h)

module _ (c : Customer) (maker : KeyMaker) (clock : ℕ) (today : Date) (g request : ℕ) where
  -- by the key that was used
  by_used : (P : Granted → Type 0) → (eqb c.working.generation g ≡ true → P (under_current c maker clock today request))
      → (eqb c.working.generation g ≡ false → P (under_previous c maker request)) → P (granted_by c maker clock today g request)
  by_used P now before = subst P (sym (by_rows c maker clock today g request)) (picked P _ _ _ now before)

  -- with the current key the record stays, loses its previous key, or has a new one, which alone is enclosed
  by_current : (P : Granted → Type 0) → ((code : ℕ) → P (granted code c None 0 maker.seed))
      → P (granted 1036 (without_previous c) None 0 maker.seed) → P (new_key c maker clock today)
      → P (under_current c maker clock today request)
  unfolding under_current
  by_current P same dropped renewed =
      picked_each P _ _ _ (same 1001)
      (picked_each P _ _ _ (picked_each P _ _ _ (same 1004) (picked_each P _ _ _ (same 1005) renewed))
      (picked_each P _ _ _ dropped (same 1037)))

  -- with the previous one the record stays, and none is enclosed but the current one
  by_previous : (P : Granted → Type 0) → ((code : ℕ) → P (granted code c (Some c.working.key) 0 maker.seed))
      → P (granted 1037 c None 0 maker.seed) → P (under_previous c maker request)
  unfolding under_previous
  by_previous P encloses none = picked_each P _ _ _ (encloses 1002) (picked_each P _ _ _ (encloses 1003) none)

  abbrev after : Granted
  after = granted_by c maker clock today g request

  -- ---- the key that was used is still held

  dropped_holds : eqb c.working.generation g ≡ true → held_key (without_previous c).working g ≡ held_key c.working g
  unfolding without_previous with_keys held_key
  dropped_holds e = picks _ _ _ e ∙ sym (picks _ _ _ e)

  renewed_holds : (key : ℕ) → eqb c.working.generation g ≡ true → held_key (with_working c key today).working g ≡ held_key c.working g
  unfolding with_working with_keys
  renewed_holds key e =
      let q : c.working.generation ≡ g = eqb-true c.working.generation g e in
      let k : KeyPair = changed c.working (next_generation c.working.generation) key today c.length in
      ap (held_key k) (sym q) ∙ after_change c.working key today c.length ∙ sym (current_held c.working g e)

  pub used_held : held_key after.customer.working g ≡ held_key c.working g
  unfolding new_key
  used_held =
      by_used (λ x. held_key x.customer.working g ≡ held_key c.working g)
      (λ e. by_current (λ x. held_key x.customer.working g ≡ held_key c.working g) (λ code. refl) (dropped_holds e)
      (renewed_holds (key_of maker.key maker.seed clock) e))
      (λ e. by_previous (λ x. held_key x.customer.working g ≡ held_key c.working g) (λ code. refl) refl)

  -- ---- an enclosed key

  working_fits : customer_fits c ≡ true → c.working.key < 2 ^ 64
  unfolding customer_fits
  working_fits f = ltb-true _ _ (left _ _ (right _ _ (right _ _ (right _ _ (right _ _ (right _ _ f))))))

  none_is : {A : Type 0} (x : ℕ) → None ≡ Some x → A
  none_is x e = absurd (let z : ◌≡◌ {A = ℕ} 0 1 = cc in omega arith)

  key_is : (x y : ℕ) → Some x ≡ Some y → x ≡ y
  key_is x y e = cc

  pub enclosed_lt : customer_fits c ≡ true → (x : ℕ) → after.enclosed ≡ Some x → x < 2 ^ 64
  unfolding new_key
  enclosed_lt f =
      by_used (λ y. (x : ℕ) → y.enclosed ≡ Some x → x < 2 ^ 64)
      (λ e. by_current (λ y. (x : ℕ) → y.enclosed ≡ Some x → x < 2 ^ 64) (λ code x p. none_is x p) (λ x p. none_is x p)
      (λ x p. subst (λ (n : ℕ). n < 2 ^ 64) (key_is _ x p) (made_lt (record { key = maker.key; seed = maker.seed }) clock)))
      (λ e. by_previous (λ y. (x : ℕ) → y.enclosed ≡ Some x → x < 2 ^ 64)
      (λ code x p. subst (λ (n : ℕ). n < 2 ^ 64) (key_is _ x p) (working_fits f)) (λ x p. none_is x p))

  pub enclosed_odd : sound_customer c ≡ true → (x : ℕ) → after.enclosed ≡ Some x → odd_parity x ≡ true
  enclosed_odd s = grant_odd c maker clock today g request s

  -- ---- it is the current key, of the generation after the one used

  abbrev Current : Granted → Type 0
  Current y = (x : ℕ) → y.enclosed ≡ Some x → (y.customer.working.generation ≡ next_generation g) × (y.customer.working.key ≡ x)

  renewed_current : eqb c.working.generation g ≡ true → Current (new_key c maker clock today)
  unfolding new_key with_working with_keys changed
  renewed_current e x p = (ap next_generation (eqb-true _ _ e), key_is _ x p)

  pub enclosed_current : sound_keys c.working ≡ true → (w : ℕ) → held_key c.working g ≡ Some w → Current after
  enclosed_current s w h =
      by_used Current
      (λ e. by_current Current (λ code x p. none_is x p) (λ x p. none_is x p) (renewed_current e))
      (λ e. by_previous Current (λ code x p. (follows c.working g w s e h, key_is _ x p)) (λ x p. none_is x p))

  -- where none is enclosed the current key stays
  pub none_enclosed : after.enclosed ≡ None
      → (after.customer.working.generation ≡ c.working.generation) × (after.customer.working.key ≡ c.working.key)
  unfolding new_key without_previous with_keys
  none_enclosed =
      by_used Same
      (λ e. by_current Same (λ code p. (refl, refl)) (λ p. (refl, refl)) (λ p. none_is _ (sym p)))
      (λ e. by_previous Same (λ code p. (refl, refl)) (λ p. (refl, refl)))
    where
      Same : Granted → Type 0
      Same y = y.enclosed ≡ None
          → (y.customer.working.generation ≡ c.working.generation) × (y.customer.working.key ≡ c.working.key)

  -- and the transport keys stay
  pub transport_stays : after.customer.transport ≡ c.transport
  unfolding new_key with_working without_previous with_keys
  transport_stays =
      by_used (λ y. y.customer.transport ≡ c.transport)
      (λ e. by_current (λ y. y.customer.transport ≡ c.transport) (λ code. refl) refl refl)
      (λ e. by_previous (λ y. y.customer.transport ≡ c.transport) (λ code. refl) refl)
