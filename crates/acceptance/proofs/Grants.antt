-- What acceptance grants: each choice is one of a few answers, and what holds of each of them holds of what is chosen.
-- Assumes nothing.
use Rattle.std.specs.Prelude.{None, Option, Some}
use mathlib.Core.Path.{◌≡◌, refl, sym, ap, subst, ◌∙◌}
use mathlib.Core.Bool.{true}
use mathlib.Core.List.{List, [], ◌∷◌}
use mathlib.Core.Logic.{◌⊎◌, inl, inr, ⊎_elim}
use Prim.Native.Nat.{ℕ, ◌≤◌}
use native.Mathlib.Omega.{arith}
use Rattle.ground.specs.Choice.{either}
use Rattle.ground.proofs.Choices.{left, right}
use Rattle.ground.proofs.Bools.{picked_each}
use Rattle.ground.specs.Lists.{member}
use Rattle.calendar.specs.Dates.{real_date}
use Rattle.calendar.specs.declared.Date.{Date}
use Rattle.keys.specs.Parity.{odd_parity}
use Rattle.keys.specs.Maker.{key_of, next_seed}
use Rattle.keys.specs.declared.KeyMaker.{KeyMaker}
use Rattle.keys.proofs.Laws.{made_odd}
use Rattle.customer.specs.Customer.{sound_customer, sound_keys}
use Rattle.customer.specs.declared.Customer.{Customer}
use Rattle.changeover.specs.Changes.{with_keys, with_working, without_previous}
use Rattle.changeover.proofs.Laws.{with_working_sound, without_previous_sound}
use Rattle.acceptance.specs.Grants.{granted_by}
use Rattle.acceptance.specs.Steps.{granted, under_previous, new_key, under_current}
use Rattle.acceptance.specs.declared.Granted.{Granted}
use Rattle.acceptance.proofs.Rows.{by_rows}

-- ---- what holds of each answer

abbrev pub codes : List ℕ
codes = 1001 ∷ 1002 ∷ 1003 ∷ 1004 ∷ 1005 ∷ 1036 ∷ 1037 ∷ []

module _ (c : Customer) (maker : KeyMaker) (clock : ℕ) (today : Date) (generation request : ℕ) where
  -- the customer as it was, without its previous key, or with a new one
  module _ (P : Granted → Type 0)
      (same : (code : ℕ) (key : Option ℕ) → member code codes ≡ true → (key ≡ None) ⊎ (key ≡ Some c.working.key)
      → P (granted code c key 0 maker.seed))
      (dropped : P (granted 1036 (without_previous c) None 0 maker.seed))
      (renewed : (key : ℕ) → key ≡ key_of maker.key maker.seed clock
      → P (granted 1003 (with_working c key today) (Some key) 1 (next_seed maker.key maker.seed clock))) where
    by_previous : P (under_previous c maker request)
    unfolding under_previous member either
    by_previous = picked_each P _ _ _ (same 1002 _ refl (inr refl))
        (picked_each P _ _ _ (same 1003 _ refl (inr refl)) (same 1037 _ refl (inl refl)))

    by_current : P (under_current c maker clock today request)
    unfolding under_current new_key member either
    by_current =
        picked_each P _ _ _ (same 1001 _ refl (inl refl))
        (picked_each P _ _ _ (picked_each P _ _ _ (same 1004 _ refl (inl refl))
        (picked_each P _ _ _ (same 1005 _ refl (inl refl)) (renewed _ refl)))
        (picked_each P _ _ _ dropped (same 1037 _ refl (inl refl))))

    pub by_answer : P (granted_by c maker clock today generation request)
    by_answer = subst P (sym (by_rows c maker clock today generation request)) (picked_each P _ _ _ by_current by_previous)

  pub grant_sound : sound_customer c ≡ true → real_date today.yymmdd ≡ true
      → sound_customer (granted_by c maker clock today generation request).customer ≡ true
  grant_sound s t =
      by_answer (λ g. sound_customer g.customer ≡ true) (λ code key m w. s) (without_previous_sound c s)
      (λ key e. with_working_sound c s key today (ap odd_parity e ∙ made_odd (record { key = maker.key; seed = maker.seed }) clock) t)

  pub grant_who : (granted_by c maker clock today generation request).customer.who ≡ c.who
  unfolding with_keys with_working without_previous
  grant_who = by_answer (λ g. g.customer.who ≡ c.who) (λ code key m w. refl) refl (λ key e. refl)

  pub grant_code : member (granted_by c maker clock today generation request).code codes ≡ true
  unfolding member either
  grant_code = by_answer (λ g. member g.code codes ≡ true) (λ code key m w. m) refl (λ key e. refl)

  pub grant_stamps : ((granted_by c maker clock today generation request).customer.count ≡ c.count)
      × ((granted_by c maker clock today generation request).customer.stamps ≡ c.stamps)
      × ((granted_by c maker clock today generation request).customer.once ≡ c.once)
  unfolding with_keys with_working without_previous
  grant_stamps =
      by_answer (λ g. (g.customer.count ≡ c.count) × (g.customer.stamps ≡ c.stamps) × (g.customer.once ≡ c.once))
      (λ code key m w. (refl, refl, refl)) (refl, refl, refl) (λ key e. (refl, refl, refl))

  pub grant_made : (granted_by c maker clock today generation request).made ≤ 1
  grant_made = by_answer (λ g. g.made ≤ 1) (λ code key m w. omega arith) (omega arith) (λ key e. omega arith)

  pub grant_seed : (granted_by c maker clock today generation request).made ≡ 0
      → (granted_by c maker clock today generation request).seed ≡ maker.seed
  grant_seed =
      by_answer (λ g. g.made ≡ 0 → g.seed ≡ maker.seed) (λ code key m w z. refl) (λ z. refl) (λ key e z. absurd (omega arith))

  -- an enclosed key has odd parity if the record's keys have
  pub grant_odd : sound_customer c ≡ true → (x : ℕ) → (granted_by c maker clock today generation request).enclosed ≡ Some x
      → odd_parity x ≡ true
  unfolding sound_customer sound_keys
  grant_odd s =
      let odd : odd_parity c.working.key ≡ true = left _ _ (right _ _ (left _ _ (right _ _ (right _ _ (right _ _ (right _ _ s)))))) in
      by_answer (λ g. (x : ℕ) → g.enclosed ≡ Some x → odd_parity x ≡ true)
      (λ code key m w x e. ⊎_elim (λ h. absurd (let z : ◌≡◌ {A = ℕ} 0 1 = cc in omega arith))
      (λ h. let k : c.working.key ≡ x = cc in ap odd_parity (sym k) ∙ odd) w)
      (λ x e. absurd (let z : ◌≡◌ {A = ℕ} 0 1 = cc in omega arith))
      (λ key e x h. let k : key ≡ x = cc in ap odd_parity (sym k) ∙ ap odd_parity e
      ∙ made_odd (record { key = maker.key; seed = maker.seed }) clock)
