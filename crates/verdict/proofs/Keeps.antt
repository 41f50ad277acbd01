-- What acceptance keeps of a record, and that its numbers fit: each answer leaves the record as it was but for its working keys.
-- Assumes nothing.
use mathlib.Core.Path.{◌≡◌, refl, ap, ◌∙◌}
use mathlib.Core.Bool.{Bool, true}
use mathlib.Core.List.{List, [], ◌∷◌, ◌++◌}
use Prim.Native.Nat.{ℕ, ◌^◌, ◌<◌}
use native.Mathlib.Omega.{arith}
use borrow.Author.Tests.{lt-ltb, eq-eqb}
use lib.ListN.{length, take, replicate}
use Rattle.ground.specs.Lists.{all}
use Rattle.ground.proofs.Choices.{left, right, join}
use Rattle.ground.proofs.Lists.{all_append, all_take, all_zeros, all-pick}
use Rattle.calendar.specs.declared.Date.{Date}
use Rattle.keys.specs.declared.KeyMaker.{KeyMaker}
use Rattle.keys.proofs.Laws.{made_lt, seed_lt}
use Rattle.customer.specs.declared.Customer.{Customer}
use Rattle.customer.specs.declared.KeyPair.{KeyPair}
use Rattle.changeover.specs.Changes.{changed, with_keys, with_working, without_previous}
use Rattle.acceptance.specs.Grants.{granted_by}
use Rattle.acceptance.specs.Stamps.{live_of, live_once, in_places, with_stamp}
use Rattle.acceptance.specs.declared.Granted.{Granted}
use Rattle.acceptance.proofs.Grants.{by_answer}
use Rattle.acceptance.proofs.Purge.{stamps_length, once_length}
use Rattle.table.specs.Table.{word, previous_fits, pair_fits, customer_fits}

-- ---- what stays

-- identity with qualifier, data types, agreement, leave, length of a changeover and transport keys
pub record Kept (a b : Customer) : Type 0 where
  pub who : b.who ≡ a.who
  pub types : b.types ≡ a.types
  pub agreed : b.agreed ≡ a.agreed
  pub leave : b.leave ≡ a.leave
  pub length : b.length ≡ a.length
  pub transport : b.transport ≡ a.transport

keys_kept : (c : Customer) (working : KeyPair) → Kept c (with_keys c c.transport working)
unfolding with_keys
keys_kept c working = record { who = refl; types = refl; agreed = refl; leave = refl; length = refl; transport = refl }

pub grant_kept : (c : Customer) (maker : KeyMaker) (clock : ℕ) (today : Date) (generation request : ℕ)
    → Kept c (granted_by c maker clock today generation request).customer
unfolding with_working without_previous
grant_kept c maker clock today generation request =
    by_answer c maker clock today generation request (λ (g : Granted). Kept c g.customer)
    (λ code key m w. record { who = refl; types = refl; agreed = refl; leave = refl; length = refl; transport = refl })
    (keys_kept c _)
    (λ key e. keys_kept c _)

pub stamp_keeps : (hs : List ℕ) (today : Date) (a c : Customer) (stamp once : ℕ) → Kept a c → Kept a (with_stamp hs today c stamp once)
unfolding with_stamp
stamp_keeps hs today a c stamp once k =
    record {
      who = k.who;
      types = k.types;
      agreed = k.agreed;
      leave = k.leave;
      length = k.length;
      transport = k.transport;
    }

-- ---- numbers that fit

word-true : (x : ℕ) → x < 2 ^ 64 → word x ≡ true
word-true x h = lt-ltb x (2 ^ 64) h

with_keys_fits : (c : Customer) (working : KeyPair) → customer_fits c ≡ true → pair_fits working ≡ true
    → customer_fits (with_keys c c.transport working) ≡ true
unfolding customer_fits with_keys
with_keys_fits c working e p =
    let e₁ = right _ _ e in
    let e₂ = right _ _ e₁ in
    let e₃ = right _ _ e₂ in
    let e₄ = right _ _ e₃ in
    join _ _ (left _ _ e)
    (join _ _ (left _ _ e₁) (join _ _ (left _ _ e₂) (join _ _ (left _ _ e₃) (join _ _ (left _ _ e₄) p))))

working_fits : (c : Customer) → customer_fits c ≡ true → pair_fits c.working ≡ true
unfolding customer_fits
working_fits c e = right _ _ (right _ _ (right _ _ (right _ _ (right _ _ e))))

pub grant_fits : (c : Customer) (maker : KeyMaker) (clock : ℕ) (today : Date) (generation request : ℕ) → customer_fits c ≡ true
    → customer_fits (granted_by c maker clock today generation request).customer ≡ true
unfolding with_working without_previous changed previous_fits
grant_fits c maker clock today generation request f =
    let k : word c.working.key ≡ true = left _ _ (working_fits c f) in
    by_answer c maker clock today generation request (λ (g : Granted). customer_fits g.customer ≡ true)
    (λ code key m w. f)
    (with_keys_fits c _ f (join _ _ k refl))
    (λ key e. with_keys_fits c _ f (join _ _ (ap word e ∙ word-true _ (made_lt (record { key = maker.key; seed = maker.seed }) clock)) k))

pub grant_seed_lt : (c : Customer) (maker : KeyMaker) (clock : ℕ) (today : Date) (generation request : ℕ) → maker.seed < 2 ^ 64
    → (granted_by c maker clock today generation request).seed < 2 ^ 64
grant_seed_lt c maker clock today generation request h =
    by_answer c maker clock today generation request (λ (g : Granted). g.seed < 2 ^ 64)
    (λ code key m w. h) h (λ key e. seed_lt (record { key = maker.key; seed = maker.seed }) clock)

-- ---- lists of such numbers

module _ (f : ℕ → Bool) where
  all_live : (hs : List ℕ) (today : Date) (ss xs : List ℕ) → all f xs ≡ true → all f (live_of hs today ss xs) ≡ true
  unfolding all live_of
  all_live hs today [] xs p = refl
  all_live hs today (s ∷ ss) [] p = refl
  all_live hs today (s ∷ ss) (x ∷ xs) p = all-pick f _ x _ (left _ _ p) (all_live hs today ss xs (right _ _ p))

once_fits : (hs : List ℕ) (today : Date) (c : Customer) (once : ℕ) → all word c.once ≡ true → once < 2 ^ 64
    → all word (in_places (live_once hs today c ++ (once ∷ []))) ≡ true
unfolding all
once_fits hs today c once p h =
    let l = live_once hs today c in
    all_take word 64 ((l ++ (once ∷ [])) ++ replicate 64 0)
    (all_append word (l ++ (once ∷ [])) (replicate 64 0) ∙ join _ _
    (all_append word l (once ∷ []) ∙ join _ _
    (all_live word hs today (take c.count c.stamps) (take c.count c.once) (all_take word c.count c.once p))
    (join (word once) true (word-true once h) refl))
    (all_zeros word 64 (word-true 0 (omega arith))))

pub stamp_fits : (hs : List ℕ) (today : Date) (c : Customer) (stamp once : ℕ) → customer_fits c ≡ true → once < 2 ^ 64
    → customer_fits (with_stamp hs today c stamp once) ≡ true
unfolding customer_fits with_stamp
stamp_fits hs today c stamp once e h =
    let e₁ = right _ _ e in
    let e₂ = right _ _ e₁ in
    let e₃ = right _ _ e₂ in
    join _ _ (left _ _ e)
    (join _ _ (eq-eqb _ 64 (stamps_length hs today c stamp once))
    (join _ _ (eq-eqb _ 64 (once_length hs today c stamp once))
    (join _ _ (once_fits hs today c once (left _ _ e₃) h) (right _ _ e₃))))
