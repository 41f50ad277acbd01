-- Who is in a table: a place that is found is the first of its name, and a record with the same name in its stead moves no place.
-- Assumes nothing.
use Rattle.std.specs.Prelude.{None, Option, Some}
use mathlib.Core.Path.{◌≡◌, refl, sym, ap, ◌∙◌}
use mathlib.Core.List.{List, [], ◌∷◌, ◌++◌}
use mathlib.Core.Bool.{Bool, true, false}
use Prim.Native.Nat.{ℕ, zero, suc, ◌+◌, ◌≤◌, ◌<◌}
use native.Mathlib.Nat.{add-zero, not-suc-le-zero, le_of_suc-le-suc}
use native.Mathlib.Omega.{arith}
use lib.ListN.{length, get_or, set}
use lib.Seq.{get_or-set_other, get_or-set_same}
use Rattle.ground.specs.Choice.{both, pick}
use Rattle.ground.specs.Lists.{same}
use Rattle.ground.proofs.Choices.{left, right, join, picks, skips, same-eq, eq-same}
use Rattle.ground.proofs.Bools.{refuted}
use Rattle.customer.specs.Customer.{sound_customer}
use Rattle.customer.specs.declared.Customer.{Customer}
use Rattle.table.specs.Table.{Table, place_from, is_unknown, distinct, customer_fits, each_sound, place_of, nobody, customer_in}
use Rattle.table.specs.Table.{with_customer, with_day, with_seed}
use Rattle.table.specs.Named.{customer_at, replaced_at, named, with_named}

-- ---- the place that is found

-- it is one of the list's
place_below : (l : List Customer) (k : ℕ) (x : List ℕ) (i : ℕ) → place_from k x l ≡ Some i → (k ≤ i) × (i < k + length l)
unfolding place_from pick
place_below [] k x i e = let z : ◌≡◌ {A = ℕ} 0 1 = cc in absurd (omega arith)
place_below (c ∷ l) k x i e = go (same c.who x) e (place_below l (k + 1) x i)
  where
    go : (t : Bool) → pick t (Some k) (place_from (k + 1) x l) ≡ Some i
        → (place_from (k + 1) x l ≡ Some i → (k + 1 ≤ i) × (i < k + 1 + length l)) → (k ≤ i) × (i < k + suc (length l))
    go true f r = let q : k ≡ i = cc in (omega arith, omega arith)
    go false f r = let p = r f in (omega arith, omega arith)

-- and its customer has the name
place_has : (l : List Customer) (k : ℕ) (x : List ℕ) (m i : ℕ) (d : Customer) → place_from k x l ≡ Some m → m ≡ k + i
    → same (get_or l i d).who x ≡ true
unfolding place_from pick
place_has [] k x m i d e q = let z : ◌≡◌ {A = ℕ} 0 1 = cc in absurd (omega arith)
place_has (c ∷ l) k x m zero d e q = go (same c.who x) refl e
  where
    go : (v : Bool) → same c.who x ≡ v → pick v (Some k) (place_from (k + 1) x l) ≡ Some m → same c.who x ≡ true
    go true f g = f
    go false f g = let p = place_below l (k + 1) x m g in absurd (omega arith)
place_has (c ∷ l) k x m (suc i) d e q = go (same c.who x) e (place_has l (k + 1) x m i d)
  where
    go : (v : Bool) → pick v (Some k) (place_from (k + 1) x l) ≡ Some m
        → (place_from (k + 1) x l ≡ Some m → m ≡ k + 1 + i → same (get_or l i d).who x ≡ true) → same (get_or l i d).who x ≡ true
    go true g r = let p : k ≡ m = cc in absurd (omega arith)
    go false g r = r g (omega arith)

-- whether a name is there does not depend on where the count starts
unknown_any : (l : List Customer) (j k : ℕ) (x : List ℕ) → is_unknown (place_from j x l) ≡ is_unknown (place_from k x l)
unfolding place_from pick is_unknown
unknown_any [] j k x = refl
unknown_any (c ∷ l) j k x = go (same c.who x) (unknown_any l (j + 1) (k + 1) x)
  where
    go : (t : Bool) → is_unknown (place_from (j + 1) x l) ≡ is_unknown (place_from (k + 1) x l)
        → is_unknown (pick t (Some j) (place_from (j + 1) x l)) ≡ is_unknown (pick t (Some k) (place_from (k + 1) x l))
    go true r = refl
    go false r = r

pub is_unknown_lem : (f : Option ℕ) → is_unknown f ≡ true → f ≡ None
unfolding is_unknown
is_unknown_lem (Some i) e = let z : ◌≡◌ {A = Bool} false true = e in cc
is_unknown_lem None e = refl

pub known_at : (f : Option ℕ) → is_unknown f ≡ false → (i : ℕ) × (f ≡ Some i)
unfolding is_unknown
known_at (Some i) e = (i, refl)
known_at None e = let z : ◌≡◌ {A = Bool} true false = e in (0, cc)

unknown_is : (f : Option ℕ) → f ≡ None → is_unknown f ≡ true
unfolding is_unknown
unknown_is f e = rw e

-- a name that is not there is neither the first's nor in the rest
unknown_first : (c : Customer) (l : List Customer) (k : ℕ) (x : List ℕ) → is_unknown (place_from k x (c ∷ l)) ≡ true
    → (same c.who x ≡ false) × (is_unknown (place_from (k + 1) x l) ≡ true)
unfolding place_from pick is_unknown
unknown_first c l k x e = go (same c.who x) refl e
  where
    go : (t : Bool) → same c.who x ≡ t → is_unknown (pick t (Some k) (place_from (k + 1) x l)) ≡ true → (same c.who x ≡ false)
        × (is_unknown (place_from (k + 1) x l) ≡ true)
    go true f g = let z : ◌≡◌ {A = Bool} false true = g in (cc, cc)
    go false f g = (f, g)

-- ---- one customer is another of the same name

place_set : (l : List Customer) (i : ℕ) (c d : Customer) → c.who ≡ (get_or l i d).who → (k : ℕ) (x : List ℕ) → place_from k x (set l i c)
    ≡ place_from k x l
unfolding place_from
place_set [] i c d e k x = refl
place_set (a ∷ l) zero c d e k x = rw e
place_set (a ∷ l) (suc i) c d e k x = rw (place_set l i c d e (k + 1) x)

distinct-set : (l : List Customer) (i : ℕ) (c d : Customer) → c.who ≡ (get_or l i d).who → distinct l ≡ true → distinct (set l i c) ≡ true
unfolding distinct
distinct-set [] i c d e a = a
distinct-set (b ∷ l) zero c d e a = join _ _ (rw e (left _ _ a)) (right _ _ a)
distinct-set (b ∷ l) (suc i) c d e a =
    join _ _ (ap is_unknown (place_set l i c d e 0 b.who) ∙ left _ _ a) (distinct-set l i c d e (right _ _ a))

pub each_set : (l : List Customer) (i : ℕ) (c : Customer) → both (customer_fits c) (sound_customer c) ≡ true → each_sound l ≡ true
    → each_sound (set l i c) ≡ true
unfolding each_sound
each_set [] i c o a = a
each_set (b ∷ l) zero c o a = join _ _ o (right _ _ a)
each_set (b ∷ l) (suc i) c o a = join _ _ (left _ _ a) (each_set l i c o (right _ _ a))

-- ---- one customer more

place_more : (l : List Customer) (c : Customer) (k : ℕ) (x : List ℕ) → same c.who x ≡ false → is_unknown (place_from k x l) ≡ true
    → is_unknown (place_from k x (l ++ (c ∷ []))) ≡ true
unfolding place_from pick
place_more [] c k x n u = rw n u
place_more (b ∷ l) c k x n u =
    let p = unknown_first b l k x u in
    rw p.0 (place_more l c (k + 1) x n p.1)

pub distinct_more : (l : List Customer) (c : Customer) → is_unknown (place_from 0 c.who l) ≡ true → distinct l ≡ true
    → distinct (l ++ (c ∷ [])) ≡ true
unfolding distinct place_from is_unknown
distinct_more [] c u a = join _ _ refl refl
distinct_more (b ∷ l) c u a =
    let p = unknown_first b l 0 c.who u in
    let n : same c.who b.who
    ≡ false = refuted _ (λ e. let z : ◌≡◌ {A = Bool} true false = sym (eq-same b.who c.who (sym (same-eq _ _ e)))
    ∙ p.0 in let y : ◌≡◌ {A = ℕ} 0 1 = cc in omega arith) in
    join _ _ (place_more l c 0 b.who n (left _ _ a)) (distinct_more l c (unknown_any l 0 (0 + 1) c.who ∙ p.1) (right _ _ a))

pub each_more : (l : List Customer) (c : Customer) → both (customer_fits c) (sound_customer c) ≡ true → each_sound l ≡ true
    → each_sound (l ++ (c ∷ [])) ≡ true
unfolding each_sound
each_more [] c o a = join _ _ o refl
each_more (b ∷ l) c o a = join _ _ (left _ _ a) (each_more l c o (right _ _ a))

-- ---- each has the place that is found for it

pub place_own : (l : List Customer) (i k : ℕ) (d : Customer) → distinct l ≡ true → i < length l → place_from k (get_or l i d).who l
    ≡ Some (k + i)
unfolding distinct place_from
place_own [] i k d a h = absurd (not-suc-le-zero h)
place_own (c ∷ l) zero k d a h = picks _ _ _ (eq-same c.who c.who refl) ∙ ap Some (sym (add-zero k))
place_own (c ∷ l) (suc i) k d a h =
    let b : distinct l ≡ true = right _ _ a in
    let m : i < length l = le_of_suc-le-suc h in
    let n : same c.who (get_or l i d).who ≡ false = refuted _ (λ e. clash e (place_own l i 0 d b m)) in
    let q : k + 1 + i ≡ k + suc i = omega arith in
    skips _ _ _ n ∙ place_own l i (k + 1) d b m ∙ ap Some q
  where
    clash : same c.who (get_or l i d).who ≡ true → place_from 0 (get_or l i d).who l ≡ Some (0 + i) → ⊥
    clash e p =
        let u : place_from 0 c.who l ≡ None = is_unknown_lem _ (left _ _ a) in
        let v : Some (0 + i) ≡ None = sym p ∙ ap (λ (w : List ℕ). place_from 0 w l) (sym (same-eq _ _ e)) ∙ u in
        let z : ◌≡◌ {A = ℕ} 0 1 = cc in
        omega arith

-- ---- over tables

-- every other customer is as before
pub others_stay : (t : Table) (i j : ℕ) (c : Customer) → (i ≡ j → ⊥) → customer_in (with_customer t i c) j ≡ customer_in t j
unfolding customer_in with_customer
others_stay t i j c n = get_or-set_other t.customers i j c nobody (λ q. n (sym q))

-- the customer stored is the one read back
pub stored_is : (t : Table) (i : ℕ) (c : Customer) → i < length t.customers → customer_in (with_customer t i c) i ≡ c
unfolding customer_in with_customer
stored_is t i c h = get_or-set_same t.customers i c nobody h

-- a customer that keeps its name moves nobody's place
pub same_place : (t : Table) (i : ℕ) (c : Customer) (who : List ℕ) → c.who ≡ (customer_in t i).who → place_of (with_customer t i c) who
    ≡ place_of t who
unfolding place_of customer_in with_customer
same_place t i c who e = place_set t.customers i c nobody e 0 who

-- a place that is found is in the table and has the name
pub found_is : (t : Table) (who : List ℕ) (i : ℕ) → place_of t who ≡ Some i → (i < length t.customers) × ((customer_in t i).who ≡ who)
unfolding place_of customer_in
found_is t who i e =
    let p = place_below t.customers 0 who i e in
    (omega (arith, p.1), same-eq _ _ (place_has t.customers 0 who i i nobody e (omega arith)))

pub distinct_with : (t : Table) (i : ℕ) (c : Customer) → c.who ≡ (customer_in t i).who → distinct t.customers ≡ true
    → distinct (set t.customers i c) ≡ true
unfolding customer_in
distinct_with t i c e a = distinct-set t.customers i c nobody e a

-- each customer's name is found at its own place
pub unique_from : (t : Table) (i : ℕ) → distinct t.customers ≡ true → i < length t.customers → place_of t (customer_in t i).who ≡ Some i
unfolding place_of customer_in
unique_from t i a h =
    let q : 0 + i ≡ i = omega arith in
    place_own t.customers i 0 nobody a h ∙ ap Some q

pub unknown_of : (t : Table) (who : List ℕ) → place_of t who ≡ None → is_unknown (place_from 0 who t.customers) ≡ true
unfolding place_of
unknown_of t who e = unknown_is _ e

-- ---- the customer who is named

pub named_at : (t : Table) (who : List ℕ) (i : ℕ) → place_of t who ≡ Some i → named t who ≡ customer_in t i
unfolding named customer_at
named_at t who i p = ap (customer_at t) p

pub with_named_at : (t : Table) (who : List ℕ) (i : ℕ) (c : Customer) → place_of t who ≡ Some i → with_named t who c ≡ with_customer t i c
unfolding with_named replaced_at
with_named_at t who i c p = ap (λ (f : Option ℕ). replaced_at t f c) p

-- ---- another day and another seed leave every customer

pub day_in : (t : Table) (d j : ℕ) → customer_in (with_day t d) j ≡ customer_in t j
unfolding customer_in with_day
day_in t d j = refl

pub seed_in : (t : Table) (v j : ℕ) → customer_in (with_seed t v) j ≡ customer_in t j
unfolding customer_in with_seed
seed_in t v j = refl
