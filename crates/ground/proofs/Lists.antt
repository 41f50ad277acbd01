-- Laws of lists: members, tests and facts of each element, lists told apart, one list laid over another, and one made of another element by
-- element.
-- Assumes nothing.
use mathlib.Core.Path.{◌≡◌, refl, sym, ap, ◌∙◌}
use mathlib.Core.Bool.{Bool, true, false}
use mathlib.Core.List.{List, [], ◌∷◌, ◌++◌, append-nil, map}
use mathlib.Core.Logic.{⊎_elim}
use Prim.Native.Nat.{ℕ, zero, suc, ◌+◌, ◌≤◌, ◌<◌}
use native.Mathlib.Nat.{not-suc-le-zero, le_of_suc-le-suc}
use native.Mathlib.Numerals.{add-one}
use native.Mathlib.Omega.{arith}
use borrow.Author.Count.{below_more}
use borrow.Author.Tests.{eq-eqb, eqb-true, ltb-true}
use lib.Dec.{eqb, ltb}
use lib.ListN.{length, take, drop, get_or, set, replicate, length-append, length-take, length-drop, length-map, drop_of_length-le}
use lib.Seq.{drop-cons, get_or-take, take_all, length-take-le, get_or-set_same, get_or-set_other, ext_get_or}
use Rattle.ground.specs.Choice.{both, either, pick}
use Rattle.ground.specs.Lists.{all, member, same, overlay, Each}
use Rattle.ground.proofs.Choices.{left, right, join, fails_left, decides, either_left, either_right, either_cases}
use Rattle.ground.proofs.Choices.{all_cons, same-eq, eq-same}
use Rattle.ground.proofs.Bools.{refuted, clash, decided, both_assoc}
use Rattle.ground.proofs.Numbers.{eqb_turned}

-- ---- members

pub member_none : (x : ℕ) → member x [] ≡ false
unfolding member
member_none x = refl

pub member-cons : (x y : ℕ) (l : List ℕ) → member x (y ∷ l) ≡ either (eqb y x) (member x l)
unfolding member
member-cons x y l = refl

pub member_front : (x : ℕ) (l m : List ℕ) → member x l ≡ true → member x (l ++ m) ≡ true
unfolding member
member_front x [] m e = cc
member_front x (y ∷ l) m e =
    ⊎_elim (λ h. either_left (eqb y x) _ h) (λ h. either_right (eqb y x) _ (member_front x l m h))
    (either_cases (eqb y x) (member x l) e)

pub member_last : (x : ℕ) (l : List ℕ) → member x (l ++ (x ∷ [])) ≡ true
unfolding member
member_last x [] = either_left (eqb x x) _ (eq-eqb x x refl)
member_last x (y ∷ l) = either_right (eqb y x) _ (member_last x l)

pub member-drop : (x : ℕ) (l : List ℕ) (i : ℕ) → i < length l
    → member x (drop i l) ≡ either (eqb (get_or l i 0) x) (member x (drop (i + 1) l))
unfolding member
member-drop x l i h = rw (add-one i, drop-cons l i 0 h)

-- what is held from place i on of the first n
pub held_next : (n : ℕ) (l : List ℕ) (i : ℕ) → i < n → n ≤ length l
    → drop i (take n l) ≡ get_or l i 0 ∷ drop (i + 1) (take n l)
held_next n l i h k =
    let e : length (take n l) ≡ n = length-take-le n l k in
    drop-cons (take n l) i 0 (omega arith) ∙ rw (add-one i, get_or-take n l i 0 h)

pub held_none : (n : ℕ) (l : List ℕ) (i : ℕ) → n ≤ i → n ≤ length l → drop i (take n l) ≡ []
held_none n l i h k =
    let e : length (take n l) ≡ n = length-take-le n l k in drop_of_length-le (take n l) {i = i} (omega arith)

pub member_next : (x n : ℕ) (l : List ℕ) (i : ℕ) → i < n → n ≤ length l
    → member x (drop i (take n l)) ≡ either (eqb (get_or l i 0) x) (member x (drop (i + 1) (take n l)))
member_next x n l i h k = ap (member x) (held_next n l i h k) ∙ member-cons x _ _

-- one of two lists, the one without y or the one with it
pub member-pick : (s y : ℕ) (l : List ℕ) (b : Bool) → (y ≡ s → b ≡ false) → either (eqb y s) (member s l) ≡ true
    → member s (pick b l (y ∷ l)) ≡ true
unfolding pick member
member-pick s y l true f e =
    ⊎_elim {C = member s l ≡ true} (λ h. absurd (clash true refl (f (eqb-true y s h)))) (λ h. h) (either_cases (eqb y s) (member s l) e)
member-pick s y l false f e = e

-- ---- a test of each element

pub all-member : (f : ℕ → Bool) (l : List ℕ) (x : ℕ) → all f l ≡ true → member x l ≡ true → f x ≡ true
unfolding all member
all-member f [] x a m = absurd (let z : ◌≡◌ {A = ℕ} 0 1 = cc in omega arith)
all-member f (y ∷ l) x a m =
    ⊎_elim (λ e. ap f (sym (eqb-true y x e)) ∙ left _ _ a) (λ e. all-member f l x (right _ _ a) e) (either_cases _ _ m)

pub member-lt : (n x : ℕ) (l : List ℕ) → all (λ y. ltb y n) l ≡ true → member x l ≡ true → x < n
member-lt n x l a m = ltb-true x n (all-member (λ y. ltb y n) l x a m)

pub all_at : (f : ℕ → Bool) (l : List ℕ) (i : ℕ) → all f l ≡ true → i < length l → f (get_or l i 0) ≡ true
unfolding all
all_at f [] i e h = absurd (not-suc-le-zero h)
all_at f (x ∷ l) zero e h = left (f x) (all f l) e
all_at f (x ∷ l) (suc i) e h = all_at f l i (right (f x) (all f l) e) (le_of_suc-le-suc h)

pub all_append : (f : ℕ → Bool) (a b : List ℕ) → all f (a ++ b) ≡ both (all f a) (all f b)
unfolding all both
all_append f [] b = refl
all_append f (x ∷ a) b = ap (both (f x)) (all_append f a b) ∙ sym (both_assoc (f x) (all f a) (all f b))

pub all_snoc : (f : ℕ → Bool) (l : List ℕ) (x : ℕ) → all f l ≡ true → f x ≡ true → all f (l ++ (x ∷ [])) ≡ true
unfolding all
all_snoc f [] x p q = join _ _ q refl
all_snoc f (y ∷ l) x p q = join _ _ (left _ _ p) (all_snoc f l x (right _ _ p) q)

-- a list of one
pub all_one : (b c : ℕ) → all (eqb b) (c ∷ []) ≡ eqb c b
unfolding all both
all_one b c = go (eqb b c) refl ∙ eqb_turned b c
  where
    go : (t : Bool) → eqb b c ≡ t → both t true ≡ eqb b c
    go true e = sym e
    go false e = sym e

module _ (f : ℕ → Bool) where
  pub all_take : (n : ℕ) (l : List ℕ) → all f l ≡ true → all f (take n l) ≡ true
  unfolding all
  all_take zero l p = refl
  all_take (suc n) [] p = refl
  all_take (suc n) (x ∷ l) p = join _ _ (left _ _ p) (all_take n l (right _ _ p))

  pub all_zeros : (n : ℕ) → f 0 ≡ true → all f (replicate n 0) ≡ true
  unfolding all
  all_zeros zero p = refl
  all_zeros (suc n) p = join _ _ p (all_zeros n p)

  pub all-pick : (b : Bool) (x : ℕ) (l : List ℕ) → f x ≡ true → all f l ≡ true → all f (pick b l (x ∷ l)) ≡ true
  unfolding all pick
  all-pick true x l p q = q
  all-pick false x l p q = join _ _ p q

-- a loop that tests each
module _ (f : ℕ → Bool) (l : List ℕ) (i : ℕ) where
  here : i < length l → all f (drop i l) ≡ both (f (get_or l i 0)) (all f (drop (i + 1) l))
  here h = rw (add-one i, drop-cons l i 0 h) (all_cons f (get_or l i 0) (drop (suc i) l))

  -- where the character at i passes, the rest decides
  pub all_more : i < length l → f (get_or l i 0) ≡ true → all f l ≡ all f (drop i l) → all f l ≡ all f (drop (i + 1) l)
  all_more h p e = e ∙ here h ∙ decides (f (get_or l i 0)) (all f (drop (i + 1) l)) p

  -- where it fails, all fail
  pub all_stop : i < length l → f (get_or l i 0) ≡ false → all f l ≡ all f (drop i l) → false ≡ all f l
  all_stop h p e = sym (e ∙ here h ∙ fails_left (f (get_or l i 0)) (all f (drop (i + 1) l)) p)

  pub all_end : length l ≤ i → all f l ≡ all f (drop i l) → true ≡ all f l
  unfolding all
  all_end h e = sym (e ∙ ap (all f) (drop_of_length-le l h))

-- what holds of each element, and of 0, holds at every place
pub each_below : (f : ℕ → Bool) (n : ℕ) → ((x : ℕ) → f x ≡ true → x < n) → 0 < n → (l : List ℕ) → all f l ≡ true
    → (k : ℕ) → get_or l k 0 < n
unfolding all
each_below f n h z [] e k = z
each_below f n h z (x ∷ l) e zero = h x (left _ _ e)
each_below f n h z (x ∷ l) e (suc k) = each_below f n h z l (right _ _ e) k

-- ---- a fact of each element

pub each {ℓ} : {A : Type ℓ} {P Q : A → Type 0} → ((x : A) → P x → Q x) → (l : List A) → Each P l → Each Q l
each f [] e = tt
each f (x ∷ l) e = (f x e.0, each f l e.1)

-- what holds at every place holds of each
pub each_at : (P : ℕ → Type 0) (l : List ℕ) → ((k : ℕ) → k < length l → P (get_or l k 0)) → Each P l
each_at P [] h = tt
each_at P (x ∷ l) h = (h 0 (omega arith), each_at P l (λ k b. h (suc k) (omega arith)))

-- a loop that fills an array from the front
pub filled_more : (f : ℕ → ℕ) (l : List ℕ) (i v : ℕ) → i < length l → v ≡ f i → ((k : ℕ) → k < i → get_or l k 0 ≡ f k) → (k : ℕ)
    → k < i + 1 → get_or (set l i v) k 0 ≡ f k
filled_more f l i v h e all =
    below_more (λ k. get_or (set l i v) k 0 ≡ f k) i
    (λ k b. get_or-set_other l i k v 0 (λ q. omega arith) ∙ all k b)
    (get_or-set_same l i v 0 h ∙ e)

pub zeros_bytes : (n k : ℕ) → get_or (replicate n 0) k 0 < 256
zeros_bytes zero k = omega arith
zeros_bytes (suc n) zero = omega arith
zeros_bytes (suc n) (suc k) = zeros_bytes n k

-- ---- lists that are equal, and lists that are told apart

pub same-append : (a b c d : List ℕ) → length a ≡ length c → same (a ++ b) (c ++ d) ≡ both (same a c) (same b d)
unfolding same both
same-append [] b [] d e = refl
same-append [] b (y ∷ c) d e = absurd (omega arith)
same-append (x ∷ a) b [] d e = absurd (omega arith)
same-append (x ∷ a) b (y ∷ c) d e =
    ap (both (eqb x y)) (same-append a b c d (omega arith)) ∙ sym (both_assoc (eqb x y) (same a c) (same b d))

-- a test that decides whether two lists are equal
pub same_decided : (t : Bool) (a b : List ℕ) → (t ≡ true → a ≡ b) → (a ≡ b → t ≡ true) → t ≡ same a b
same_decided t a b f g = decided t (same a b) (λ e. eq-same a b (f e)) (λ e. g (same-eq a b e))

pub same_turned : (a b : List ℕ) → same a b ≡ same b a
same_turned a b = same_decided (same a b) b a (λ e. sym (same-eq a b e)) (λ e. eq-same a b (sym e))

-- a list of one
pub one_is : {A : Type 0} (x y : A) → x ∷ [] ≡ y ∷ [] → x ≡ y
one_is x y e = cc

pub one_not_none : {A : Type 0} (l : List A) (x : A) → l ≡ [] → l ≡ x ∷ [] → ⊥
one_not_none l x e k = let z : ◌≡◌ {A = ℕ} 0 1 = cc in omega arith

pub differ_lists : (a b : List ℕ) → (a ≡ b → ⊥) → false ≡ same a b
differ_lists a b n = sym (refuted (same a b) (λ e. n (same-eq a b e)))

pub differ_at : (a b : List ℕ) (i : ℕ) → (get_or a i 0 ≡ get_or b i 0 → ⊥) → false ≡ same a b
differ_at a b i n = differ_lists a b (λ e. n (ap (λ (l : List ℕ). get_or l i 0) e))

-- ---- one list laid over another

pub overlay-length : (v l : List ℕ) → length (overlay v l) ≡ length l
unfolding overlay
overlay-length v l = rw (length-append, length-take, length-drop) (omega arith)

pub overlay-all : (v l : List ℕ) → length v ≡ length l → overlay v l ≡ v
unfolding overlay
overlay-all v l e =
    ap (λ (x : List ℕ). take (length l) v ++ x) (drop_of_length-le l {i = length v} (omega arith))
    ∙ append-nil (take (length l) v)
    ∙ take_all (length l) v (omega arith)

pub pick-length : (t : Bool) (x y : List ℕ) (n : ℕ) → length x ≡ n → length y ≡ n → length (pick t x y) ≡ n
unfolding pick
pick-length true x y n p q = p
pick-length false x y n p q = q

pub length-pick : (b : Bool) (s k : ℕ) (ss ks : List ℕ) → length ss ≡ length ks
    → length (pick b ss (s ∷ ss)) ≡ length (pick b ks (k ∷ ks))
unfolding pick
length-pick true s k ss ks e = e
length-pick false s k ss ks e = ap suc e

-- ---- element by element

get_or-map_in : (f : ℕ → ℕ) (l : List ℕ) (k : ℕ) → k < length l → get_or (map f l) k 0 ≡ f (get_or l k 0)
get_or-map_in f [] k h = absurd (omega arith)
get_or-map_in f (x ∷ l) zero h = refl
get_or-map_in f (x ∷ l) (suc k) h = get_or-map_in f l k (omega arith)

pub mapped : (f : ℕ → ℕ) (l out : List ℕ) → length out ≡ length l → ((k : ℕ) → k < length l → get_or out k 0 ≡ f (get_or l k 0))
    → out ≡ map f l
mapped f l out e all =
    ext_get_or 0 out (map f l) (e ∙ sym (length-map l f))
    (λ k b. let c : k < length l = omega arith in all k c ∙ sym (get_or-map_in f l k c))

pub map-take : (f : ℕ → ℕ) (n : ℕ) (l : List ℕ) → take n (map f l) ≡ map f (take n l)
map-take f zero l = refl
map-take f (suc n) [] = refl
map-take f (suc n) (x ∷ l) = ap (λ (r : List ℕ). f x ∷ r) (map-take f n l)
