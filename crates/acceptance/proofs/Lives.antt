-- What stands by a stamp that is not too old, in the library's words, and what one stamp more adds to it.
-- Assumes nothing.
use Rattle.std.specs.List.{list_any, filter, zip}
use mathlib.Core.Path.{◌≡◌, refl, sym, ap, ◌∙◌}
use mathlib.Core.Bool.{Bool, true, false, cond, not, ◌&&◌, ◌||◌}
use mathlib.Core.List.{List, [], ◌∷◌, ◌++◌}
use Prim.Native.Nat.{ℕ, zero, suc, ◌+◌, ◌≤◌, ◌<◌}
use native.Mathlib.Nat.{le_of_suc-le-suc, not-suc-le-zero}
use native.Mathlib.Numerals.{add-one}
use native.Mathlib.Omega.{arith}
use lib.Dec.{eqb}
use lib.ListN.{length, take, get_or, set, replicate, length-append, length-take}
use lib.Seq.{take_all}
use Rattle.ground.specs.Choice.{either, pick}
use Rattle.ground.specs.Lists.{member}
use Rattle.ground.proofs.Choices.{picks, skips}
use Rattle.ground.proofs.Lists.{length-pick}
use Rattle.calendar.specs.declared.Date.{Date}
use Rattle.customer.specs.declared.Customer.{Customer}
use Rattle.acceptance.specs.Stamps.{stamp_old, held_stamps, held_once, live_of, live_stamps, in_places, with_live, with_stamp}
use Rattle.acceptance.proofs.Room.{one_more, no_more}

module _ (hs : List ℕ) (today : Date) where
  -- ---- in the library's words

  kept_by : (b : Bool) (s : ℕ) (x y : List ℕ) → x ≡ y → pick b x (s ∷ x) ≡ cond (not b) (s ∷ y) y
  unfolding pick
  kept_by true s x y e = e
  kept_by false s x y e = ap (◌∷◌ s) e

  pub live_filtered : (l : List ℕ) → live_of hs today l l ≡ filter (λ s. not (stamp_old hs today s)) l
  unfolding live_of
  live_filtered [] = refl
  live_filtered (s ∷ l) = kept_by (stamp_old hs today s) s _ _ (live_filtered l)

  none_by : (t r : Bool) → r ≡ ((t && false) || r)
  none_by true r = refl
  none_by false r = refl

  some_by : (t m r : Bool) → m ≡ r → either t m ≡ ((t && true) || r)
  unfolding either
  some_by true m r e = refl
  some_by false m r e = e

  found_by : (b : Bool) (key x : ℕ) (l : List ℕ) (r : Bool) → member key l ≡ r
      → member key (pick b l (x ∷ l)) ≡ ((eqb x key && not b) || r)
  unfolding pick member
  found_by true key x l r e = e ∙ none_by (eqb x key) r
  found_by false key x l r e = some_by (eqb x key) (member key l) r e

  pub live_any : (key : ℕ) (ss xs : List ℕ) → member key (live_of hs today ss xs)
      ≡ list_any (λ p. eqb p.1 key && not (stamp_old hs today p.0)) (zip ss xs)
  unfolding live_of member
  live_any key [] xs = refl
  live_any key (s ∷ ss) [] = refl
  live_any key (s ∷ ss) (x ∷ xs) = found_by (stamp_old hs today s) key x _ _ (live_any key ss xs)

  -- ---- one stamp more

  one_by : (b o : Bool) (x y : ℕ) (l : List ℕ)
      → pick b (pick o l (l ++ (y ∷ []))) (x ∷ pick o l (l ++ (y ∷ [])))
      ≡ pick o (pick b l (x ∷ l)) (pick b l (x ∷ l) ++ (y ∷ []))
  unfolding pick
  one_by true o x y l = refl
  one_by false true x y l = refl
  one_by false false x y l = refl

  more : (ss xs : List ℕ) (i : ℕ) → i < length ss → i < length xs
      → live_of hs today (take (suc i) ss) (take (suc i) xs)
      ≡ pick (stamp_old hs today (get_or ss i 0)) (live_of hs today (take i ss) (take i xs))
      (live_of hs today (take i ss) (take i xs) ++ (get_or xs i 0 ∷ []))
  unfolding live_of
  more [] xs i p q = absurd (not-suc-le-zero p)
  more (s ∷ ss) [] i p q = absurd (not-suc-le-zero q)
  more (s ∷ ss) (x ∷ xs) zero p q = refl
  more (s ∷ ss) (x ∷ xs) (suc i) p q =
      ap (λ (l : List ℕ). pick (stamp_old hs today s) l (x ∷ l)) (more ss xs i (le_of_suc-le-suc p) (le_of_suc-le-suc q))
      ∙ one_by (stamp_old hs today s) (stamp_old hs today (get_or ss i 0)) x (get_or xs i 0) (live_of hs today (take i ss) (take i xs))

  module _ (ss xs : List ℕ) (i : ℕ) (p : i < length ss) (q : i < length xs) where
    live_old : stamp_old hs today (get_or ss i 0) ≡ true
        → live_of hs today (take (i + 1) ss) (take (i + 1) xs) ≡ live_of hs today (take i ss) (take i xs)
    live_old e = rw (add-one i) (more ss xs i p q ∙ picks _ _ _ e)

    live_good : stamp_old hs today (get_or ss i 0) ≡ false
        → live_of hs today (take (i + 1) ss) (take (i + 1) xs) ≡ live_of hs today (take i ss) (take i xs) ++ (get_or xs i 0 ∷ [])
    live_good e = rw (add-one i) (more ss xs i p q ∙ skips _ _ _ e)

  pub live_lengths : (n : ℕ) (ss ks : List ℕ) → length ss ≡ length ks
      → length (live_of hs today (take n ss) (take n ss)) ≡ length (live_of hs today (take n ss) (take n ks))
  unfolding live_of
  live_lengths zero ss ks l = refl
  live_lengths (suc n) [] ks l = refl
  live_lengths (suc n) (s ∷ ss) [] l = absurd (omega arith)
  live_lengths (suc n) (s ∷ ss) (k ∷ ks) l = length-pick (stamp_old hs today s) s k _ _ (live_lengths n ss ks (omega arith))

-- ---- the record with other stamps

module _ (c : Customer) where
  abbrev pub placed : ℕ → List ℕ → List ℕ → Customer
  placed n ss ks =
      record {
        who = c.who;
        types = c.types;
        agreed = c.agreed;
        leave = c.leave;
        length = c.length;
        transport = c.transport;
        working = c.working;
        count = n;
        stamps = ss;
        once = ks;
      }

  as_placed : (n n' : ℕ) (a a' b b' : List ℕ) → n ≡ n' → a ≡ a' → b ≡ b' → placed n a b ≡ placed n' a' b'
  as_placed n n' a a' b b' e f g = rw (e, f, g)

  -- a stamp more, with what is beside it, where there is a place left and where there is none
  module _ (ss ks : List ℕ) (s k : ℕ) (l : length ss ≡ length ks) where
    pub placed_more : length ss < 64
        → placed (length ss + 1) (set (in_places ss) (length ss) s) (set (in_places ks) (length ss) k)
        ≡ placed (length ss + 1) (in_places (ss ++ (s ∷ []))) (in_places (ks ++ (k ∷ [])))
    placed_more h =
        as_placed _ _ _ _ _ _ refl (one_more ss s h)
        (ap (λ (n : ℕ). set (in_places ks) n k) l ∙ one_more ks k (omega arith))

    pub placed_full : length ss ≡ 64
        → placed (length ss + 1) (in_places ss) (in_places ks)
        ≡ placed (length ss + 1) (in_places (ss ++ (s ∷ []))) (in_places (ks ++ (k ∷ [])))
    placed_full h = as_placed _ _ _ _ _ _ refl (no_more ss s h) (no_more ks k (omega arith))

-- ---- the record with what is live of some stamps and of what is beside them

module _ (hs : List ℕ) (today : Date) (c : Customer) where
  abbrev pub live_in : List ℕ → List ℕ → Customer
  live_in ss ks =
      placed c (length (live_of hs today ss ss)) (in_places (live_of hs today ss ss)) (in_places (live_of hs today ss ks))

  -- no stamp is seen
  pub in_none : (ss ks : List ℕ) → placed c 0 (replicate 64 0) (replicate 64 0) ≡ live_in (take 0 ss) (take 0 ks)
  unfolding live_of
  in_none ss ks = refl

  -- a stamp more is seen, and what is live is as before or one more
  module _ (ss ks : List ℕ) (l : length ss ≡ length ks) (live : Customer) (i n s k : ℕ) (w : live ≡ live_in (take i ss) (take i ks)) (m : n ≡ i + 1)
      (t : (i < length ss) × (i < length ks) × ((d : ℕ) → s ≡ get_or ss i d) × ((d : ℕ) → k ≡ get_or ks i d)) where
    pub in_old : stamp_old hs today s ≡ true → live ≡ live_in (take n ss) (take n ks)
    in_old e =
        let f = sym (ap (stamp_old hs today) (t.2 0)) ∙ e in
        let a = live_old hs today ss ss i t.0 t.0 f in
        let b = live_old hs today ss ks i t.0 t.1 f in
        rw m (w ∙ as_placed c _ _ _ _ _ _ (sym (ap length a)) (sym (ap in_places a)) (sym (ap in_places b)))

    pub in_good : stamp_old hs today s ≡ false → live.count < 64
        → placed live (live.count + 1) (set live.stamps live.count s) (set live.once live.count k) ≡ live_in (take n ss) (take n ks)
    in_good e h =
        let x = live_of hs today (take i ss) (take i ss) in
        let y = live_of hs today (take i ss) (take i ks) in
        let f = sym (ap (stamp_old hs today) (t.2 0)) ∙ e in
        let a : x ++ (s ∷ []) ≡ live_of hs today (take (i + 1) ss) (take (i + 1) ss) =
        ap (λ (z : ℕ). x ++ (z ∷ [])) (t.2 0) ∙ sym (live_good hs today ss ss i t.0 t.0 f) in
        let b : y ++ (k ∷ []) ≡ live_of hs today (take (i + 1) ss) (take (i + 1) ks) =
        ap (λ (z : ℕ). y ++ (z ∷ [])) (t.3 0) ∙ sym (live_good hs today ss ks i t.0 t.1 f) in
        let r : length x ≡ length y = live_lengths hs today i ss ks l in
        let g : length x < 64 = omega (arith, ap (λ (d : Customer). d.count) w) in
        rw (m, w)
        (placed_more c x y s k r g
        ∙ as_placed c _ _ _ _ _ _ (sym (length-append x (s ∷ [])) ∙ ap length a) (ap in_places a) (ap in_places b))

-- ---- what is held

pub held_same : (c : Customer) → length c.stamps ≡ 64 → length c.once ≡ 64 → length (held_stamps c) ≡ length (held_once c)
held_same c p q = omega (arith, length-take {A = ℕ})

pub held_few : (c : Customer) → length c.stamps ≡ 64 → length (held_stamps c) ≤ 64
held_few c p = omega (arith, length-take {A = ℕ})

-- all that is held has been seen
pub in_all : (hs : List ℕ) (today : Date) (c live : Customer) (i : ℕ) → length (held_stamps c) ≤ i → length (held_once c) ≤ i
    → live ≡ live_in hs today c (take i (held_stamps c)) (take i (held_once c)) → live ≡ with_live hs today c
unfolding with_live
in_all hs today c live i p q e = e ∙ rw (take_all i (held_stamps c) p, take_all i (held_once c) q) refl

-- the new one behind those that are live
module _ (hs : List ℕ) (today : Date) (c live : Customer) (p : length c.stamps ≡ 64) (q : length c.once ≡ 64) (w : live ≡ with_live hs today c)
    (s k : ℕ) where
  pub marked_more : live.count < 64
      → placed live (live.count + 1) (set live.stamps live.count s) (set live.once live.count k) ≡ with_stamp hs today c s k
  unfolding with_live with_stamp
  marked_more h =
      let g : length (live_stamps hs today c) < 64 = omega (arith, ap (λ (d : Customer). d.count) w) in
      rw w (placed_more c _ _ s k (live_lengths hs today c.count c.stamps c.once (p ∙ sym q)) g)

  pub marked_full : live.count ≡ 64 → placed live (live.count + 1) live.stamps live.once ≡ with_stamp hs today c s k
  unfolding with_live with_stamp
  marked_full h =
      let g : length (live_stamps hs today c) ≡ 64 = omega (arith, ap (λ (d : Customer). d.count) w) in
      rw w (placed_full c _ _ s k (live_lengths hs today c.count c.stamps c.once (p ∙ sym q)) g)
