-- A purge keeps every stamp that is not too old, the new one stands behind them, and a sound customer stays sound.
-- Assumes nothing.
use mathlib.Core.Path.{◌≡◌, refl, sym, ap, ◌∙◌}
use mathlib.Core.Bool.{Bool, true, false}
use mathlib.Core.List.{List, [], ◌∷◌, ◌++◌, append_assoc}
use mathlib.Core.Logic.{⊎_elim}
use Prim.Native.Nat.{ℕ, zero, suc, ◌+◌, ◌-◌, ◌<◌}
use native.Mathlib.Numerals.{add-one}
use native.Mathlib.Omega.{arith}
use borrow.Author.Tests.{le-leb}
use lib.Dec.{eqb}
use lib.ListN.{length, take, replicate, length-append}
use Rattle.ground.specs.Choice.{both, pick}
use Rattle.ground.specs.Lists.{member}
use Rattle.ground.proofs.Choices.{left, right, join, either_left, either_right, either_cases}
use Rattle.ground.proofs.Lists.{member-cons, member_front, member_last, member_none, member-pick}
use Rattle.ground.proofs.Bools.{under, unless}
use Rattle.calendar.specs.declared.Date.{Date}
use Rattle.customer.specs.Customer.{real_stamp, sound_once, sound_stamps, sound_customer}
use Rattle.customer.specs.declared.Customer.{Customer}
use Rattle.customer.proofs.Laws.{used}
use Rattle.acceptance.specs.Stamps.{held_stamps, stamp_old, live_of, live_stamps, live_once, in_places, with_stamp}
use Rattle.acceptance.proofs.Lives.{live_lengths}
use Rattle.acceptance.proofs.Room.{in_places_lem, length-in_places, all_held}

-- ---- what is live

module _ (hs : List ℕ) (today : Date) where
  member_live : (s : ℕ) (l : List ℕ) → member s l ≡ true → stamp_old hs today s ≡ false → member s (live_of hs today l l) ≡ true
  unfolding live_of
  member_live s [] e o = absurd (let z : ◌≡◌ {A = ℕ} 0 1 = cc (member_none s) in omega arith)
  member_live s (y ∷ l) e o =
      member-pick s y (live_of hs today l l) (stamp_old hs today y) (λ h. ap (stamp_old hs today) h ∙ o)
      (⊎_elim (λ h. either_left (eqb y s) _ h) (λ h. either_right (eqb y s) _ (member_live s l h o))
      (either_cases (eqb y s) (member s l) (sym (member-cons s y l) ∙ e)))

  -- ---- the record with a stamp marked used

  module _ (c : Customer) (stamp once : ℕ) where
    held_after : length (live_stamps hs today c) < 64
        → held_stamps (with_stamp hs today c stamp once) ≡ live_stamps hs today c ++ (stamp ∷ [])
    unfolding with_stamp
    held_after h =
        all_held (live_stamps hs today c ++ (stamp ∷ [])) (length (live_stamps hs today c) + 1)
        (length-append (live_stamps hs today c) (stamp ∷ [])) (omega arith)

    -- every stamp that is held and not too old is still held
    pub stamp_kept : (s : ℕ) → member s (held_stamps c) ≡ true → stamp_old hs today s ≡ false
        → length (live_stamps hs today c) < 64 → member s (held_stamps (with_stamp hs today c stamp once)) ≡ true
    stamp_kept s e o h =
        ap (member s) (held_after h) ∙ member_front s (live_stamps hs today c) (stamp ∷ []) (member_live s (held_stamps c) e o)

    -- and so is the new one
    pub stamp_new : length (live_stamps hs today c) < 64 → member stamp (held_stamps (with_stamp hs today c stamp once)) ≡ true
    stamp_new h = ap (member stamp) (held_after h) ∙ member_last stamp (live_stamps hs today c)

    -- a stamp that is not held any more was too old
    pub dropped_old : (s : ℕ) → member s (held_stamps c) ≡ true → length (live_stamps hs today c) < 64
        → member s (held_stamps (with_stamp hs today c stamp once)) ≡ false → stamp_old hs today s ≡ true
    dropped_old s e h f = unless (stamp_old hs today s) (λ o. sym (stamp_kept s e o h) ∙ f)

    pub stamps_length : length (with_stamp hs today c stamp once).stamps ≡ 64
    unfolding with_stamp
    stamps_length = length-in_places (live_stamps hs today c ++ (stamp ∷ []))

    pub once_length : length (with_stamp hs today c stamp once).once ≡ 64
    unfolding with_stamp
    once_length = length-in_places (live_once hs today c ++ (once ∷ []))

-- ---- sound stamps

sound_zeros : (n : ℕ) → sound_stamps 0 (replicate n 0) (replicate n 0) ≡ true
unfolding sound_stamps both
sound_zeros zero = refl
sound_zeros (suc n) = sound_zeros n

-- one more behind sound stamps, and room after it
sound_more : (ss ks us vs : List ℕ) (s k : ℕ) → length ss ≡ length ks → sound_stamps (length ss) ss ks ≡ true
    → used s k ≡ true → sound_stamps 0 us vs ≡ true
    → sound_stamps (suc (length ss)) (ss ++ s ∷ us) (ks ++ k ∷ vs) ≡ true
unfolding sound_stamps
sound_more [] [] us vs s k l e u z = join (used s k) _ u z
sound_more [] (y ∷ ks) us vs s k l e u z = absurd (omega arith)
sound_more (x ∷ ss) [] us vs s k l e u z = absurd (omega arith)
sound_more (x ∷ ss) (y ∷ ks) us vs s k l e u z =
    join (used x y) _ (left (used x y) _ e) (sound_more ss ks us vs s k (omega arith) (right (used x y) _ e) u z)

sound_pick : (b : Bool) (s k : ℕ) (ss ks : List ℕ) → used s k ≡ true → sound_stamps (length ss) ss ks ≡ true
    → sound_stamps (length (pick b ss (s ∷ ss))) (pick b ss (s ∷ ss)) (pick b ks (k ∷ ks)) ≡ true
unfolding pick sound_stamps
sound_pick true s k ss ks u e = e
sound_pick false s k ss ks u e = join (used s k) _ u e

module _ (hs : List ℕ) (today : Date) where
  -- of sound stamps those that are live are sound
  sound_live : (n : ℕ) (ss ks : List ℕ) → length ss ≡ length ks → sound_stamps n ss ks ≡ true
      → sound_stamps (length (live_of hs today (take n ss) (take n ss))) (live_of hs today (take n ss) (take n ss))
      (live_of hs today (take n ss) (take n ks)) ≡ true
  unfolding live_of sound_stamps
  sound_live zero ss ks l e = refl
  sound_live (suc n) [] ks l e = refl
  sound_live (suc n) (s ∷ ss) [] l e = absurd (omega arith)
  sound_live (suc n) (s ∷ ss) (k ∷ ks) l e =
      sound_pick (stamp_old hs today s) s k _ _ (left (used s k) _ e) (sound_live n ss ks (omega arith) (right (used s k) _ e))

-- in their places
in_places_snoc : (l : List ℕ) (x n : ℕ) → length l ≡ n → n < 64 → in_places (l ++ (x ∷ [])) ≡ l ++ x ∷ replicate (63 - n) 0
in_places_snoc l x n e h =
    let f : length (l ++ (x ∷ [])) ≡ n + 1 = length-append l (x ∷ []) ∙ ap (λ (m : ℕ). m + 1) e in
    let g : 64 - length (l ++ (x ∷ [])) ≡ 63 - n = omega arith in
    in_places_lem (l ++ (x ∷ [])) (omega arith)
    ∙ append_assoc l (x ∷ []) (replicate (64 - length (l ++ (x ∷ []))) 0)
    ∙ ap (λ (m : ℕ). l ++ x ∷ replicate m 0) g

sound_places : (ss ks : List ℕ) (s k : ℕ) → length ss ≡ length ks → length ss < 64 → sound_stamps (length ss) ss ks ≡ true
    → used s k ≡ true → sound_stamps (length ss + 1) (in_places (ss ++ (s ∷ []))) (in_places (ks ++ (k ∷ []))) ≡ true
sound_places ss ks s k l h e u =
    rw (in_places_snoc ss s (length ss) refl h, in_places_snoc ks k (length ss) (sym l) h, add-one (length ss))
    (sound_more ss ks _ _ s k l e u (sound_zeros (63 - length ss)))

pub with_stamp_sound : (hs : List ℕ) (today : Date) (c : Customer) (stamp once : ℕ) → sound_customer c ≡ true
    → length c.stamps ≡ 64 → length c.once ≡ 64 → length (live_stamps hs today c) < 64
    → real_stamp stamp ≡ true → sound_once once ≡ true → sound_customer (with_stamp hs today c stamp once) ≡ true
unfolding sound_customer with_stamp
with_stamp_sound hs today c stamp once e p q h r k =
    let l : length c.stamps ≡ length c.once = p ∙ sym q in
    under _ _ _
    (under _ _ _
    (under _ _ _
    (under _ _ _
    (under _ _ _ (λ t.
    join _ _ (le-leb (length (live_stamps hs today c) + 1) 64 (omega arith))
    (sound_places (live_stamps hs today c) (live_once hs today c) stamp once
    (live_lengths hs today c.count c.stamps c.once l) h
    (sound_live hs today c.count c.stamps c.once l (right _ _ t))
    (join (real_stamp stamp) (sound_once once) r k)))))))
    e
