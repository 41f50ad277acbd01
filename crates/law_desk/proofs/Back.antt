-- A desk that is opened, given a key or that kept one is a sound desk again: each key has odd parity, and the current generation follows the
-- one before it.
-- Assumes nothing.
use Rattle.std.specs.Prelude.{None, Option, Some, Err, Ok, Result}
use Prim.Native.Nat.{ℕ, ◌^◌, ◌<◌, ◌≤◌}
use mathlib.Core.Path.{◌≡◌, refl, sym, ap, ◌∙◌, subst}
use mathlib.Core.Bool.{Bool, true, false, false≢true}
use mathlib.Core.List.{List, [], ◌++◌}
use native.Mathlib.Omega.{arith}
use borrow.Author.Tests.{eqb-true, eq-eqb, le-leb, ltb-false}
use lib.Dec.{eqb, leb}
use lib.ListN.{length, replicate, length-replicate}
use Rattle.ground.specs.Choice.{both, pick}
use Rattle.ground.proofs.Choices.{left, right, join, fails-false, decides, picks, skips}
use Rattle.ground.proofs.Bools.{neither, picked}
use Rattle.keys.specs.Parity.{odd_parity}
use Rattle.keys.specs.Keys.{combined, working_key0, next_generation}
use Rattle.keys.proofs.Laws.{combined_odd, combined-lt, working_key_0_odd, working_key_0_lt, next_generation-le}
use Rattle.des.specs.Des.{deciphered}
use Rattle.des.proofs.Inverse.{deciphered-lt}
use Rattle.refusals.specs.Refusals.{refusal, lowest, not_next}
use Rattle.refusals.proofs.Refused.{served}
use Rattle.splices.proofs.Splice.{AllBytes}
use Rattle.edge.specs.Edge.{fixed}
use Rattle.desk.specs.Held.{before_named, key_named, replaced, opening_refusals, opened_desk, no_desk, given_by, opening, entering_refusals, entered_desk, entering}
use Rattle.message.specs.declared.Check.{Check}
use Rattle.message.specs.Order.{first_failing}
use Rattle.message.specs.Fields.{working_generation_of}
use Rattle.message.specs.declared.Fault.{Fault}
use Rattle.message.proofs.Order.{NoneFails, accepted, none_right}
use Rattle.checks.specs.Checks.{checksum_differs, key_or0}
use Rattle.verdict.specs.Outcomes.{is_sound}
use Rattle.desk_form.specs.Replies.{encloses, reply_checks}
use Rattle.desk_form.specs.declared.Reply.TheVariants.{Esi, Pte}
use Rattle.desk.specs.Desk.{deciphering, enclosed_in, is_not_odd, receiver_checks, reply_key_checks, stamp_sent_checks, desk_esi_checks, batch_sent_checks}
use Rattle.desk.specs.Desk.{came_checks, desk_pte_checks, with_enclosed, kept_from, held_after, checked_by, esi_checked, pte_checked}
use Rattle.desk.specs.declared.Sent.{Sent}
use Rattle.desk.specs.declared.Keys.{Keys}
use Rattle.desk.specs.declared.Held.{Held}
use Rattle.desk.specs.declared.Parts.{Parts}
use Rattle.desk.specs.declared.Given.{Given}
use Rattle.desk.specs.declared.Checked.{Checked}
use Rattle.desk_bytes.specs.Layout.{held_size}
use Rattle.desk_bytes.specs.Bytes.{sound_before, sound_keys, sound_held, held_bytes, is_held, held_in, held_stored, sent_in}
use Rattle.desk_bytes.proofs.Back.{BeforeFits, KeysFit, HeldFits, is_held_lem, held_back as written_back, said_fits}
use Rattle.desk_bytes.proofs.Tests.{long, said, stored}
use Rattle.desk_edge.specs.Calls.{parts_asked, opened_by, no_desk_refusal, entered_by, held_after_call, is_served, esi_by, pte_by, check_held}
use Rattle.law_desk.specs.Desks.{Says, HeldBack}
use Rattle.desk.specs.declared.Numbered.{Numbered}

-- a desk that is sound and fits
pub record Good (h : Held) : Type 0 where
  pub sound : sound_held h ≡ true
  pub fits : HeldFits h

-- written over bytes of its length it is what they say
pub good_stored : (b : List ℕ) (h : Held) → length b ≡ held_size → Good h → Says (held_stored b h) h
good_stored b h n g =
    let e = is_held_lem h g.sound g.fits in
    subst (λ (x : List ℕ). Says x h) (sym (stored b h n))
    (record { is = e; said = said (held_bytes h) e ∙ written_back h g.sound g.fits })

-- what a desk's bytes say is such a desk
pub good_said : (b : List ℕ) → AllBytes b → is_held b ≡ true → Good (held_in b)
unfolding is_held
good_said b a e =
    subst Good (sym (said b e))
    (record { sound = right _ _ (right _ _ e); fits = said_fits b (long b e) a })

-- ---- a new key

only_sound : (g k : ℕ) → g ≤ 9 → odd_parity k ≡ true → sound_keys (record { generation = g; key = k; before = None }) ≡ true
unfolding sound_keys sound_before
only_sound g k h o = join _ _ (le-leb g 9 h) (join _ _ o refl)

replaced_sound : (k : Keys) (g x : ℕ) → sound_keys k ≡ true → g ≡ next_generation k.generation → odd_parity x ≡ true
    → sound_keys (replaced k g x) ≡ true
unfolding sound_keys sound_before replaced
replaced_sound k g x s e o =
    let h : g ≤ 9 = omega (arith, e, next_generation-le k.generation) in
    join _ _ (le-leb g 9 h)
    (join _ _ o (join _ _ (left _ _ s) (join _ _ (eq-eqb _ _ (sym e)) (left _ _ (right _ _ s)))))

-- ---- opened

fixed_long : (n : ℕ) (l : List ℕ) → length (fixed n l) ≡ n
unfolding fixed
fixed_long n l =
    picked (λ (x : List ℕ). length x ≡ n) (eqb (length l) n) l (replicate n 0) (λ e. eqb-true (length l) n e) (λ e. length-replicate {A = ℕ} n 0)

opened_good : (own bank : List ℕ) (p : Parts) → length own ≡ 25 → length bank ≡ 25 → lowest (opening_refusals own bank p) ≡ 0
    → Good (opened_desk own bank p)
unfolding opening_refusals opened_desk sound_held
opened_good own bank p l n z =
    let a = served 8 _ _ refl z in
    let b = served 9 _ _ refl a.1 in
    let c = served 11 _ _ refl b.1 in
    let d = neither _ _ c.0 in
    let e = neither _ _ d.1 in
    let g : p.generation ≤ 9 = ltb-false 9 _ e.1 in
    let k = combined p.part1 p.part2 in
    record {
      sound =
          join _ _ (fails-false _ d.0)
          (join _ _ (fails-false _ e.0)
          (join _ _ (only_sound p.generation k g (combined_odd p.part1 p.part2))
          (only_sound 0 (working_key0 k) (omega arith) (working_key_0_odd k))));
      fits = record {
        own = l;
        bank = n;
        transport = record { current = combined-lt p.part1 p.part2; before = tt };
        working = record { current = working_key_0_lt k; before = tt };
      };
    }

-- ---- entered

entered_good : (h : Held) (p : Parts) → Good h → lowest (entering_refusals h p) ≡ 0 → Good (entered_desk h p)
unfolding entering_refusals entered_desk sound_held not_next replaced
entered_good h p g z =
    let a = served 8 _ _ refl z in
    let b = served 9 _ _ refl a.1 in
    let c = served 10 _ _ refl b.1 in
    let e : next_generation h.transport.generation ≡ p.generation = eqb-true _ _ (fails-false _ c.0) in
    let s = g.sound in
    let r = right _ _ (right _ _ s) in
    record {
      sound =
          join _ _ (left _ _ s)
          (join _ _ (left _ _ (right _ _ s))
          (join _ _ (replaced_sound h.transport p.generation _ (left _ _ r) (sym e) (combined_odd p.part1 p.part2))
          (right _ _ r)));
      fits = record {
        own = g.fits.own;
        bank = g.fits.bank;
        transport = record { current = combined-lt p.part1 p.part2; before = g.fits.transport.current };
        working = g.fits.working;
      };
    }

-- ---- the calls

given_held : (n : ℕ) (x y : Held) → n ≡ 0 → (given_by n x y).held ≡ x
unfolding given_by
given_held n x y e = picks _ _ _ (eq-eqb n 0 e)

after_served : (b : List ℕ) (x : Given) → x.refusal ≡ 0 → held_after_call b x ≡ held_stored b x.held
unfolding held_after_call
after_served b x e = picks _ _ _ (eq-eqb x.refusal 0 e)

served_says : (b : List ℕ) (x : Given) (h : Held) → length b ≡ held_size → x.refusal ≡ 0 → x.held ≡ h → Good h
    → Says (held_after_call b x) x.held
served_says b x h n z e g =
    subst (λ (l : List ℕ). Says l x.held) (sym (after_served b x z)) (good_stored b x.held n (subst Good (sym e) g))

-- an opening is served only for bytes of a desk's length
asked_length : (t : Bool) (g : ℕ) → pick t g 10 ≤ 9 → t ≡ true
unfolding pick
asked_length true g h = refl
asked_length false g h = absurd (omega arith)

length_asked : (held own bank : List ℕ) (part1 part2 check generation : ℕ)
    → lowest (opening_refusals (fixed 25 own) (fixed 25 bank) (parts_asked held part1 part2 check generation)) ≡ 0 → length held ≡ held_size
unfolding opening_refusals parts_asked
length_asked held own bank part1 part2 check generation z =
    let a = served 8 _ _ refl z in
    let b = served 9 _ _ refl a.1 in
    let c = served 11 _ _ refl b.1 in
    let e = neither _ _ (neither _ _ c.0).1 in
    eqb-true (length held) held_size (asked_length (eqb (length held) held_size) generation (ltb-false 9 _ e.1))

opened_back : (held own bank : List ℕ) (part1 part2 check generation : ℕ) → (opened_by held own bank part1 part2 check generation).refusal ≡ 0
    → Says (held_after_call held (opened_by held own bank part1 part2 check generation))
    (opened_by held own bank part1 part2 check generation).held
unfolding opened_by opening given_by
opened_back held own bank part1 part2 check generation z =
    let p : Parts = parts_asked held part1 part2 check generation in
    let g = opened_good (fixed 25 own) (fixed 25 bank) p (fixed_long 25 own) (fixed_long 25 bank) z in
    let n = length_asked held own bank part1 part2 check generation z in
    served_says held _ _ n z (picks _ _ _ (eq-eqb _ 0 z)) g

-- bytes that are no desk's are refused
none_served : (held : List ℕ) (p : Parts) → (entered_by held p).refusal ≡ 0 → is_held held ≡ false → ⊥
unfolding entered_by no_desk_refusal
none_served held p z e =
    let n = ap (λ (x : Given). x.refusal) (sym (skips (is_held held) (entering (held_in held) p) _ e)) ∙ z in
    let a = served 8 _ _ refl n in
    let b = served 9 _ _ refl a.1 in
    false≢true (sym (served 11 true [] refl b.1).0)

entered_held : (held : List ℕ) (p : Parts) → AllBytes held → (entered_by held p).refusal ≡ 0 → is_held held ≡ true
    → Says (held_after_call held (entered_by held p)) (entered_by held p).held
unfolding entered_by entering given_by
entered_held held p a z e =
    let q = picks (is_held held) (entering (held_in held) p) (record { refusal = no_desk_refusal p; held = no_desk }) e in
    let n : lowest (entering_refusals (held_in held) p) ≡ 0 = ap (λ (x : Given). x.refusal) (sym q) ∙ z in
    served_says held _ _ (long held e) z (ap (λ (x : Given). x.held) q ∙ picks _ _ _ (eq-eqb _ 0 n))
    (entered_good (held_in held) p (good_said held a e) n)

entered_back : (held : List ℕ) (p : Parts) → AllBytes held → (entered_by held p).refusal ≡ 0
    → Says (held_after_call held (entered_by held p)) (entered_by held p).held
entered_back held p a z = by (is_held held) refl
  where
    by : (t : Bool) → is_held held ≡ t → Says (held_after_call held (entered_by held p)) (entered_by held p).held
    by true e = entered_held held p a z e
    by false e = absurd (none_served held p z e)

-- ---- a key that is kept

-- the desk held a key of the generation used
named_before : (b : Option Numbered) (n used k : ℕ) → sound_before n b ≡ true → before_named b used ≡ Some k → sound_before (next_generation used) b ≡ true
unfolding sound_before before_named
named_before None n used k s e = refl
named_before (Some x) n used k s e = by (eqb x.generation used) refl
  where
    by : (t : Bool) → eqb x.generation used ≡ t
        → both (leb x.generation 9) (both (eqb (next_generation x.generation) (next_generation used)) (odd_parity x.key)) ≡ true
    by true q =
        join _ _ (left _ _ s)
        (join _ _ (eq-eqb _ _ (ap next_generation (eqb-true x.generation used q))) (right _ _ (right _ _ s)))
    by false q =
        let m : None ≡ Some k = sym (skips (eqb x.generation used) (Some x.key) None q) ∙ e in
        absurd (let z : ◌≡◌ {A = ℕ} 0 1 = cc in omega arith)

module _ (w : Keys) (used key k : ℕ) (s : sound_keys w ≡ true) (f : KeysFit w) (e : key_named w used ≡ Some k) where
  before_sound : (t : Bool) → eqb w.generation used ≡ t
      → sound_before (next_generation used) (pick t (Some (record { generation = w.generation; key = w.key })) w.before) ≡ true
  unfolding sound_keys sound_before key_named pick
  before_sound true q =
      join _ _ (left _ _ s)
      (join _ _ (eq-eqb _ _ (ap next_generation (eqb-true w.generation used q))) (left _ _ (right _ _ s)))
  before_sound false q =
      named_before w.before w.generation used k (right _ _ (right _ _ s))
      (sym (skips (eqb w.generation used) (Some w.key) (before_named w.before used) q) ∙ e)

  enclosed_sound : odd_parity key ≡ true → sound_keys (with_enclosed w used key) ≡ true
  unfolding sound_keys with_enclosed
  enclosed_sound o =
      join _ _ (le-leb _ 9 (next_generation-le used)) (join _ _ o (before_sound (eqb w.generation used) refl))

  before_fit : (t : Bool) → BeforeFits (pick t (Some (record { generation = w.generation; key = w.key })) w.before)
  unfolding pick
  before_fit true = f.current
  before_fit false = f.before

  enclosed_fit : key < 2 ^ 64 → KeysFit (with_enclosed w used key)
  unfolding with_enclosed
  enclosed_fit h = record { current = h; before = before_fit (eqb w.generation used) }

-- a checksum that agrees was made with a key that is held
summed_held : (x : Option ℕ) (r : List ℕ) → checksum_differs x r ≡ false → (k : ℕ) × (x ≡ Some k)
unfolding checksum_differs
summed_held None r e = absurd (false≢true (sym e))
summed_held (Some k) r e = (k, refl)

-- and a key without even parity is one
odd_held : (x : Option ℕ) → is_not_odd x ≡ false → (k : ℕ) × (x ≡ Some k) × (odd_parity k ≡ true)
unfolding is_not_odd
odd_held None e = absurd (false≢true (sym e))
odd_held (Some k) e = (k, refl, fails-false _ e)

deciphered_fits : (t : Option ℕ) (x y : ℕ) → deciphering t x ≡ Some y → y < 2 ^ 64
unfolding deciphering
deciphered_fits None x y e = absurd (let z : ◌≡◌ {A = ℕ} 0 1 = cc in omega arith)
deciphered_fits (Some t) x y e = let q : deciphered t x ≡ y = cc in subst (λ (n : ℕ). n < 2 ^ 64) q (deciphered-lt t x)

module _ (h : Held) (s : Sent) (r : List ℕ) (g : Good h) (n : NoneFails (reply_key_checks h s r)) (encl : encloses r ≡ true) where
  sum_key : (k : ℕ) × (key_named h.working (working_generation_of r) ≡ Some k)
  unfolding reply_key_checks
  sum_key = summed_held _ r n.1.1.0

  new_key : (k : ℕ) × (enclosed_in h r ≡ Some k) × (odd_parity k ≡ true)
  unfolding reply_key_checks
  new_key = odd_held _ (sym (decides _ _ encl) ∙ n.1.1.1.0)

  new_lt : new_key.0 < 2 ^ 64
  unfolding enclosed_in
  new_lt = deciphered_fits _ _ _ new_key.1

  kept_good : Good (kept_from h r)
  unfolding kept_from sound_held key_or0
  kept_good =
      let w = h.working in
      let u = working_generation_of r in
      let z = g.sound in
      let e = ap key_or0 (sym new_key.1) in
      record {
        sound =
            join _ _ (left _ _ z)
            (join _ _ (left _ _ (right _ _ z))
            (join _ _ (left _ _ (right _ _ (right _ _ z)))
            (enclosed_sound w u _ sum_key.0 (right _ _ (right _ _ (right _ _ z))) g.fits.working sum_key.1
            (ap odd_parity (sym e) ∙ new_key.2))));
        fits = record {
          own = g.fits.own;
          bank = g.fits.bank;
          transport = g.fits.transport;
          working = enclosed_fit w u _ sum_key.0 (right _ _ (right _ _ (right _ _ z))) g.fits.working sum_key.1
              (subst (λ (k : ℕ). k < 2 ^ 64) e new_lt);
        };
      }

kept_or_not : (h : Held) (s : Sent) (r : List ℕ) (front : List Check) → Good h → (f : Result Unit Fault)
    → first_failing (front ++ reply_key_checks h s r) ≡ f → Good (pick (both (is_sound f) (encloses r)) (kept_from h r) h)
unfolding is_sound
kept_or_not h s r front g (Ok _) e =
    picked Good (both true (encloses r)) (kept_from h r) h
    (λ t. kept_good h s r g (none_right front (reply_key_checks h s r) (accepted _ e)) (right true (encloses r) t)) (λ t. g)
kept_or_not h s r front g (Err fault) e =
    picked Good (both false (encloses r)) (kept_from h r) h (λ t. absurd (false≢true (left false (encloses r) t))) (λ t. g)

-- whatever was found
after_good : (h : Held) (s : Sent) (r : List ℕ) (front : List Check) → Good h
    → Good (checked_by h r (first_failing (front ++ reply_key_checks h s r))).held
unfolding checked_by held_after
after_good h s r front g = kept_or_not h s r front g (first_failing (front ++ reply_key_checks h s r)) refl

served_held : (held sent word : List ℕ) → is_served held sent word ≡ true → is_held held ≡ true
unfolding is_served
served_held held sent word e = left _ _ e

-- a check leaves the desk that it tells
left_says : (held sent word : List ℕ) (x : Checked) → is_served held sent word ≡ true → Good x.held
    → Says (check_held (is_served held sent word) held x) x.held
unfolding check_held
left_says held sent word x e g =
    subst (λ (l : List ℕ). Says l x.held) (sym (picks _ _ _ e)) (good_stored held x.held (long held (served_held held sent word e)) g)

pub esi_back : (held sent reply word : List ℕ) → AllBytes held → is_served held sent word ≡ true
    → Says (check_held (is_served held sent word) held (esi_by held sent reply)) (esi_by held sent reply).held
unfolding esi_by esi_checked desk_esi_checks
esi_back held sent reply word a e =
    let h : Held = held_in held in
    let s : Sent = sent_in sent in
    left_says held sent word _ e
    (after_good h s reply (reply_checks Esi reply ++ receiver_checks h reply ++ stamp_sent_checks s reply)
    (good_said held a (served_held held sent word e)))

pub pte_back : (held sent reply word : List ℕ) → AllBytes held → is_served held sent word ≡ true
    → Says (check_held (is_served held sent word) held (pte_by held sent reply)) (pte_by held sent reply).held
unfolding pte_by pte_checked desk_pte_checks
pte_back held sent reply word a e =
    let h : Held = held_in held in
    let s : Sent = sent_in sent in
    left_says held sent word _ e
    (after_good h s reply (came_checks reply ++ reply_checks Pte reply ++ receiver_checks h reply ++ batch_sent_checks s reply)
    (good_said held a (served_held held sent word e)))

pub held_back : HeldBack
held_back =
    (opened_back, entered_back, λ held sent reply word a e. (esi_back held sent reply word a e, pte_back held sent reply word a e))
