-- Records on their way: the state after the last character that is no
-- blank is the one that the record without the blanks at its end leads to.
-- Assumes nothing.
use Rattle.std.proofs.Common.{◌≡◌, ℕ, zero, suc, ◌-◌, ◌^◌, ◌<◌, ◌≤◌, min, Bool, true, false, eqb, List, [], ◌∷◌, map, length, take, drop, sym, refl, ap, ◌∙◌, ap₂, not-suc-le-zero, ⊎_elim, arith, length-drop, length-take, take_all}
use lib.ListN.{length-map}
use Rattle.ground.specs.Choice.{both, pick}
use Rattle.ground.proofs.Choices.{skips}
use Rattle.ground.proofs.Numbers.{below}
use Rattle.text.specs.Characters.{blank, internal}
use Rattle.des.specs.Des.{schedule_of, enciphered}
use Rattle.des.specs.Joined.{joined, joined_by}
use Rattle.des.proofs.Laws.{Each, none}
use Rattle.des.proofs.Joined.{joined-cipher}
use Rattle.digest.specs.Mac.{checksum_of}
use Rattle.digest.specs.Kept.{is_empty, stripped, kept_of, kept, digest_of}
use Rattle.digest.specs.Running.{begun, fed_byte, fed_bytes, closed, answered, alike, took_byte, took_bytes, ended, took_last, took_records}
use Rattle.digest.specs.declared.Method.{Method}
use Rattle.digest.specs.declared.Method.TheVariants.{Skh, Ske}
use Rattle.digest.specs.declared.State.{State}
use Rattle.digest.specs.declared.Running.{Running}
use Rattle.digest.proofs.Folds.{fed_append}
use Rattle.digest.proofs.Blocks.{fed_cut}
use Rattle.digest.proofs.Macs.{each_append, internal_bytes, closed-mac, answered-mac}

some_left : (n : ℕ) (l : List ℕ) → (n ≡ 0 → ⊥) → n ≤ length l → is_empty (take n l) ≡ false
unfolding is_empty
some_left zero l h k = absurd (h refl)
some_left (suc n) [] h k = absurd (not-suc-le-zero k)
some_left (suc n) (x ∷ l) h k = refl

module _ (e : ℕ → ℕ) where
  -- the solid state after the characters whose part before the blanks is q: where q is empty, the one before
  abbrev solid_after : State → State → List ℕ → State
  solid_after solid last q = pick (is_empty q) solid (fed_bytes e last (map internal q))

  -- one character in front: t tells whether it is a blank
  solid_more : (t : Bool) (b : ℕ) (solid last : State) (q : List ℕ)
      → solid_after (pick t solid (fed_byte e last (internal b))) (fed_byte e last (internal b)) q
      ≡ solid_after solid last (pick (both t (is_empty q)) [] (b ∷ q))
  unfolding pick both is_empty fed_bytes
  solid_more true b solid last [] = refl
  solid_more false b solid last [] = refl
  solid_more true b solid last (x ∷ q) = refl
  solid_more false b solid last (x ∷ q) = refl

  solid_same : (s : State) (q : List ℕ) → solid_after s s q ≡ fed_bytes e s (map internal q)
  unfolding pick is_empty fed_bytes
  solid_same s [] = refl
  solid_same s (x ∷ q) = refl

  took_from : (r : Running) (p : List ℕ)
      → took_bytes e r p
      ≡ record { start = r.start; solid = solid_after r.solid r.last (stripped p); last = fed_bytes e r.last (map internal p) }
  unfolding pick is_empty stripped fed_bytes took_bytes took_byte
  took_from r [] = refl
  took_from r (b ∷ p) =
      took_from (took_byte e r b) p
      ∙ ap
      (λ (s : State). record { start = r.start; solid = s; last = fed_bytes e (fed_byte e r.last (internal b)) (map internal p) })
      (solid_more (eqb b blank) b r.solid r.last (stripped p))

  -- by the characters before the blanks at their end, of which there are n
  module _ (r : Running) (l : List ℕ) (n : ℕ) (cut : take n l ≡ stripped l) where
    solid_is : (took_bytes e r l).solid ≡ solid_after r.solid r.last (take n l)
    solid_is = ap (λ (x : Running). x.solid) (took_from r l) ∙ ap (solid_after r.solid r.last) (sym cut)

    pub solid_blank : n ≡ 0 → r.solid ≡ (took_bytes e r l).solid
    unfolding pick is_empty
    solid_blank h = sym (solid_is ∙ ap (λ (k : ℕ). solid_after r.solid r.last (take k l)) h)

    pub solid_fed : {x : State} → (n ≡ 0 → ⊥) → n ≤ length l → x ≡ fed_bytes e r.last (map internal (take n l)) → x ≡ (took_bytes e r l).solid
    solid_fed h k p = p ∙ sym (solid_is ∙ skips (is_empty (take n l)) r.solid _ (some_left n l h k))

    run_is : {solid last : State} → solid ≡ (took_bytes e r l).solid → last ≡ fed_bytes e r.last (map internal l)
        → record { start = r.start; solid = solid; last = last } ≡ took_bytes e r l
    run_is p q =
        ap₂ (λ (s t : State). record { start = r.start; solid = s; last = t }) p q
        ∙ ap (λ (x : Running). record { start = r.start; solid = x.solid; last = fed_bytes e r.last (map internal l) }) (took_from r l)
        ∙ sym (took_from r l)

    pub run_blank : {last : State} → n ≡ 0 → last ≡ fed_bytes e r.last (map internal l)
        → record { start = r.start; solid = r.solid; last = last } ≡ took_bytes e r l
    run_blank h q = run_is (solid_blank h) q

    pub run_solid : {solid last : State} → (n ≡ 0 → ⊥) → n ≤ length l → solid ≡ fed_bytes e r.last (map internal (take n l))
        → last ≡ fed_bytes e solid (map internal (take (length l - n) (drop n l)))
        → record { start = r.start; solid = solid; last = last } ≡ took_bytes e r l
    run_solid h k p q =
        run_is (solid_fed h k p)
        (q
        ∙ ap₂ (λ (s : State) (m : List ℕ). fed_bytes e s (map internal m)) p (take_all (length l - n) (drop n l) (omega (arith, length-drop n l)))
        ∙ fed_cut e r.last l n)

  -- ---- a record whose end is in hand

  module _ (r : Running) (l : List ℕ) {m : Method} {x : State} {y : Running} where
    pub last_solid : m ≡ Skh → x ≡ (took_bytes e r l).solid → y ≡ record { start = r.start; solid = x; last = x } → y ≡ took_last e m r l
    unfolding took_last ended alike
    last_solid h p q =
        q ∙ ap (λ (s : State). record { start = r.start; solid = s; last = s }) p ∙ ap (λ (k : Method). took_last e k r l) (sym h)

    pub last_whole : m ≡ Ske → x ≡ fed_bytes e r.last (map internal l) → y ≡ record { start = r.start; solid = x; last = x }
        → y ≡ took_last e m r l
    unfolding took_last ended alike
    last_whole h p q =
        q
        ∙ ap (λ (s : State). record { start = r.start; solid = s; last = s }) (p ∙ sym (ap (λ (k : Running). k.last) (took_from r l)))
        ∙ ap (λ (k : Method). took_last e k r l) (sym h)

  -- its end is that of the record with all of its characters
  pub ended_last : (m : Method) (r : Running) (l : List ℕ) → ended m (took_last e m r l) ≡ ended m (took_bytes e r l)
  unfolding took_last ended alike
  ended_last Skh r l = refl
  ended_last Ske r l = refl

  module _ (s : State) (p : List ℕ) where
    pub took_stands : took_bytes e (alike s) p
        ≡ record { start = s; solid = fed_bytes e s (map internal (stripped p)); last = fed_bytes e s (map internal p) }
    unfolding alike
    took_stands =
        took_from (alike s) p
        ∙ ap (λ (t : State). record { start = s; solid = t; last = fed_bytes e s (map internal p) }) (solid_same s (stripped p))

    pub ended_stands : (m : Method) → ended m (took_bytes e (alike s) p) ≡ alike (fed_bytes e s (kept_of m p))
    unfolding ended kept_of
    ended_stands Skh = ap (λ (r : Running). alike r.solid) took_stands
    ended_stands Ske = ap (λ (r : Running). alike r.last) took_stands

  -- records join
  pub records_stand : (m : Method) (s : State) (records : List (List ℕ))
      → took_records e m (alike s) records ≡ alike (fed_bytes e s (kept m records))
  unfolding took_records kept fed_bytes
  records_stand m s [] = refl
  records_stand m s (p ∷ ps) =
      ap (λ (r : Running). took_records e m r ps) (ended_stands s p m)
      ∙ records_stand m (fed_bytes e s (kept_of m p)) ps
      ∙ ap alike (sym (fed_append e s (kept_of m p) (kept m ps)))

  kept_bytes : (m : Method) (records : List (List ℕ)) → Each 256 (kept m records)
  unfolding kept kept_of
  kept_bytes m [] = none
  kept_bytes Skh (p ∷ ps) = each_append _ _ (internal_bytes (stripped p)) (kept_bytes Skh ps)
  kept_bytes Ske (p ∷ ps) = each_append _ _ (internal_bytes p) (kept_bytes Ske ps)

  -- a batch's digest is that of its kept characters
  pub batch_is : (m : Method) (records : List (List ℕ)) → length (kept m records) < 2 ^ 64
      → answered e (took_records e m (alike begun) records).start ≡ digest_of e m records
  unfolding digest_of alike
  batch_is m records h =
      ap (λ (r : Running). answered e r.start) (records_stand m begun records)
      ∙ answered-mac e (kept m records) (kept_bytes m records) h

-- the characters that a checksum covers
covered : (l : List ℕ) (n : ℕ) → n ≡ min (length l) 144 → take n l ≡ take 144 l
covered l n e =
    ⊎_elim
    (λ h. let a : n ≡ length l = omega arith in rw a (take_all (length l) l (omega arith) ∙ sym (take_all 144 l (omega arith))))
    (λ h. let a : n ≡ 144 = omega arith in rw a)
    (below (length l) 144)

-- the checksum by what each call gives
module _ (key : ℕ) (message : List ℕ) {n : ℕ} {t k : List ℕ} {s x : State} where
  pub checksum_made : n ≡ min (length message) 144 → t ≡ joined → k ≡ schedule_of key → s ≡ begun
      → x ≡ fed_bytes (joined_by t k) s (map internal (take n message))
      → closed (joined_by t k) x ≡ checksum_of key message
  unfolding checksum_of
  checksum_made en et ek es ex =
      let l : List ℕ = take 144 message in
      rw (ex, covered message n en, es, et, ek, joined-cipher (schedule_of key))
      (closed-mac (enciphered key) (map internal l) (internal_bytes l) (omega (arith, length-map l internal, length-take 144 message)))
