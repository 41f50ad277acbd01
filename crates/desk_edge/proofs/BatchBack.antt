-- A SUO that was built leaves bytes that are its batch's: the maker sets the one-time key's parity, a desk's keys have theirs, and the SUO was
-- not refused. A record added keeps the bytes a batch's, since it changes the digest alone.
-- Assumes nothing.
use Prim.Native.Nat.{ℕ}
use mathlib.Core.Path.{◌≡◌, refl, sym, ap, subst, ◌∙◌}
use mathlib.Core.Bool.{Bool, true, false}
use mathlib.Core.List.{List}
use native.Mathlib.Omega.{arith}
use borrow.Author.Tests.{eq-eqb}
use lib.ListN.{length}
use Rattle.ground.specs.Choice.{pick}
use Rattle.ground.proofs.Choices.{left, right, picks, skips}
use Rattle.splices.proofs.Splice.{AllBytes, bytes_part}
use Rattle.codec.specs.Layout.{dec}
use Rattle.keys.specs.Parity.{odd_parity}
use Rattle.desk.specs.declared.Held.{Held}
use Rattle.desk_bytes.specs.Bytes.{sound_keys, sound_held, held_of, is_held, held_in}
use Rattle.desk_bytes.proofs.Tests.{long, said}
use Rattle.desk_bytes.proofs.Back.{HeldFits, said_fits}
use Rattle.build.specs.Building.{suo_building, record_added, no_batch}
use Rattle.build.specs.declared.Given.{Given}
use Rattle.build.specs.declared.Batch.{Batch}
use Rattle.build.specs.declared.BuiltSuo.{BuiltSuo}
use Rattle.build.proofs.Fits.{begun_batch, suo_batch, suo_fits, added_fits}
use Rattle.build_bytes.specs.Bytes.{sound_batch, batch_bytes, batch_of, is_batch, batch_in, batch_stored}
use Rattle.build_bytes.proofs.Tests as tests
use Rattle.build_bytes.proofs.Back.{BatchIs, written_is, said_is, sound_said, sound_begun, sound_added, batch_bytes_lem}
use Rattle.desk_edge.specs.Builder.{maker_in, suo_given, suo_built_by, batch_after, added_by}
use Rattle.desk_edge.proofs.Building.{suo_lengths}

-- ---- a desk that its bytes say

module _ (held : List ℕ) (e : is_held held ≡ true) where
  odd_working : odd_parity (held_in held).working.key ≡ true
  unfolding is_held sound_held sound_keys
  odd_working =
      let s : sound_held (held_of held) ≡ true = right _ _ (right _ _ e) in
      subst (λ (h : Held). odd_parity h.working.key ≡ true) (sym (said held e))
      (left _ _ (right _ _ (right _ _ (right _ _ (right _ _ s)))))

  desk_fits : AllBytes held → HeldFits (held_in held)
  desk_fits a = subst HeldFits (sym (said held e)) (said_fits held (long held e) a)

-- ---- a SUO

module _ (held maker : List ℕ) (clock : ℕ) (g : Given) (text batch : List ℕ) (z : (suo_built_by held maker clock g text batch).refusal ≡ 0) where
  given : suo_given held maker g text batch ≡ true
  unfolding suo_built_by pick
  given = by (suo_given held maker g text batch) z
    where
      by : (t : Bool) → (pick t (suo_building (held_in held) (maker_in maker) clock g) (record { refusal = 11; batch = no_batch })).refusal ≡ 0
          → t ≡ true
      by true e = refl
      by false e = absurd (omega arith)

  built_is : suo_built_by held maker clock g text batch ≡ suo_building (held_in held) (maker_in maker) clock g
  unfolding suo_built_by
  built_is = picks _ _ (record { refusal = 11; batch = no_batch }) given

  suo_served : (suo_building (held_in held) (maker_in maker) clock g).refusal ≡ 0
  suo_served = ap (λ (x : BuiltSuo). x.refusal) (sym built_is) ∙ z

  begun_is : (suo_building (held_in held) (maker_in maker) clock g).batch ≡ begun_batch (held_in held) (maker_in maker) clock g
  begun_is = suo_batch (held_in held) (maker_in maker) clock g suo_served

  stored_is : length batch ≡ 168
      → batch_after batch (suo_built_by held maker clock g text batch) ≡ batch_bytes (begun_batch (held_in held) (maker_in maker) clock g)
  unfolding batch_after
  stored_is n =
      picks _ (batch_stored batch (suo_built_by held maker clock g text batch).batch) batch (eq-eqb _ 0 z)
      ∙ tests.stored batch _ n
      ∙ ap batch_bytes (ap (λ (x : BuiltSuo). x.batch) built_is ∙ begun_is)

  pub suo_kept : AllBytes held
      → BatchIs (batch_after batch (suo_built_by held maker clock g text batch)) (suo_building (held_in held) (maker_in maker) clock g).batch
  unfolding suo_given
  suo_kept a =
      let l = suo_lengths held maker clock g.software g.method g.stamp g.area text batch given in
      let e : is_held held ≡ true = left _ _ given in
      let d = desk_fits held e a in
      let f = suo_fits (held_in held) (maker_in maker) clock g d.bank d.own l.software_is l.method_is l.stamp_is
      d.working.current in
      let w = written_is (begun_batch (held_in held) (maker_in maker) clock g) f
      (sound_begun (held_in held) (maker_in maker) clock g suo_served (odd_working held e)) in
      let p = stored_is l.bytes in
      let q = begun_is in
      subst (λ (b : List ℕ). BatchIs b (suo_building (held_in held) (maker_in maker) clock g).batch) (sym p)
      (subst (λ (x : Batch). BatchIs (batch_bytes (begun_batch (held_in held) (maker_in maker) clock g)) x) (sym q) w)

-- ---- a record

added_is : (b r : List ℕ) (x : Batch) → BatchIs b x → added_by b r ≡ batch_bytes (record_added x r)
unfolding added_by
added_is b r x i =
    picks _ (batch_stored b (record_added (batch_in b) r)) b i.there
    ∙ tests.stored b _ (tests.long b i.there)
    ∙ ap (λ (y : Batch). batch_bytes (record_added y r)) i.says

pub added_kept : (b r : List ℕ) (x : Batch) → BatchIs b x → BatchIs (added_by b r) (record_added x r)
added_kept b r x i =
    let s : sound_batch x ≡ true = ap sound_batch (sym i.says) ∙ sound_said b i.there in
    subst (λ (c : List ℕ). BatchIs c (record_added x r)) (sym (added_is b r x i))
    (written_is (record_added x r) (added_fits x r i.fits) (sound_added x r ∙ s))

unadded : (b r : List ℕ) → is_batch b ≡ false → added_by b r ≡ b
unfolding added_by
unadded b r e = skips (is_batch b) _ b e

module _ (b r : List ℕ) (a : AllBytes b) where
  pub still_batch : is_batch (added_by b r) ≡ is_batch b
  still_batch = by (is_batch b) refl
    where
      by : (t : Bool) → is_batch b ≡ t → is_batch (added_by b r) ≡ is_batch b
      by true e = (added_kept b r (batch_in b) (said_is b a e)).there ∙ sym e
      by false e = ap is_batch (unadded b r e)

  pub added_says : is_batch b ≡ true → batch_in (added_by b r) ≡ record_added (batch_in b) r
  added_says e = (added_kept b r (batch_in b) (said_is b a e)).says

  -- and the bytes are bytes
  suo_bytes : AllBytes (batch_of b).suo
  unfolding batch_of dec
  suo_bytes = bytes_part 0 128 b a

  added_suo : AllBytes (record_added (batch_of b) r).suo
  unfolding record_added
  added_suo = suo_bytes

  pub added_bytes : AllBytes (added_by b r)
  added_bytes = by (is_batch b) refl
    where
      by : (t : Bool) → is_batch b ≡ t → AllBytes (added_by b r)
      by true e =
          subst AllBytes (sym (added_is b r (batch_of b) (subst (BatchIs b) (tests.said b e) (said_is b a e))))
          (batch_bytes_lem (record_added (batch_of b) r) added_suo)
      by false e = subst AllBytes (sym (unadded b r e)) a
