-- No check fails: each asks of a field what the field was built to say, or what a premise says.
-- Assumes nothing.
use Rattle.std.specs.Prelude.{Option, Some}
use mathlib.Core.Path.{◌≡◌, sym, ap, ◌∙◌}
use mathlib.Core.Bool.{true, false}
use mathlib.Core.Logic.{⊎_elim}
use mathlib.Core.List.{List, ◌++◌}
use Prim.Native.Nat.{ℕ, ◌≤◌, ◌<◌, ◌^◌}
use native.Mathlib.Omega.{arith}
use borrow.Author.Tests.{eqb-true, eq-eqb, le-ltb}
use lib.Dec.{eqb, ltb}
use lib.ListN.{length, take}
use lib.Seq.{take_at}
use Rattle.ground.specs.Choice.{both, either, pick, between}
use Rattle.ground.proofs.Choices.{right, fails_left, either_left, either_cases, picks, eq-same}
use Rattle.ground.proofs.Bools.{not_failed, either_none, agree}
use Rattle.text.specs.Numbers.{digit_value, decimal_from, decimal, hex, hex_digits}
use Rattle.text.specs.Letters.{letters}
use Rattle.text.proofs.Laws.{decimal_back, hex_back}
use Rattle.calendar.specs.Dates.{dated, is_before}
use Rattle.calendar.specs.Banking.{too_old}
use Rattle.calendar.specs.declared.Date.{Date}
use Rattle.des.specs.Des.{enciphered}
use Rattle.digest.specs.Mac.{mac, checksum_of}
use Rattle.customer.specs.Settings.{sound_settings}
use Rattle.customer.specs.declared.Customer.{Customer}
use Rattle.customer.specs.declared.KeyPair.{KeyPair}
use Rattle.changeover.specs.Held.{held_key, good_for}
use Rattle.acceptance.specs.Stamps.{holds_stamp}
use Rattle.table.specs.Table.{Table, place_of, is_unknown, sound_table}
use Rattle.table.specs.Named.{named}
use Rattle.table.proofs.Sound.{parts}
use Rattle.message.specs.Layout.{field_text}
use Rattle.message.specs.Fields.{sender_of, stamp_of, date_of_stamp, version_of, transport_generation_of, working_generation_of}
use Rattle.message.specs.Fields.{checksum_field_of}
use Rattle.message.proofs.Order.{NoneFails}
use Rattle.checks.specs.Checks.{too_old_version, party_checks, stamp_checks, room_checks, esi_key_checks, checksum_differs}
use Rattle.reply.specs.Reply.{Said, joined}
use Rattle.reply.proofs.Keys.{sum_first}
use Rattle.reply.proofs.Widths.{spread}
use Rattle.desk.specs.declared.Held.{Held}
use Rattle.desk.specs.Held.{key_named}
use Rattle.law_desk.specs.Desks.{SameKeys, sent_from}
use Rattle.law_desk.proofs.Passes.{chained-lt, checksum_lt}
use Rattle.build.specs.Messages.{closing_fields}
use Rattle.law_build.specs.Premises.{customer_of, date_in, MaySend}
use Rattle.law_build.proofs.Fields.{Says}

-- ---- the version

-- 120 is no version too old, whichever the floor
version_passes : (floor : ℕ) → either (eqb floor 110) (eqb floor 120) ≡ true → too_old_version floor 120 ≡ false
unfolding too_old_version
version_passes floor e =
    either_none _ _
    (le-ltb 120 floor
    (⊎_elim (λ (a : eqb floor 110 ≡ true). omega (arith, eqb-true floor 110 a)) (λ (b : eqb floor 120 ≡ true). omega (arith, eqb-true floor 120 b))
    (either_cases _ _ e)))
    (fails_left (ltb 120 120) _ (le-ltb 120 120 (omega arith)))

floor_is : (t : Table) → sound_table t ≡ true → either (eqb t.settings.floor 110) (eqb t.settings.floor 120) ≡ true
unfolding sound_settings
floor_is t s = right _ _ (right _ _ (parts t s).settings)

-- ---- a key of the current generation

current_good : (k : KeyPair) (g : ℕ) (d : Date) → k.generation ≡ g → good_for k g d ≡ true
unfolding good_for
current_good k g d e = either_left _ _ (eq-eqb _ _ e)

current_held : (k : KeyPair) (g : ℕ) → k.generation ≡ g → held_key k g ≡ Some k.key
unfolding held_key
current_held k g e = picks _ _ _ (eq-eqb _ _ e)

-- ---- the checksum

pub mac-lt : (key : ℕ) (l : List ℕ) → mac (enciphered key) l < 2 ^ 64
unfolding mac
mac-lt key l = chained-lt key 0 _ (omega arith)

-- it is over the fields before it
pub sum_passes : (key request : ℕ) (front : List Said) (m : List ℕ) → m ≡ joined (front ++ closing_fields key front request)
    → length (joined front) ≡ 144 → field_text 170 m ≡ hex_digits 16 (checksum_of key (joined front)) → checksum_differs (Some key) m ≡ false
unfolding checksum_differs checksum_field_of
sum_passes key request front m e n f =
    let c = checksum_of key (joined front) in
    let s : checksum_of key m ≡ c =
    sum_first key m
    ∙ ap (λ (x : List ℕ). checksum_of key (take 144 x)) (e ∙ spread front (closing_fields key front request))
    ∙ ap (checksum_of key) (take_at (joined front) _ 144 n) in
    agree _ _ (s ∙ sym (ap hex f ∙ hex_back 16 c (checksum_lt key (joined front))))

-- ---- a message that says what it was built of

module _ (t : Table) (today : Date) (h : Held) (stamp m : List ℕ) (sound : sound_table t ≡ true) (may : MaySend t today h stamp)
    (says : Says h stamp m) where
  pub sender_is : named t (sender_of m) ≡ customer_of t h
  sender_is = ap (named t) says.sender

  version_is : version_of m ≡ 120
  unfolding version_of letters decimal_from digit_value between both pick
  version_is = ap decimal says.version

  pub party_passes : NoneFails (party_checks t m)
  unfolding party_checks
  party_passes = (
    ap (too_old_version t.settings.floor) version_is ∙ version_passes t.settings.floor (floor_is t sound),
    (
      not_failed _ (eq-same _ _ (says.receiver ∙ may.this_bank)),
      (
        ap (λ (w : List ℕ). is_unknown (place_of t w)) says.sender ∙ may.known,
        (not_failed _ (ap (λ (c : Customer). c.agreed) sender_is ∙ may.agreed), tt),
      ),
    ),
  )

  pub date_is : date_of_stamp m ≡ date_in stamp
  unfolding date_of_stamp
  date_is = ap (λ (x : List ℕ). dated (decimal x)) says.date

  pub stamp_passes : NoneFails (stamp_checks t (customer_of t h) today m)
  unfolding stamp_checks stamp_of
  stamp_passes = (
    ap (λ (d : Date). too_old t.holidays d today) date_is ∙ may.not_too_old,
    (
      ap (is_before today) date_is ∙ may.not_ahead,
      (ap (λ (x : List ℕ). holds_stamp (customer_of t h) (decimal x)) says.stamp ∙ may.fresh, tt),
    ),
  )

  pub room_passes : NoneFails (room_checks t (customer_of t h) today)
  unfolding room_checks
  room_passes = (may.room, tt)

  module _ (transport : h.transport.generation ≤ 9) (working : h.working.generation ≤ 9) where
    transport_named : (customer_of t h).transport.generation ≡ transport_generation_of m
    unfolding transport_generation_of
    transport_named =
        may.same_keys.transport_generation ∙ sym (ap decimal says.transport ∙ decimal_back 1 h.transport.generation (omega arith))

    working_named : (customer_of t h).working.generation ≡ working_generation_of m
    unfolding working_generation_of
    working_named =
        may.same_keys.working_generation ∙ sym (ap decimal says.working ∙ decimal_back 1 h.working.generation (omega arith))

    pub transport_good : (d : Date) → good_for (customer_of t h).transport (transport_generation_of m) d ≡ true
    transport_good d = current_good _ _ d transport_named

    pub working_good : (d : Date) → good_for (customer_of t h).working (working_generation_of m) d ≡ true
    working_good d = current_good _ _ d working_named

    pub transport_held_lem : held_key (customer_of t h).transport (transport_generation_of m) ≡ Some h.transport.key
    transport_held_lem = current_held _ _ transport_named ∙ ap Some may.same_keys.transport_key

    pub working_held : held_key (customer_of t h).working (working_generation_of m) ≡ Some h.working.key
    working_held = current_held _ _ working_named ∙ ap Some may.same_keys.working_key

    -- of the generations that the message names the desk holds what the bank's table holds
    pub same_keys : SameKeys h (sent_from t m) m
    unfolding key_named
    same_keys =
        let c = ap (λ (x : Customer). held_key x.transport (transport_generation_of m)) sender_is in
        let d = ap (λ (x : Customer). held_key x.working (working_generation_of m)) sender_is in
        record {
          own = sym says.sender;
          transport = picks _ _ _ (eq-eqb _ _ (sym may.same_keys.transport_generation ∙ transport_named)) ∙ sym (c ∙ transport_held_lem);
          working = picks _ _ _ (eq-eqb _ _ (sym may.same_keys.working_generation ∙ working_named)) ∙ sym (d ∙ working_held);
        }

    pub esi_keys_pass : checksum_differs (Some h.working.key) m ≡ false → NoneFails (esi_key_checks (customer_of t h) m)
    unfolding esi_key_checks
    esi_keys_pass sum = (
      not_failed _ (transport_good (date_of_stamp m)),
      (not_failed _ (working_good (date_of_stamp m)), (ap (λ (x : Option ℕ). checksum_differs x m) working_held ∙ sum, tt)),
    )
