-- A full reply of good form repeats what was sent; its checksum is that of the working key that the message named, and an enclosed key
-- comes back from its cipher. So no check of the desk fails.
-- Assumes nothing.
use Rattle.std.specs.Prelude.{None, Option, Some}
use Prim.Native.Nat.{ℕ, ◌<◌, ◌≤◌, ◌^◌}
use mathlib.Core.Path.{◌≡◌, refl, sym, ap, ap₂, ◌∙◌, subst}
use mathlib.Core.Bool.{true, false}
use mathlib.Core.List.{List, [], ◌∷◌, ◌++◌}
use native.Mathlib.Omega.{arith}
use borrow.Author.Tests.{eq-eqb, le-ltb}
use lib.Bits.{bit_xor}
use lib.ListN.{length, take}
use lib.Seq.{take_at}
use Rattle.ground.specs.Choice.{both, fails, pick}
use Rattle.ground.proofs.Choices.{fails_left, fails_right, eq-same, skips}
use Rattle.ground.proofs.Bools.{not_failed}
use Rattle.ground.proofs.Parts.{part_join}
use Rattle.text.specs.Numbers.{decimal, hex, hex_digits}
use Rattle.text.proofs.Laws.{hex_back}
use Rattle.des.specs.Des.{enciphered, deciphered}
use Rattle.des.proofs.Inverse.{enciphered-lt, deciphered-enciphered}
use Rattle.digest.specs.Mac.{chained, mac, checksum_of}
use Rattle.keys.specs.Parity.{odd_parity}
use Rattle.message.specs.Layout.{total, field_text, offset_in, width_in}
use Rattle.message.specs.Fields.{receiver_of, sender_of, stamp_text_of, transport_generation_of, working_generation_of, checksum_field_of}
use Rattle.message.proofs.Order.{NoneFails}
use Rattle.checks.specs.Checks.{checksum_differs}
use Rattle.reply.specs.Reply.{hex_or, sealed, enclosed_key, head, reply_of}
use Rattle.reply.specs.declared.Answering.{Answering}
use Rattle.reply.proofs.Keys.{sum_first}
use Rattle.reply.proofs.Laws.{head-length, reply_split, reply_stamp}
use Rattle.desk_form.specs.Replies.{reply_layout, reply_size, encloses, reply_checks}
use Rattle.desk_form.specs.declared.Reply.{Reply}
use Rattle.desk_form.specs.declared.Reply.TheVariants.{Esi, Pte}
use Rattle.desk.specs.Held.{key_named}
use Rattle.desk.specs.Desk.{deciphering, enclosed_in, is_not_odd, receiver_checks, reply_key_checks, stamp_sent_checks, desk_esi_checks}
use Rattle.desk.specs.Desk.{batch_sent_checks, came_checks, desk_pte_checks}
use Rattle.desk.specs.declared.Held.{Held}
use Rattle.desk.specs.declared.Sent.{Sent}
use Rattle.law_desk.proofs.Form.{Facts, none_join, form_passes, reply_size_fact, encloses_none}
use Rattle.law_desk.proofs.Form.{says_81, says_82, says_91, says_92, says_100, says_110, says_130, says_150, says_160, says_190, sum_text}

-- ---- a checksum is eight bytes

pub chained-lt : (key c : ℕ) (bs : List ℕ) → c < 2 ^ 64 → chained (enciphered key) c bs < 2 ^ 64
unfolding chained
chained-lt key c [] h = h
chained-lt key c (b ∷ bs) h = chained-lt key (enciphered key (bit_xor c b)) bs (enciphered-lt key (bit_xor c b))

pub checksum_lt : (key : ℕ) (l : List ℕ) → checksum_of key l < 2 ^ 64
unfolding checksum_of mac
checksum_lt key l = chained-lt key 0 _ (omega arith)

hex_there_and_back : (x : ℕ) → x < 2 ^ 64 → hex (hex_digits 16 x) ≡ x
hex_there_and_back x h = hex_back 16 x h

-- ---- two parts of a party

pub sender_two : (m : List ℕ) → field_text 91 m ++ field_text 92 m ≡ sender_of m
unfolding field_text sender_of offset_in width_in pick
sender_two m = part_join [] 60 17 8 m

pub receiver_two : (m : List ℕ) → field_text 81 m ++ field_text 82 m ≡ receiver_of m
unfolding field_text receiver_of offset_in width_in pick
receiver_two m = part_join [] 35 17 8 m

-- ---- what the desk knows

-- what was sent is what the reply answers
pub record Answers (s : Sent) (a : Answering) : Type 0 where
  pub receiver : s.receiver ≡ receiver_of a.message
  pub sender : s.sender ≡ sender_of a.message
  pub transport : s.transport ∷ [] ≡ field_text 100 a.message
  pub working : s.working ∷ [] ≡ field_text 110 a.message
  pub stamp : s.stamp ≡ stamp_text_of a.message
  pub area : s.area ∷ [] ≡ field_text 130 a.message
  pub once : s.once ≡ field_text 150 a.message
  pub digest : s.digest ≡ field_text 160 a.closing

-- the desk has the keys that the reply was made with
pub record Keyed (h : Held) (a : Answering) : Type 0 where
  pub own : h.own ≡ sender_of a.message
  pub working : key_named h.working (working_generation_of a.message) ≡ a.working
  pub transport : key_named h.transport (transport_generation_of a.message) ≡ a.transport
  pub enclosed : (x : ℕ) → a.enclosed ≡ Some x → (odd_parity x ≡ true) × (x < 2 ^ 64)

module _ (k : Reply) (a : Answering) (f : Facts k a) where
  receiver_is : receiver_of (reply_of a) ≡ sender_of a.message
  receiver_is = sym (receiver_two (reply_of a)) ∙ ap₂ ◌++◌ (says_81 k a f) (says_82 k a f) ∙ sender_two a.message

  sender_is : sender_of (reply_of a) ≡ receiver_of a.message
  sender_is = sym (sender_two (reply_of a)) ∙ ap₂ ◌++◌ (says_91 k a f) (says_92 k a f) ∙ receiver_two a.message

  stamp_is : stamp_text_of (reply_of a) ≡ stamp_text_of a.message
  unfolding stamp_text_of offset_in pick
  stamp_is = reply_stamp a f.made.full f.made.software f.made.message

  pub transport_is : transport_generation_of (reply_of a) ≡ transport_generation_of a.message
  unfolding transport_generation_of
  transport_is = ap decimal (says_100 k a f)

  pub working_is : working_generation_of (reply_of a) ≡ working_generation_of a.message
  unfolding working_generation_of
  working_is = ap decimal (says_110 k a f)

  -- ---- the checksum

  head_is : take 144 (reply_of a) ≡ head a
  head_is = ap (take 144) (reply_split a) ∙ take_at (head a) _ 144 (head-length a f.made.bank f.made.software f.made.message f.made.closing)

  sum_back : checksum_field_of (reply_of a) ≡ checksum_of f.made.key (reply_of a)
  unfolding checksum_field_of
  sum_back =
      ap hex (sum_text k a f)
      ∙ hex_there_and_back (checksum_of f.made.key (head a)) (checksum_lt f.made.key (head a))
      ∙ ap (checksum_of f.made.key) (sym head_is) ∙ sym (sum_first f.made.key (reply_of a))

  sum_same : (x : Option ℕ) → x ≡ Some f.made.key → checksum_differs x (reply_of a) ≡ false
  unfolding checksum_differs
  sum_same x e =
      ap (λ (y : Option ℕ). checksum_differs y (reply_of a)) e
      ∙ not_failed _ (eq-eqb (checksum_of f.made.key (reply_of a)) (checksum_field_of (reply_of a)) (sym sum_back))

  -- ---- the key enclosed

  module _ (h : Held) (d : Keyed h a) where
    sealed_is : (x : ℕ) → enclosed_key a ≡ Some x → sealed a.transport a.enclosed ≡ Some x
    unfolding enclosed_key
    sealed_is x e = sym (skips a.bare None (sealed a.transport a.enclosed) f.made.full) ∙ e

    -- a sealed key comes back from its cipher
    opened : (t e : Option ℕ) (x : ℕ) → sealed t e ≡ Some x → ((y : ℕ) → e ≡ Some y → (odd_parity y ≡ true) × (y < 2 ^ 64))
        → (y : ℕ) × (e ≡ Some y) × (deciphering t x ≡ Some y) × (x < 2 ^ 64)
    unfolding sealed deciphering
    opened None e x p g = absurd (let z : ◌≡◌ {A = ℕ} 0 1 = cc in omega arith)
    opened (Some t) None x p g = absurd (let z : ◌≡◌ {A = ℕ} 0 1 = cc in omega arith)
    opened (Some t) (Some y) x p g =
        let q : enciphered t y ≡ x = cc in (
          y,
          refl,
          ap (λ (z : ℕ). Some (deciphered t z)) (sym q) ∙ ap Some (deciphered-enciphered t y (g y refl).1),
          subst (λ (z : ℕ). z < 2 ^ 64) q (enciphered-lt t y),
        )

    -- the desk reads the key that the bank enclosed
    pub enclosed_is : (x : ℕ) → enclosed_key a ≡ Some x → (y : ℕ) × (a.enclosed ≡ Some y) × (enclosed_in h (reply_of a) ≡ Some y)
    unfolding enclosed_in hex_or
    enclosed_is x e =
        let r = opened a.transport a.enclosed x (sealed_is x e) d.enclosed in (
          r.0,
          r.1,
          ap₂ deciphering (ap (key_named h.transport) transport_is ∙ d.transport)
              (ap hex (says_190 k a f ∙ ap hex_or e) ∙ hex_there_and_back x r.3)
              ∙ r.2,
        )

    parity_holds : (e : Option ℕ) → enclosed_key a ≡ e → both (encloses (reply_of a)) (is_not_odd (enclosed_in h (reply_of a))) ≡ false
    unfolding is_not_odd
    parity_holds None p = fails_left _ _ (encloses_none k a f p)
    parity_holds (Some x) p =
        let r = enclosed_is x p in
        fails_right _ _ (ap is_not_odd r.2 ∙ not_failed _ (d.enclosed r.0 r.1).0)

    -- ---- the lists

    module _ (s : Sent) (m : Answers s a) where
      receiver_passes : NoneFails (receiver_checks h (reply_of a))
      unfolding receiver_checks
      receiver_passes = (not_failed _ (eq-same h.own _ (d.own ∙ sym receiver_is)), tt)

      keys_pass : NoneFails (reply_key_checks h s (reply_of a))
      unfolding reply_key_checks
      keys_pass = (
        not_failed _ (eq-same (s.transport ∷ []) _ (m.transport ∙ sym (says_100 k a f))),
        (
          not_failed _ (eq-same (s.working ∷ []) _ (m.working ∙ sym (says_110 k a f))),
          (
            sum_same _ (ap (key_named h.working) working_is ∙ d.working ∙ f.made.held),
            (parity_holds _ refl, tt),
          ),
        ),
      )

      stamp_passes : NoneFails (stamp_sent_checks s (reply_of a))
      unfolding stamp_sent_checks
      stamp_passes = (not_failed _ (eq-same s.stamp _ (m.stamp ∙ sym stamp_is)), tt)

      batch_passes : NoneFails (batch_sent_checks s (reply_of a))
      unfolding batch_sent_checks
      batch_passes = (
        not_failed _ (eq-same s.sender _ (m.sender ∙ sym receiver_is)),
        (
          not_failed _ (eq-same s.receiver _ (m.receiver ∙ sym sender_is)),
          (
            not_failed _ (eq-same s.stamp _ (m.stamp ∙ sym stamp_is)),
            (
              not_failed _ (eq-same (s.area ∷ []) _ (m.area ∙ sym (says_130 k a f))),
              (
                not_failed _ (eq-same s.once _ (m.once ∙ sym (says_150 k a f))),
                (not_failed _ (eq-same s.digest _ (m.digest ∙ sym (says_160 k a f))), tt),
              ),
            ),
          ),
        ),
      )

-- ---- no check fails

pte_size : reply_size Pte ≡ 317
unfolding reply_size reply_layout total
pte_size = refl

pub esi_passes : (a : Answering) → Facts Esi a → (h : Held) → Keyed h a → (s : Sent) → Answers s a
    → NoneFails (desk_esi_checks h s (reply_of a))
unfolding desk_esi_checks
esi_passes a f h d s m =
    let r : List ℕ = reply_of a in
    none_join (reply_checks Esi r ++ receiver_checks h r ++ stamp_sent_checks s r) (reply_key_checks h s r)
    (none_join (reply_checks Esi r ++ receiver_checks h r) (stamp_sent_checks s r)
    (none_join (reply_checks Esi r) (receiver_checks h r) (form_passes Esi a f) (receiver_passes Esi a f h d s m))
    (stamp_passes Esi a f h d s m))
    (keys_pass Esi a f h d s m)

has_come : (a : Answering) → Facts Pte a → NoneFails (came_checks (reply_of a))
unfolding came_checks
has_come a f =
    let n : 1 ≤ length (reply_of a) = omega (arith, reply_size_fact Pte a f ∙ pte_size) in
    (le-ltb (length (reply_of a)) 1 n, tt)

pub pte_passes : (a : Answering) → Facts Pte a → (h : Held) → Keyed h a → (s : Sent) → Answers s a
    → NoneFails (desk_pte_checks h s (reply_of a))
unfolding desk_pte_checks
pte_passes a f h d s m =
    let r : List ℕ = reply_of a in
    none_join (came_checks r ++ reply_checks Pte r ++ receiver_checks h r ++ batch_sent_checks s r) (reply_key_checks h s r)
    (none_join (came_checks r ++ reply_checks Pte r ++ receiver_checks h r) (batch_sent_checks s r)
    (none_join (came_checks r ++ reply_checks Pte r) (receiver_checks h r)
    (none_join (came_checks r) (reply_checks Pte r) (has_come a f) (form_passes Pte a f))
    (receiver_passes Pte a f h d s m))
    (batch_passes Pte a f h d s m))
    (keys_pass Pte a f h d s m)
