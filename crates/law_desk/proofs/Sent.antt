-- What was sent is the fields of the messages: those of the first one lie within 128 characters, those of the closing one within 161, and
-- both are written and read back as they are.
-- Assumes nothing.
use Prim.Native.Nat.{ℕ, ◌+◌, ◌<◌, ◌≤◌}
use mathlib.Core.Path.{◌≡◌, refl, sym, ap, ◌∙◌, subst}
use mathlib.Core.Bool.{Bool, true, false}
use mathlib.Core.Logic.{◌⊎◌, inl, inr}
use mathlib.Core.List.{List, ◌++◌}
use native.Mathlib.Omega.{arith}
use borrow.Author.Tests.{eqb-true, leb-true}
use lib.Dec.{eqb}
use lib.ListN.{length, take, drop, replicate, get_or, length-take, length-replicate}
use lib.Seq.{take-append-le, take-take, get_or-take}
use Rattle.ground.specs.Choice.{both, either, pick, between}
use Rattle.ground.specs.Lists.{part, same, overlay}
use Rattle.ground.proofs.Choices.{left, right, picks, either_cases, same-eq}
use Rattle.ground.proofs.Parts.{part_length, part-take}
use Rattle.splices.proofs.Splice.{AllBytes}
use Rattle.message.specs.Layout.{total, layout, offset_in, width_in, field_text, layout_length}
use Rattle.message.specs.Fields.{receiver_of, sender_of, stamp_text_of}
use Rattle.message.specs.declared.Kind.{Kind}
use Rattle.message.specs.declared.Kind.TheVariants.{Esi, Suo, Var}
use Rattle.whole_file.specs.Messages.{begins, known_text}
use Rattle.desk.specs.Sent.{sent_by}
use Rattle.desk_bytes.specs.Layout.{sent_size}
use Rattle.desk_bytes.specs.Bytes.{sent_bytes, sent_in, sent_stored}
use Rattle.desk_bytes.proofs.Again.{SentFits, sent_size_fact as size, sent_back as again}
use Rattle.desk_edge.specs.Calls.{are_sent, known, sent_refusal, sent_after_call}
use Rattle.law_desk.specs.Desks.{SentBack}

-- ---- fields by the first characters

part_alike : (k at n : ℕ) (l m : List ℕ) → at + n ≤ k → take k l ≡ take k m → part at n l ≡ part at n m
part_alike k at n l m h e = sym (part-take l at n k h) ∙ ap (part at n) e ∙ part-take m at n k h

mark_alike : (k at : ℕ) (l m : List ℕ) → at < k → take k l ≡ take k m → get_or l at 0 ≡ get_or m at 0
mark_alike k at l m h e = sym (get_or-take k l at 0 h) ∙ ap (λ (x : List ℕ). get_or x at 0) e ∙ get_or-take k m at 0 h

pub sent_alike : (m n c d : List ℕ) → take 128 m ≡ take 128 n → take 161 c ≡ take 161 d → sent_by m c ≡ sent_by n d
unfolding sent_by receiver_of sender_of stamp_text_of field_text offset_in width_in pick
sent_alike m n c d e g =
    let receiver = part_alike 128 35 25 m n (omega arith) e in
    let sender = part_alike 128 60 25 m n (omega arith) e in
    let transport = mark_alike 161 85 c d (omega arith) g in
    let working = mark_alike 161 86 c d (omega arith) g in
    let stamp = part_alike 128 87 15 m n (omega arith) e in
    let area = mark_alike 128 102 m n (omega arith) e in
    let once = part_alike 128 112 16 m n (omega arith) e in
    let digest = part_alike 161 128 16 c d (omega arith) g in
    λ i. record {
      receiver = receiver i;
      sender = sender i;
      transport = transport i;
      working = working i;
      stamp = stamp i;
      area = area i;
      once = once i;
      digest = digest i;
    }

-- ---- the known characters begin as the message does

pub known-begins : (k : ℕ) (m : List ℕ) → k ≤ 161 → k ≤ length m → take k (known m) ≡ take k m
unfolding known overlay
known-begins k m h g =
    let l : length (replicate {A = ℕ} 161 0) ≡ 161 = length-replicate {A = ℕ} 161 0 in
    let e : take 161 m ≡ take (length (replicate {A = ℕ} 161 0)) m = ap (λ (n : ℕ). take n m) (sym l) in
    ap (λ (x : List ℕ). take k (x ++ drop (length m) (replicate 161 0))) (sym e)
    ∙ take-append-le k (take 161 m) _ (simp length-take (omega arith))
    ∙ take-take k 161 m h

pub kind_begins : (kind : Kind) (k : ℕ) (m : List ℕ) → k ≤ 161 → k ≤ layout_length kind → k ≤ length m → take k (known_text kind m) ≡ take k m
unfolding known_text
kind_begins kind k m h j g =
    take-take k 161 _ h ∙ take-append-le k (take (layout_length kind) m) _ (simp length-take (omega arith)) ∙ take-take k (layout_length kind) m j

-- ---- messages that lp_sent_of takes

pub record Long (first closing : List ℕ) : Type 0 where
  pub opens : 128 ≤ length first
  pub closes : 161 ≤ length closing

-- their fields fit their places
pub sent_fits : (first closing : List ℕ) → Long first closing → AllBytes first → AllBytes closing → SentFits (sent_by first closing)
unfolding sent_by receiver_of sender_of stamp_text_of field_text offset_in width_in pick
sent_fits first closing long a b =
    let l = long.opens in
    let m = long.closes in
    record {
      receiver = part_length first 35 25 (omega arith);
      sender = part_length first 60 25 (omega arith);
      transport = b 85;
      working = b 86;
      stamp = part_length first 87 15 (omega arith);
      area = a 102;
      once = part_length first 112 16 (omega arith);
      digest = part_length closing 128 16 (omega arith);
    }

taken_long : (first closing : List ℕ) → are_sent first closing ≡ true → Long first closing
unfolding are_sent layout_length layout total between
taken_long first closing e = by (either_cases _ _ e)
  where
    by : (both (begins ">>ESI" first) (both (between (layout_length Esi) 500 (length first)) (same first closing)) ≡ true)
        ⊎ (both (begins ">>SUO" first) (both (between (layout_length Suo) 500 (length first))
        (both (begins ">>VAR" closing) (between (layout_length Var) 500 (length closing)))) ≡ true) → Long first closing
    by (inl q) =
        let t = right _ _ q in
        let l : 161 ≤ length first = leb-true 161 _ (left _ _ (left _ _ t)) in
        let z : first ≡ closing = same-eq first closing (right _ _ t) in
        record { opens = omega arith; closes = subst (λ (x : List ℕ). 161 ≤ length x) z l }
    by (inr q) =
        let t = right _ _ q in
        let l : 128 ≤ length first = leb-true 128 _ (left _ _ (left _ _ t)) in
        let m : 161 ≤ length closing = leb-true 161 _ (left _ _ (right _ _ (right _ _ t))) in
        record { opens = l; closes = m }

-- a call that is served was given such messages, and room
served_sent : (t : Bool) → ◌≡◌ {A = ℕ} (pick t 0 11) 0 → t ≡ true
unfolding pick
served_sent true e = refl
served_sent false e = absurd (omega (arith, e))

module _ (first closing room : List ℕ) (z : sent_refusal first closing room ≡ 0) where
  tests : both (are_sent first closing) (eqb (length room) sent_size) ≡ true
  unfolding sent_refusal
  tests = served_sent _ z

  pub sent_long : Long first closing
  sent_long = taken_long first closing (left _ _ tests)

  pub sent_stored_lem : sent_after_call first closing room ≡ sent_bytes (sent_by first closing)
  unfolding sent_after_call sent_stored
  sent_stored_lem =
      let l = sent_long in
      picks _ _ _ (left _ _ tests) ∙ picks _ _ _ (right (are_sent first closing) _ tests)
      ∙ ap sent_bytes (sent_alike _ _ _ _ (known-begins 128 first (omega arith) l.opens) (known-begins 161 closing (omega arith) l.closes))

  module _ (a : AllBytes first) (b : AllBytes closing) where
    pub sent_size_fact : length (sent_after_call first closing room) ≡ sent_size
    sent_size_fact = ap length sent_stored_lem ∙ size (sent_by first closing) (sent_fits first closing sent_long a b)

    pub sent_said : sent_in (sent_after_call first closing room) ≡ sent_by first closing
    sent_said = ap sent_in sent_stored_lem ∙ again (sent_by first closing) (sent_fits first closing sent_long a b)

pub sent_is_back : SentBack
sent_is_back first closing room a b z = sent_said first closing room z a b

-- ---- by the known characters of the messages as they were read

pub esi_sent : (m first : List ℕ) → 161 ≤ length first → known_text Esi first ≡ m → sent_by first first ≡ sent_by m m
unfolding layout_length layout total
esi_sent m first l e =
    let n : layout_length Esi ≡ 161 = refl in
    let g : take 161 first ≡ take 161 m = sym (kind_begins Esi 161 first (omega arith) (omega arith) l) ∙ ap (take 161) e in
    let f : take 128 first ≡ take 128 m =
    sym (kind_begins Esi 128 first (omega arith) (omega arith) (omega arith)) ∙ ap (take 128) e in
    sent_alike first m first m f g

pub batch_sent : (suo m first closing : List ℕ) → Long first closing → known_text Suo first ≡ suo → known_text Var closing ≡ m
    → sent_by first closing ≡ sent_by suo m
unfolding layout_length layout total
batch_sent suo m first closing l e g =
    let n : layout_length Suo ≡ 128 = refl in
    let k : layout_length Var ≡ 161 = refl in
    sent_alike first suo closing m
    (sym (kind_begins Suo 128 first (omega arith) (omega arith) l.opens) ∙ ap (take 128) e)
    (sym (kind_begins Var 161 closing (omega arith) (omega arith) l.closes) ∙ ap (take 161) g)
