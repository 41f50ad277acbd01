-- A message of 161 characters is its own known text; that of a SUO has zeros after it, past all that is read of a SUO.
-- Assumes nothing.
use Prim.Native.Nat.{ℕ, ◌+◌, ◌≤◌, ◌<◌}
use mathlib.Core.Path.{◌≡◌, sym, ap, ◌∙◌}
use mathlib.Core.List.{List, ◌++◌}
use native.Mathlib.Omega.{arith}
use lib.ListN.{length, take, replicate, get_or}
use lib.Seq.{take_all, take_at, take-take, get_or-take}
use Rattle.ground.specs.Choice.{pick}
use Rattle.ground.specs.Lists.{part, overlay, same}
use Rattle.ground.proofs.Parts.{part-take, over_zeros}
use Rattle.text.specs.Letters.{letters}
use Rattle.digest.specs.declared.Method.{Method}
use Rattle.digest.specs.declared.Method.TheVariants.{Skh, Ske}
use Rattle.message.specs.Layout.{total, layout, layout_length, offset_in, width_in, field_text}
use Rattle.message.specs.Fields.{receiver_of, sender_of, stamp_text_of, method_of}
use Rattle.message.specs.declared.Kind.{Kind}
use Rattle.message.specs.declared.Kind.TheVariants.{Suo}
use Rattle.whole_file.specs.Messages.{known_text}
use Rattle.desk.specs.Sent.{sent_by}

pub known_whole : (kind : Kind) (m : List ℕ) → layout_length kind ≡ 161 → length m ≡ 161 → m ≡ known_text kind m
unfolding known_text
known_whole kind m k e =
    sym
    (ap (λ (n : ℕ). take 161 (take n m ++ replicate 161 0)) k
    ∙ ap (λ (x : List ℕ). take 161 (x ++ replicate 161 0)) (take_all 161 m (omega arith))
    ∙ take_at m (replicate 161 0) 161 e)

module _ (suo : List ℕ) (h : length suo ≡ 128) where
  whole : take 128 suo ≡ suo
  whole = take_all 128 suo (omega arith)

  -- laid over zeros
  pub suo_known : overlay suo (replicate 161 0) ≡ known_text Suo suo
  unfolding overlay known_text layout_length layout total
  suo_known = over_zeros suo 161 161 (omega arith) ∙ ap (λ (x : List ℕ). take 161 (x ++ replicate 161 0)) (sym whole)

  known-begins : take 128 (known_text Suo suo) ≡ suo
  unfolding known_text layout_length layout total
  known-begins =
      take-take 128 161 (take 128 suo ++ replicate 161 0) (omega arith)
      ∙ ap (λ (x : List ℕ). take 128 (x ++ replicate 161 0)) whole
      ∙ take_at suo (replicate 161 0) 128 h

  pub known_part : (at n : ℕ) → at + n ≤ 128 → part at n (known_text Suo suo) ≡ part at n suo
  known_part at n k = sym (part-take (known_text Suo suo) at n 128 k) ∙ ap (part at n) known-begins

  known_mark : (at : ℕ) → at < 128 → get_or (known_text Suo suo) at 0 ≡ get_or suo at 0
  known_mark at k = sym (get_or-take 128 (known_text Suo suo) at 0 k) ∙ ap (λ (x : List ℕ). get_or x at 0) known-begins

  pub known_method : method_of (known_text Suo suo) ≡ method_of suo
  unfolding method_of field_text offset_in width_in pick
  known_method = ap (λ (x : List ℕ). pick {A = Method} (same x (letters "SKE")) Ske Skh) (known_part 32 3 (omega arith))

  pub known_sent : (closing : List ℕ) → sent_by (known_text Suo suo) closing ≡ sent_by suo closing
  unfolding sent_by receiver_of sender_of stamp_text_of field_text offset_in width_in pick
  known_sent closing =
      let receiver = known_part 35 25 (omega arith) in
      let sender = known_part 60 25 (omega arith) in
      let stamp = known_part 87 15 (omega arith) in
      let area = known_mark 102 (omega arith) in
      let once = known_part 112 16 (omega arith) in
      λ i. record {
        receiver = receiver i;
        sender = sender i;
        transport = get_or closing 85 0;
        working = get_or closing 86 0;
        stamp = stamp i;
        area = area i;
        once = once i;
        digest = part 128 16 closing;
      }
