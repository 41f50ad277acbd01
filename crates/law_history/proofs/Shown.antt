-- The reply that stands in the room after a call is the answer's reply,
-- since the room holds the longest; K, sender and stamp are read off it.
-- Assumes nothing.
use Prim.Native.Nat.{ℕ, ◌≤◌}
use mathlib.Core.Path.{◌≡◌, refl, sym, ap, ◌∙◌}
use mathlib.Core.List.{List, [], ◌∷◌}
use mathlib.Core.Bool.{Bool, true, false, false≢true}
use native.Mathlib.Omega.{arith}
use borrow.Author.Tests.{eq-eqb, ne_eqb}
use lib.Dec.{eqb}
use lib.ListN.{length, take}
use Rattle.ground.specs.Choice.{pick}
use Rattle.ground.specs.Lists.{part}
use Rattle.ground.proofs.Choices.{picks, skips, same-eq, eq-same}
use Rattle.ground.proofs.Bools.{refuted}
use Rattle.message.specs.Layout.{field_text, offset_in, width_in}
use Rattle.message.specs.Fields.{receiver_of, sender_of, stamp_text_of}
use Rattle.reply.specs.Reply.{reply_of, reply_length, replied, written_length}
use Rattle.reply.specs.declared.Answering.{Answering}
use Rattle.reply.proofs.Laws.{least_length, reply_length_lem, written_whole, stands_whole, reply_success, reply_sender, reply_stamp}
use Rattle.session.specs.Events.{Turn}
use Rattle.session.specs.declared.Session.{Session}
use Rattle.calls.specs.Reading.{served_by, room_after, length_of}
use Rattle.calls.specs.Calls.{shown_by}
use Rattle.law_history.specs.History.{is_k}
use Rattle.law_history.proofs.Codes.{is_accepted}
use Rattle.law_history.proofs.Effects.{Sized}

-- ---- the room

module _ (a : Answering) (s : Sized a) (room : List ℕ) (h : 317 ≤ length room) where
  long : length (reply_of a) ≡ reply_length a
  long = reply_length_lem a s.bank s.software s.message s.closing

  written_is : written_length a room ≡ reply_length a
  written_is = written_whole a long room h

  stands : take (reply_length a) (replied a room) ≡ reply_of a
  stands = stands_whole a long room h

-- ---- what a call shows

shown : ℕ → List ℕ → List (List ℕ)
shown n room = pick (eqb n 0) [] (take n room ∷ [])

module _ (x : Turn) (s : Session) (n : ℕ) (finished : Bool) (room : List ℕ) where
  shown_as : shown_by (served_by x s n finished room) ≡ shown (length_of x.out.reply room) (room_after x.out.reply room)
  unfolding shown_by served_by shown
  shown_as = refl

  pub shows_none : x.out.reply.given ≡ false → shown_by (served_by x s n finished room) ≡ []
  unfolding length_of shown
  shows_none e =
      let z : length_of x.out.reply room ≡ 0 = skips {A = ℕ} _ _ _ e in shown_as ∙ picks {A = List (List ℕ)} _ _ _ (eq-eqb _ 0 z)

  pub shows_reply : x.out.reply.given ≡ true → Sized x.out.reply.answer → 317 ≤ length room
      → shown_by (served_by x s n finished room) ≡ reply_of x.out.reply.answer ∷ []
  unfolding length_of room_after shown
  shows_reply e l h =
      let a = x.out.reply.answer in
      let p : length_of x.out.reply room ≡ reply_length a = picks {A = ℕ} _ _ _ e ∙ written_is a l room h in
      let q : room_after x.out.reply room ≡ replied a room = picks {A = List ℕ} _ _ _ e in
      shown_as
      ∙ ap (λ (k : ℕ). shown k (room_after x.out.reply room)) p
      ∙ ap (shown (reply_length a)) q
      ∙ skips {A = List (List ℕ)} _ _ _ (ne_eqb (reply_length a) 0 (λ z. omega (arith, least_length a)))
      ∙ ap (λ (r : List ℕ). r ∷ []) (stands a l room h)

-- ---- its fields

success_part : (r : List ℕ) → field_text 40 r ≡ part 11 1 r
unfolding field_text offset_in width_in pick
success_part r = refl

receiver_part : (r : List ℕ) → receiver_of r ≡ part 35 25 r
unfolding receiver_of offset_in pick
receiver_part r = refl

stamp_part : (r : List ℕ) → stamp_text_of r ≡ part 87 15 r
unfolding stamp_text_of offset_in pick
stamp_part r = refl

pub says_k : (a : Answering) → is_accepted a.code ≡ true → is_k (reply_of a) ≡ true
unfolding is_k
says_k a e = eq-same _ _ (success_part (reply_of a) ∙ (reply_success a).1 e)

pub says_e : (a : Answering) → is_accepted a.code ≡ false → is_k (reply_of a) ≡ false
unfolding is_k
says_e a e =
    refuted _ (λ k. false≢true (sym e ∙ (reply_success a).0 (sym (success_part (reply_of a)) ∙ same-eq _ _ k)))

pub says_sender : (a : Answering) → a.bare ≡ false → Sized a → receiver_of (reply_of a) ≡ sender_of a.message
says_sender a f s = receiver_part (reply_of a) ∙ reply_sender a f s.software s.message

pub says_stamp : (a : Answering) → a.bare ≡ false → Sized a → stamp_text_of (reply_of a) ≡ stamp_text_of a.message
says_stamp a f s = stamp_part (reply_of a) ∙ reply_stamp a f s.software s.message
