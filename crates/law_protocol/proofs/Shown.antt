-- The reply that a served call shows is the answer's, whole: with its parts of their lengths it is 237 or 317 bytes, and the room holds it.
-- Assumes nothing.
use Prim.Native.Nat.{ℕ, ◌≤◌}
use mathlib.Core.Path.{◌≡◌, refl, ap, ◌∙◌}
use mathlib.Core.List.{List, [], ◌∷◌}
use mathlib.Core.Bool.{Bool, true, false}
use native.Mathlib.Omega.{arith}
use borrow.Author.Tests.{ne_eqb}
use lib.Dec.{eqb}
use lib.ListN.{length, take}
use Rattle.ground.specs.Choice.{pick}
use Rattle.ground.proofs.Choices.{picks, skips}
use Rattle.reply.specs.Reply.{reply_of, reply_length, replied, written_length}
use Rattle.reply.specs.declared.Answering.{Answering}
use Rattle.reply.proofs.Laws.{least_length, reply_length_lem, written_whole, stands_whole}
use Rattle.whole_file.specs.WholeFile.{given_at}
use Rattle.session.specs.Events.{Turn}
use Rattle.session.specs.Told.{said_by}
use Rattle.session.specs.declared.Reply.{Reply}
use Rattle.session.specs.declared.Session.{Session}
use Rattle.calls.specs.Reading.{room_after, length_of, served_by}
use Rattle.calls.specs.Calls.{shown_by}
use Rattle.law_protocol.specs.Protocol.{seen_at}
use Rattle.law_protocol.proofs.Lengths.{Long}

-- ---- the bytes in the room

module _ (a : Answering) (n : Long a) (room : List ℕ) (h : 317 ≤ length room) where
  long : length (reply_of a) ≡ reply_length a
  long = reply_length_lem a n.bank_long n.software_long n.message_long n.closing_long

  length_is : written_length a room ≡ reply_length a
  length_is = written_whole a long room h

  first_is : take (reply_length a) (replied a room) ≡ reply_of a
  first_is = stands_whole a long room h

-- the replies of a call, in the room and in the answer
abbrev shown_at : Reply → List ℕ → List (List ℕ)
shown_at r room = pick (eqb (length_of r room) 0) [] (take (length_of r room) (room_after r room) ∷ [])

shown_given : (r : Reply) (room : List ℕ) → Long r.answer → 317 ≤ length room → r.given ≡ true → shown_at r room
    ≡ reply_of r.answer ∷ []
unfolding length_of room_after
shown_given r room n h e =
    let k : length_of r room ≡ reply_length r.answer = picks _ _ _ e ∙ length_is r.answer n room h in
    let z : length_of r room ≡ 0 → ⊥ = λ q. omega (arith, least_length r.answer, k) in
    skips {A = List (List ℕ)} _ _ _ (ne_eqb _ 0 z)
    ∙ ap (λ (l : List ℕ). l ∷ [])
    (ap (λ (m : ℕ). take m (room_after r room)) k
    ∙ ap (take (reply_length r.answer)) (picks _ _ _ e)
    ∙ first_is r.answer n room h)

shown_none : (r : Reply) (room : List ℕ) → r.given ≡ false → shown_at r room ≡ []
unfolding length_of
shown_none r room e = picks {A = List (List ℕ)} _ _ _ (ap (λ (m : ℕ). eqb m 0) (skips _ _ _ e))

seen_by : (t : Bool) (at : ℕ) (r : Reply) (room : List ℕ) → Long r.answer → 317 ≤ length room → r.given ≡ t
    → seen_at at (shown_at r room) ≡ given_at at (pick t (r.answer ∷ []) [])
unfolding pick seen_at given_at
seen_by true at r room n h e = ap (seen_at at) (shown_given r room n h e)
seen_by false at r room n h e = ap (seen_at at) (shown_none r room e)

-- what a caller sees of a turn is what the machine says in it
pub seen_is : (at : ℕ) (x : Turn) (s : Session) (taken : ℕ) (finished : Bool) (room : List ℕ) → Long x.out.reply.answer
    → 317 ≤ length room
    → seen_at at (shown_by (served_by x s taken finished room)) ≡ given_at at (said_by x)
unfolding shown_by served_by said_by
seen_is at x s taken finished room n h = seen_by x.out.reply.given at x.out.reply room n h refl

-- a turn without a reply says nothing
pub said_none : (x : Turn) → x.out.reply.given ≡ false → said_by x ≡ []
unfolding said_by
said_none x e = skips {A = List Answering} _ _ _ e
