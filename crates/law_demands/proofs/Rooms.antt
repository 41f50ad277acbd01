-- A served call writes its turn's reply whole over the front of the room, and the turn itself never looks at the room.
-- Assumes nothing.
use Prim.Native.Nat.{ℕ, ◌≤◌}
use mathlib.Core.Path.{◌≡◌, refl, sym, ap, ap₂, ◌∙◌, subst}
use mathlib.Core.List.{List, [], ◌∷◌}
use mathlib.Core.Bool.{Bool, true, false}
use borrow.Author.Tests.{le-ltb, ne_eqb}
use lib.ListN.{length, drop}
use Rattle.ground.specs.Choice.{pick}
use Rattle.ground.proofs.Choices.{picks, skips}
use Rattle.ground.proofs.Lists.{overlay-length, one_not_none}
use Rattle.ground.proofs.Bools.{picked, refuted}
use Rattle.table.specs.Decode.{table_of}
use Rattle.refusals.specs.Refusals.{refusal, lowest, no_table}
use Rattle.reply.specs.Reply.{reply_of, reply_length, replied}
use Rattle.reply.specs.declared.Answering.{Answering}
use Rattle.reply.proofs.Laws.{reply_length_lem, written_whole, rest_stays as reply-rest}
use Rattle.session.specs.Events.{Turn}
use Rattle.session.specs.Machine.{scanned}
use Rattle.session.specs.Ranges.{Fits, read_refused, end_refused}
use Rattle.session.specs.declared.Session.{Session}
use Rattle.session.specs.declared.Reply.{Reply}
use Rattle.law_cutting.proofs.Cuts.{scan_all}
use Rattle.law_cutting.proofs.Keeps.{keeps_last}
use Rattle.calls.specs.Reading.{Done, refused_by, served_by, room_after, length_of, read_served, end_served, reading_refusals, ending_refusals}
use Rattle.calls.specs.Reading.{read_done, end_done}
use Rattle.calls.specs.Calls.{reading, ending, refusal_of, shown_by}
use Rattle.law_history.proofs.Effects.{Sized}
use Rattle.law_history.proofs.Shown.{shows_none, shows_reply}
use Rattle.law_history.proofs.Hearing.{read_turns, end_turns}
use Rattle.law_history.proofs.Stays.{by_refusal}
use Rattle.law_protocol.specs.Ready.{Good, EndGood}
use Rattle.law_protocol.proofs.Good.{end_good, read_served_lem, end_served_lem}
use Rattle.law_protocol.proofs.Lengths.{Long, scan_long, last_long, file_long}
use Rattle.law_protocol.proofs.Ends.{last_turn, file_turn}
use Rattle.law_demands.specs.Demands.{conditions_of, Untouched, RestOf, RestStays, Alike, RoomUnseen, SettlesNothing}
use Rattle.law_demands.proofs.Refusals.{gives_lowest, refused_read_stays, refused_end_stays}
use Rattle.law_demands.proofs.Ranges.{third}

-- ---- which refusal a call gives

read_lowest : (s : Session) (b input room : List ℕ) → (read_done s b input room).answer.refusal ≡ lowest (reading_refusals s b room)
unfolding refusal_of conditions_of
read_lowest s b input room = gives_lowest b (reading s input room)

end_lowest : (s : Session) (b room : List ℕ) → (end_done s b room).answer.refusal ≡ lowest (ending_refusals s b room)
unfolding refusal_of conditions_of
end_lowest s b room = gives_lowest b (ending s room)

-- where a call is served its room is long enough, and session and table are good
module _ (s : Session) (b room : List ℕ) (f : Fits s) where
  pub read_good : (input : List ℕ) → (read_done s b input room).answer.refusal ≡ 0 → (317 ≤ length room) × Good s b
  unfolding reading_refusals
  read_good input z =
      let a = (read_turns s b input room f z).0 in
      (a.size, record { table = a.table; fits = f; reads = third _ _ _ (sym (read_lowest s b input room) ∙ z) })

  pub end_is_good : (end_done s b room).answer.refusal ≡ 0 → (317 ≤ length room) × EndGood s b
  unfolding ending_refusals
  end_is_good z =
      let a = (end_turns s b room f z).0 in
      (a.size, record { table = a.table; fits = f; ends = third _ _ _ (sym (end_lowest s b room) ∙ z) })

-- what holds of a served end holds of each of its turns
end_served_by : (P : Done → Type 0) (x y : Turn) (room : List ℕ) → ((u : Session) (finished : Bool) → P (served_by x u 0 finished room))
    → ((u : Session) (finished : Bool) → P (served_by y u 0 finished room))
    → P (end_served x y room)
unfolding end_served
end_served_by P x y room p q =
    picked P _ _ _ (λ e. picked P _ _ _ (λ d. p _ _) (λ d. p _ _)) (λ e. q _ _)

-- ---- the rest of the room

replied-length : (a : Answering) (room : List ℕ) → length (replied a room) ≡ length room
unfolding replied
replied-length a room = picked (λ (l : List ℕ). length l ≡ length room) _ _ _ (λ e. overlay-length (reply_of a) room) (λ e. refl)

module _ (r : Reply) (l : Long r.answer) where
  long : length (reply_of r.answer) ≡ reply_length r.answer
  long = reply_length_lem r.answer l.bank_long l.software_long l.message_long l.closing_long

  length_given : (room : List ℕ) → 317 ≤ length room → r.given ≡ true → length_of r room ≡ reply_length r.answer
  unfolding length_of
  length_given room h e = picks {A = ℕ} _ _ _ e ∙ written_whole r.answer long room h

  length_none : (room : List ℕ) → r.given ≡ false → length_of r room ≡ 0
  unfolding length_of
  length_none room e = skips {A = ℕ} _ _ _ e

  module _ (room : List ℕ) (h : 317 ≤ length room) where
    rest_by : (t : Bool) → r.given ≡ t
        → (length (room_after r room) ≡ length room) × (drop (length_of r room) (room_after r room) ≡ drop (length_of r room) room)
    unfolding room_after
    rest_by true e =
        let a = r.answer in
        let p : room_after r room ≡ replied a room = picks {A = List ℕ} _ _ _ e in
        let q : length_of r room ≡ reply_length a = length_given room h e in (
          ap length p ∙ replied-length a room,
          ap₂ drop q p
              ∙ reply-rest a l.bank_long l.software_long l.message_long l.closing_long room
              ∙ sym (ap (λ (k : ℕ). drop k room) q),
        )
    rest_by false e =
        let p : room_after r room ≡ room = skips {A = List ℕ} _ _ _ e in (ap length p, ap (drop (length_of r room)) p)

rest_turn : (x : Turn) (u : Session) (n : ℕ) (finished : Bool) (room : List ℕ) → Long x.out.reply.answer → 317 ≤ length room
    → RestOf room (served_by x u n finished room)
unfolding served_by
rest_turn x u n finished room l h =
    let k = rest_by x.out.reply l room h x.out.reply.given refl in record { same_length = k.0; past = k.1 }

rest_untouched : (s : Session) (b room : List ℕ) (d : Done) → Untouched s b room d → RestOf room d
rest_untouched s b room d k =
    record { same_length = ap length k.same_room; past = ap (drop d.answer.length) k.same_room }

read_rest : (s : Session) (b input room : List ℕ) → Fits s → RestOf room (read_done s b input room)
unfolding refusal_of read_served
read_rest s b input room f =
    by_refusal b (reading s input room)
    (λ z.
    let g = read_good s b room f input z in
    subst (RestOf room) (sym (read_served_lem s b input room g.0 g.1))
    (rest_turn (scanned s b input).turn _ _ _ room (scan_long input s b (end_good g.1)) g.0))
    (λ z. rest_untouched s b room _ (refused_read_stays s b input room z))

end_rest : (s : Session) (b room : List ℕ) → Fits s → RestOf room (end_done s b room)
unfolding refusal_of
end_rest s b room f =
    by_refusal b (ending s room)
    (λ z.
    let g = end_is_good s b room f z in
    subst (RestOf room) (sym (end_served_lem s b room g.0 g.1))
    (end_served_by (RestOf room) (last_turn s b) (file_turn s b) room
    (λ u t. rest_turn (last_turn s b) u 0 t room (last_long s b g.1) g.0)
    (λ u t. rest_turn (file_turn s b) u 0 t room (file_long s b g.1 (keeps_last s b)) g.0)))
    (λ z. rest_untouched s b room _ (refused_end_stays s b room z))

pub rest_stays : RestStays
rest_stays = (read_rest, end_rest)

-- ---- the room is not seen

sized : {a : Answering} → Long a → Sized a
sized l = record { bank = l.bank_long; software = l.software_long; message = l.message_long; closing = l.closing_long }

module _ (room other : List ℕ) (h : 317 ≤ length room) (k : 317 ≤ length other) where
  module _ (x : Turn) (l : Long x.out.reply.answer) (u : Session) (n : ℕ) (finished : Bool) where
    alike_by : (t : Bool) → x.out.reply.given ≡ t
        → (length_of x.out.reply room ≡ length_of x.out.reply other)
        × (shown_by (served_by x u n finished room) ≡ shown_by (served_by x u n finished other))
    alike_by true e = (
      length_given x.out.reply l room h e ∙ sym (length_given x.out.reply l other k e),
      shows_reply x u n finished room e (sized l) h ∙ sym (shows_reply x u n finished other e (sized l) k),
    )
    alike_by false e = (
      length_none x.out.reply l room e ∙ sym (length_none x.out.reply l other e),
      shows_none x u n finished room e ∙ sym (shows_none x u n finished other e),
    )

    alike_turn : Alike (served_by x u n finished room) (served_by x u n finished other)
    unfolding served_by
    alike_turn =
        let p = alike_by x.out.reply.given refl in
        record {
          answers = ap (λ (m : ℕ). record { refusal = 0; taken = n; length = m; finished = finished; session = u }) p.0;
          leaves = refl;
          shows = p.1;
        }

  both_alike : (t : Bool) (a b c d : Done) → Alike a c → Alike b d → Alike (pick t a b) (pick t c d)
  unfolding pick
  both_alike true a b c d p q = p
  both_alike false a b c d p q = q

  alike_end : (x y : Turn) → Long x.out.reply.answer → Long y.out.reply.answer → Alike (end_served x y room) (end_served x y other)
  unfolding end_served
  alike_end x y p q =
      both_alike _ _ _ _ _ (both_alike _ _ _ _ _ (alike_turn x p _ 0 false) (alike_turn x p _ 0 true)) (alike_turn y q _ 0 true)

  alike_refused : (s : Session) (b : List ℕ) (n m : ℕ) → n ≡ m → Alike (refused_by n s b room) (refused_by m s b other)
  unfolding refused_by shown_by pick
  alike_refused s b n m e =
      record {
        answers = ap (λ (i : ℕ). record { refusal = i; taken = 0; length = 0; finished = false; session = s }) e;
        leaves = refl;
        shows = refl;
      }

  alike_as : (d e c a : Done) → d ≡ c → e ≡ a → Alike c a → Alike d e
  alike_as d e c a p q k = subst (λ (x : Done). Alike x e) (sym p) (subst (Alike c) (sym q) k)

  -- what refuses a call looks only at whether the room is long enough
  module _ (b : List ℕ) (s : Session) where
    read_same : lowest (reading_refusals s b room) ≡ lowest (reading_refusals s b other)
    unfolding reading_refusals
    read_same =
        ap (λ (v : Bool). lowest (refusal 1 v ∷ refusal 2 (no_table b) ∷ refusal 3 (read_refused s (table_of b).day) ∷ []))
        (le-ltb _ 317 h ∙ sym (le-ltb _ 317 k))

    end_same : lowest (ending_refusals s b room) ≡ lowest (ending_refusals s b other)
    unfolding ending_refusals
    end_same =
        ap (λ (v : Bool). lowest (refusal 1 v ∷ refusal 2 (no_table b) ∷ refusal 3 (end_refused s (table_of b).day) ∷ []))
        (le-ltb _ 317 h ∙ sym (le-ltb _ 317 k))

-- a refused call
module _ (s : Session) (b room : List ℕ) where
  read_refused_so : (input : List ℕ) → (lowest (reading_refusals s b room) ≡ 0 → ⊥)
      → read_done s b input room ≡ refused_by (lowest (reading_refusals s b room)) s b room
  unfolding read_done
  read_refused_so input z = skips {A = Done} _ _ _ (ne_eqb _ 0 z)

  end_refused_so : (lowest (ending_refusals s b room) ≡ 0 → ⊥) → end_done s b room ≡ refused_by (lowest (ending_refusals s b room)) s b room
  unfolding end_done
  end_refused_so z = skips {A = Done} _ _ _ (ne_eqb _ 0 z)

read_unseen : (s : Session) (b input room other : List ℕ) → Fits s → 317 ≤ length room → 317 ≤ length other
    → Alike (read_done s b input room) (read_done s b input other)
unfolding refusal_of read_served
read_unseen s b input room other f h k =
    by_refusal b (reading s input room)
    (λ z.
    let g = (read_good s b room f input z).1 in
    alike_as room other h k _ _ _ _ (read_served_lem s b input room h g) (read_served_lem s b input other k g)
    (alike_turn room other h k (scanned s b input).turn (scan_long input s b (end_good g)) _ _ _))
    (λ z.
    let n : lowest (reading_refusals s b room) ≡ 0 → ⊥ = λ e. z (read_lowest s b input room ∙ e) in
    let m = read_same room other h k b s in
    alike_as room other h k _ _ _ _ (read_refused_so s b room input n) (read_refused_so s b other input (λ e. n (m ∙ e)))
    (alike_refused room other h k s b _ _ m))

end_unseen : (s : Session) (b room other : List ℕ) → Fits s → 317 ≤ length room → 317 ≤ length other
    → Alike (end_done s b room) (end_done s b other)
unfolding refusal_of
end_unseen s b room other f h k =
    by_refusal b (ending s room)
    (λ z.
    let g = (end_is_good s b room f z).1 in
    alike_as room other h k _ _ _ _ (end_served_lem s b room h g) (end_served_lem s b other k g)
    (alike_end room other h k (last_turn s b) (file_turn s b) (last_long s b g) (file_long s b g (keeps_last s b))))
    (λ z.
    let n : lowest (ending_refusals s b room) ≡ 0 → ⊥ = λ e. z (end_lowest s b room ∙ e) in
    let m = end_same room other h k b s in
    alike_as room other h k _ _ _ _ (end_refused_so s b room n) (end_refused_so s b other (λ e. n (m ∙ e)))
    (alike_refused room other h k s b _ _ m))

pub room_unseen : RoomUnseen
room_unseen = (read_unseen, end_unseen)

-- ---- a read that shows no reply

none_given : (x : Turn) (u : Session) (n : ℕ) (finished : Bool) (room : List ℕ) → 317 ≤ length room → Long x.out.reply.answer
    → shown_by (served_by x u n finished room) ≡ [] → x.out.reply.given ≡ false
none_given x u n finished room h l e =
    refuted _ (λ g. one_not_none (shown_by (served_by x u n finished room)) _ e (shows_reply x u n finished room g (sized l) h))

pub settles_nothing : SettlesNothing
unfolding read_served served_by
settles_nothing s b input room f z e =
    let g = read_good s b room f input z in
    let x = (scanned s b input).turn in
    let is = read_served_lem s b input room g.0 g.1 in
    ap (λ (d : Done). d.answer.taken) is
    ∙ scan_all input s b
    (none_given x _ _ _ room g.0 (scan_long input s b (end_good g.1)) (sym (ap shown_by is) ∙ e))
