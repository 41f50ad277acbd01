-- What a read and an end do, as the caller sees it: each serves one turn, and shows that turn's reply.
-- Assumes nothing.
use Prim.Native.Nat.{ℕ, ◌≤◌}
use mathlib.Core.Path.{◌≡◌, refl, sym, ◌∙◌, subst}
use mathlib.Core.List.{List, [], ◌∷◌}
use mathlib.Core.Bool.{Bool, true, false, false≢true}
use mathlib.Core.Logic.{⊎_elim}
use borrow.Author.Tests.{ltb-false, eqb-true, eq-eqb}
use lib.Dec.{eqb}
use lib.ListN.{length}
use Rattle.ground.specs.Choice.{pick}
use Rattle.ground.proofs.Choices.{picks, fails-false}
use Rattle.ground.proofs.Bools.{neither, picked}
use Rattle.table.specs.Decode.{table_of, is_table}
use Rattle.refusals.specs.Refusals.{lowest, no_table}
use Rattle.refusals.proofs.Refused.{served}
use Rattle.message.specs.Fields.{receiver_of, sender_of, stamp_text_of}
use Rattle.session.specs.Events.{Turn, silent, file_ended}
use Rattle.session.specs.Machine.{scanned, last_ended}
use Rattle.session.specs.Ranges.{Fits, end_refused, read_refused}
use Rattle.session.specs.declared.Session.{Session}
use Rattle.calls.specs.Reading.{Done, refused_by, served_by, reading_refusals, ending_refusals, read_served, read_done, end_served, end_done}
use Rattle.calls.specs.Calls.{shown_by}
use Rattle.reply.specs.Reply.{reply_of}
use Rattle.law_history.specs.History.{is_k}
use Rattle.law_history.proofs.Sessions.{Of}
use Rattle.law_history.proofs.Turns.{Turned, says, turned_file, turned_scan, turned_last}
use Rattle.law_history.proofs.Accepts.{Took}
use Rattle.law_history.proofs.Effects.{Effect, unsaid, refused, taken, effect}
use Rattle.law_history.proofs.Shown.{shows_none, shows_reply, says_k, says_e, says_sender, says_stamp}

-- a call on the table's bytes b that leaves the bytes u and shows the replies rs:
-- with no K every byte stays, and with K the message was taken whose sender and stamp the reply repeats
pub data Heard (b u : List ℕ) (rs : List (List ℕ)) : Type 0 where
  nothing : rs ≡ [] → u ≡ b → Heard b u rs
  with_e : (r : List ℕ) → rs ≡ r ∷ [] → is_k r ≡ false → u ≡ b → Heard b u rs
  with_k : (r m : List ℕ) → rs ≡ r ∷ [] → is_k r ≡ true → receiver_of r ≡ sender_of m → stamp_text_of r ≡ stamp_text_of m
      → is_table u ≡ true → Took (table_of b) (table_of u) m → Heard b u rs

abbrev Hears : List ℕ → Done → Type 0
Hears b d = Heard b d.table (shown_by d)

hears_turn : (b : List ℕ) (x : Turn) (s : Session) (n : ℕ) (finished : Bool) (room : List ℕ) → 317 ≤ length room → Effect b x
    → Hears b (served_by x s n finished room)
unfolding served_by
hears_turn b x s n finished room h (unsaid g e) = nothing (shows_none x s n finished room g) e
hears_turn b x s n finished room h (refused g l c e) =
    with_e (reply_of x.out.reply.answer) (shows_reply x s n finished room g l h) (says_e x.out.reply.answer c) e
hears_turn b x s n finished room h (taken g l c f i t) =
    let a = x.out.reply.answer in
    with_k (reply_of a) a.message (shows_reply x s n finished room g l h) (says_k a c) (says_sender a f l) (says_stamp a f l) i t

-- ---- what is asked of a call that is served

pub record Asked (s : Session) (b room : List ℕ) : Type 0 where
  pub size : 317 ≤ length room
  pub table : is_table b ≡ true
  pub today : s.opening.today.yymmdd ≡ (table_of b).day

today_is : (s : Session) (day : ℕ) → end_refused s day ≡ false → s.opening.today.yymmdd ≡ day
unfolding end_refused
today_is s day e =
    let p = neither _ _ (neither _ _ e).1 in
    eqb-true _ _ (fails-false _ (neither _ _ p.1).0)

read_asked : (s : Session) (b room : List ℕ) → lowest (reading_refusals s b room) ≡ 0 → Asked s b room
unfolding reading_refusals no_table read_refused
read_asked s b room z =
    let p = served 1 _ _ refl z in
    let q = served 2 _ _ refl p.1 in
    let r = served 3 _ _ refl q.1 in
    record {
      size = ltb-false _ 317 p.0;
      table = fails-false _ q.0;
      today = today_is s _ (neither _ _ r.0).1;
    }

end_asked : (s : Session) (b room : List ℕ) → lowest (ending_refusals s b room) ≡ 0 → Asked s b room
unfolding ending_refusals no_table
end_asked s b room z =
    let p = served 1 _ _ refl z in
    let q = served 2 _ _ refl p.1 in
    let r = served 3 _ _ refl q.1 in
    record {
      size = ltb-false _ 317 p.0;
      table = fails-false _ q.0;
      today = today_is s _ r.0;
    }

-- ---- the turn that a served call serves

pub record OneTurn (s : Session) (b room : List ℕ) (d : Done) : Type 0 where
  pub turn : Turn
  pub later : Session
  pub count : ℕ
  pub finished : Bool
  pub is : d ≡ served_by turn later count finished room
  pub turned : Turned s.opening s.made b turn

hears_one : (s : Session) (b room : List ℕ) (d : Done) → Asked s b room → OneTurn s b room d → Hears b d
hears_one s b room d a k =
    subst (Hears b) (sym k.is)
    (hears_turn b k.turn k.later k.count k.finished room a.size
    (effect s.opening s.made b k.turn a.table a.today k.turned))

own : (s : Session) → Fits s → Of s.opening s.made s
own s f = record { opening = refl; keys = refl; fits = f }

-- ---- a served call, and a refused one

module _ (n : ℕ) (d : Done) (s : Session) (b room : List ℕ) where
  abbrev chosen : Done
  chosen = pick (eqb n 0) d (refused_by n s b room)

  -- a number given is no 0
  none_given : chosen.answer.refusal ≡ 0 → n ≡ 0
  unfolding refused_by
  none_given =
      picked (λ (x : Done). x.answer.refusal ≡ 0 → n ≡ 0) (eqb n 0) _ _ (λ e z. eqb-true n 0 e) (λ e z. z)

  some_given : d.answer.refusal ≡ 0 → (chosen.answer.refusal ≡ 0 → ⊥) → (chosen.table ≡ b) × (shown_by chosen ≡ [])
  unfolding refused_by shown_by
  some_given k =
      picked (λ (x : Done). (x.answer.refusal ≡ 0 → ⊥) → (x.table ≡ b) × (shown_by x ≡ [])) (eqb n 0) _ _ (λ e z. absurd (z k))
      (λ e z. (refl, picks {A = List (List ℕ)} _ _ _ (eq-eqb 0 0 refl)))

  turn_chosen : n ≡ 0 → OneTurn s b room d → OneTurn s b room chosen
  turn_chosen z p = subst (OneTurn s b room) (sym (picks {A = Done} _ _ _ (eq-eqb n 0 z))) p

-- ---- a read

module _ (s : Session) (b input room : List ℕ) where
  read-zero : (read_served (scanned s b input) room).answer.refusal ≡ 0
  unfolding read_served served_by
  read-zero = refl

  pub read_refused_lem : ((read_done s b input room).answer.refusal ≡ 0 → ⊥) → ((read_done s b input room).table ≡ b)
      × (shown_by (read_done s b input room) ≡ [])
  unfolding read_done
  read_refused_lem z =
      some_given (lowest (reading_refusals s b room)) (read_served (scanned s b input) room) s b room read-zero z

  read_turn : Fits s → OneTurn s b room (read_served (scanned s b input) room)
  unfolding read_served
  read_turn f =
      record {
        turn = (scanned s b input).turn;
        later = _;
        count = _;
        finished = _;
        is = refl;
        turned = turned_scan s.opening s.made b s input (own s f);
      }

  -- a served read serves one turn
  pub read_turns : Fits s → (read_done s b input room).answer.refusal ≡ 0 → Asked s b room × OneTurn s b room (read_done s b input room)
  unfolding read_done
  read_turns f z =
      let n = none_given (lowest (reading_refusals s b room)) (read_served (scanned s b input) room) s b room z in
      (read_asked s b room n, turn_chosen _ (read_served (scanned s b input) room) s b room n (read_turn f))

  pub read_hears : Fits s → (read_done s b input room).answer.refusal ≡ 0 → (is_table b ≡ true) × Hears b (read_done s b input room)
  read_hears f z = let k = read_turns f z in (k.0.table, hears_one s b room _ k.0 k.1)

-- ---- an end

-- the last record's turn, and the file's end after it
abbrev end_by : Turn → List ℕ → Done
end_by x room = end_served x (file_ended x.out.session x.table) room

end_by-zero : (x : Turn) (room : List ℕ) → (end_by x room).answer.refusal ≡ 0
unfolding end_served served_by
end_by-zero x room =
    picked (λ (d : Done). d.answer.refusal ≡ 0) _ _ _
    (λ e. picked (λ (d : Done). d.answer.refusal ≡ 0) _ _ _ (λ e. refl) (λ e. refl)) (λ e. refl)

module _ (s : Session) (b room : List ℕ) where
  -- where the last record says nothing, the file's end is served
  end_quiet : (u : Session) → Of s.opening s.made u → OneTurn s b room (end_by (silent u b) room)
  unfolding end_served silent pick
  end_quiet u p =
      record {
        turn = file_ended u b;
        later = _;
        count = _;
        finished = _;
        is = refl;
        turned = turned_file s.opening s.made b u p;
      }

  end_given : (x : Turn) → Turned s.opening s.made b x → x.out.reply.given ≡ true → OneTurn s b room (end_by x room)
  unfolding end_served
  end_given x p g =
      picked (OneTurn s b room) x.out.reply.given _ _
      (λ e. picked (OneTurn s b room) _ _ _ (λ q. served_so x p _ _) (λ q. served_so x p _ _))
      (λ e. absurd (false≢true (sym e ∙ g)))
    where
      served_so : (y : Turn) → Turned s.opening s.made b y → (u : Session) (finished : Bool)
          → OneTurn s b room (served_by y u 0 finished room)
      served_so y k u finished =
          record { turn = y; later = u; count = 0; finished = finished; is = refl; turned = k }

  end_turn : Fits s → OneTurn s b room (end_by (last_ended s b) room)
  end_turn f =
      let x = last_ended s b in
      let t = turned_last s.opening s.made b s (own s f) in
      ⊎_elim (λ q. subst (λ (y : Turn). OneTurn s b room (end_by y room)) (sym q.2) (end_quiet q.0 q.1))
      (λ g. end_given x t g)
      (says s.opening s.made b x t)

  pub end_refused_lem : ((end_done s b room).answer.refusal ≡ 0 → ⊥) → ((end_done s b room).table ≡ b) × (shown_by (end_done s b room) ≡ [])
  unfolding end_done
  end_refused_lem z =
      some_given (lowest (ending_refusals s b room)) (end_by (last_ended s b) room) s b room (end_by-zero (last_ended s b) room) z

  -- and so does a served end
  pub end_turns : Fits s → (end_done s b room).answer.refusal ≡ 0 → Asked s b room × OneTurn s b room (end_done s b room)
  unfolding end_done
  end_turns f z =
      let n = none_given (lowest (ending_refusals s b room)) (end_by (last_ended s b) room) s b room z in
      (end_asked s b room n, turn_chosen _ (end_by (last_ended s b) room) s b room n (end_turn f))

  pub end_hears : Fits s → (end_done s b room).answer.refusal ≡ 0 → (is_table b ≡ true) × Hears b (end_done s b room)
  end_hears f z = let k = end_turns f z in (k.0.table, hears_one s b room _ k.0 k.1)
