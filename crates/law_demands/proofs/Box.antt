-- At the edge the statements are those of the calls behind:
-- a box's calls have their arguments, answers and replies, and its sessions come back from bytes.
-- Assumes nothing.
use Prim.Native.Nat.{ℕ}
use mathlib.Core.Path.{◌≡◌, refl, sym, ap, ap₂, ◌∙◌, subst}
use mathlib.Core.Bool.{Bool, true, false}
use mathlib.Core.List.{List, ◌∷◌, map}
use native.Mathlib.Omega.{arith}
use borrow.Author.Tests.{eqb-true, eq-eqb, leb-true}
use lib.Dec.{eqb}
use lib.ListN.{length}
use Rattle.ground.specs.Choice.{pick, between}
use Rattle.ground.proofs.Choices.{left, picks}
use Rattle.table.specs.Table.{Table, with_day}
use Rattle.table.specs.Written.{written}
use Rattle.table.specs.Decode.{table_of}
use Rattle.opening.specs.declared.Opening.{Opening}
use Rattle.whole_file.specs.Records.{Item, items_of}
use Rattle.whole_file.specs.WholeFile.{Given, Told, told_of, at_start, whole_file}
use Rattle.session.specs.Ranges.{Encodes, in_range}
use Rattle.session.specs.declared.Session.{Session}
use Rattle.session_bytes.specs.Session.{session_size, session_bytes, is_session, session_in}
use Rattle.session_bytes.proofs.Laws.{back, size, is_session_fact, said, long}
use Rattle.session_bytes.proofs.Any.{fits_in, encodes_in}
use Rattle.calls.specs.Reading.{Done, refused_by, opening_answer, opening_gives, opening_leaves, read_done, end_done}
use Rattle.calls.specs.Calls.{refusal_of, left_by}
use Rattle.law_history.specs.History.{all_different}
use Rattle.law_history.proofs.NoTwice
use Rattle.law_protocol.specs.Protocol.{Saw, Runs}
use Rattle.law_protocol.proofs.Opened.{opening_served}
use Rattle.edge.specs.Edge.{opening_by, refusal_in, read_by, end_by}
use Rattle.edge.specs.Box.{BoxCall, lp_set_up, lp_open, lp_read, lp_end, call_of, box_answer, box_table, box_session, box_room, Words}
use Rattle.edge.proofs.Made.{kept, opened_kept}
use Rattle.law_edge.proofs.Apart.{read_apart, end_apart}
use Rattle.law_edge.proofs.Asked.{read_cases, end_cases}
use Rattle.law_edge.proofs.Sessions.{read_encodes, end_encodes, opening_encodes, opened_bytes, after_bytes, open_bytes}
use Rattle.law_edge.proofs.Replies.{read_seen, end_seen, replies_seen, all_typed}
use Rattle.law_edge.proofs.Running.{runs_of, runs_to}
use Rattle.law_demands.specs.Demands.{BoxNoStampTwice, brought_by, BoxAnyCuts, BoxRunsExist, BoxTakenApart, BoxNoSecond}
use Rattle.law_demands.specs.Demands.{BoxUntouched, BoxRefusedStays, BoxRestUnseen, BoxShowsFault, Back, BoxSessionsBack}
use Rattle.law_demands.specs.Rest.{items_blanked}
use Rattle.law_demands.proofs.Refusals.{refused_stays, refused_read_stays, refused_end_stays}
use Rattle.law_demands.proofs.Seen.{calls_show_fault}
use Rattle.law_demands.proofs.Ranges.{sessions_in_range}
use Rattle.law_demands.proofs.Cuts.{any_cuts, runs_exist}
use Rattle.law_demands.proofs.Passed.{rest_unseen}

-- ---- a refused call

table_kept : (b : List ℕ) (c : BoxCall) → (refusal_of b (call_of c) ≡ 0 → ⊥) → box_table b c ≡ b
unfolding box_table
table_kept b c z = refused_stays b (call_of c) z

open_untouched : (b session : List ℕ) (today time kind clock : ℕ) → (box_answer b (lp_open session today time kind clock) ≡ 0 → ⊥)
    → box_session b (lp_open session today time kind clock) ≡ session
unfolding box_answer box_session call_of refusal_of opening_gives
open_untouched b session today time kind clock z = sym (opened_kept session _ z)

read_untouched : (b session input room : List ℕ) → (refusal_in (box_answer b (lp_read session input room)) ≡ 0 → ⊥)
    → BoxUntouched b session room (lp_read session input room)
unfolding box_table box_session box_room call_of left_by read_by
read_untouched b session input room z =
    let a = read_apart b session input room in
    let q : (read_done (session_in session) b input room).answer.refusal ≡ 0 → ⊥ = λ e. z (a.refusal_is ∙ e) in
    let u = refused_read_stays (session_in session) b input room q in
    record {
      nothing_taken = a.taken_is ∙ u.nothing_taken;
      no_reply = a.length_is ∙ u.no_reply;
      not_finished = a.finished_is ∙ u.not_finished;
      same_table = u.same_table;
      same_session = sym (kept session _ q);
      same_room = u.same_room;
    }

end_untouched : (b session room : List ℕ) → (refusal_in (box_answer b (lp_end session room)) ≡ 0 → ⊥)
    → BoxUntouched b session room (lp_end session room)
unfolding box_table box_session box_room call_of left_by end_by
end_untouched b session room z =
    let a = end_apart b session room in
    let q : (end_done (session_in session) b room).answer.refusal ≡ 0 → ⊥ = λ e. z (a.refusal_is ∙ e) in
    let u = refused_end_stays (session_in session) b room q in
    record {
      nothing_taken = a.taken_is ∙ u.nothing_taken;
      no_reply = a.length_is ∙ u.no_reply;
      not_finished = a.finished_is ∙ u.not_finished;
      same_table = u.same_table;
      same_session = sym (kept session _ q);
      same_room = u.same_room;
    }

pub box_refused_stays : BoxRefusedStays
box_refused_stays = (table_kept, open_untouched, read_untouched, end_untouched)

-- ---- no stamp twice

pub box_no_stamp_twice : BoxNoStampTwice
unfolding box_answer box_table call_of
box_no_stamp_twice b bank software floor k v holidays cs z ws n =
    let c = lp_set_up bank software floor k v holidays in
    ap all_different (replies_seen (c ∷ cs) b) ∙ NoTwice.no_stamp_twice b _ holidays (map call_of cs) z (all_typed (c ∷ cs) ws) n

-- ---- a session's bytes

written_says : (s : Session) → Encodes s → session_in (session_bytes s) ≡ s
written_says s e = said (session_bytes s) (is_session_fact s e) ∙ back s e

written_back : (s : Session) (x : List ℕ) → Encodes s → in_range s ≡ true → x ≡ session_bytes s → Back x
written_back s x e r is =
    record {
      is_session_fact = ap is_session is ∙ is_session_fact s e;
      whole_length = ap length is ∙ size s e;
      in_its_range = ap (λ (y : List ℕ). in_range (session_in y)) is ∙ ap in_range (written_says s e) ∙ r;
    }

-- ---- a served opening

module _ (b session : List ℕ) (today time kind clock : ℕ) (words : Words (lp_open session today time kind clock))
    (z : box_answer b (lp_open session today time kind clock) ≡ 0) where
  abbrev asked : Opening
  asked = opening_by session today time kind clock

  pub served : opening_answer b asked ≡ 0
  unfolding box_answer call_of refusal_of
  served = z

  -- another length would have asked for data type 0
  kind_least : (t : Bool) → between 1 16 (pick t kind 0) ≡ true → t ≡ true
  unfolding pick between
  kind_least true e = refl
  kind_least false e = absurd (omega (arith, leb-true 1 0 (left _ _ e)))

  session_whole : length session ≡ session_size
  unfolding opening_by
  session_whole = eqb-true _ _ (kind_least (eqb (length session) session_size) (opening_served b asked served).kind)

  pub is_brought : asked ≡ brought_by today time kind clock
  unfolding opening_by
  is_brought = ap (λ (k : ℕ). brought_by today time k clock) (picks _ kind 0 (eq-eqb _ _ session_whole))

  encodes : Encodes (opening_gives b asked).session
  unfolding Words opening_by
  encodes = opening_encodes b asked words

  bytes_are : box_session b (lp_open session today time kind clock) ≡ session_bytes (opening_gives b asked).session
  unfolding box_session opening_gives
  bytes_are = opened_bytes session (opening_gives b asked) session_whole served

  session_says : session_in (box_session b (lp_open session today time kind clock)) ≡ (opening_gives b asked).session
  session_says = ap session_in bytes_are ∙ written_says (opening_gives b asked).session encodes

  session_long : length (box_session b (lp_open session today time kind clock)) ≡ session_size
  session_long = ap length bytes_are ∙ size (opening_gives b asked).session encodes

pub box_any_cuts : BoxAnyCuts
unfolding box_table call_of left_by
box_any_cuts b session today time kind clock file ks rooms l words z r =
    let o = opening_by session today time kind clock in
    let q : Runs ks rooms 0 (opening_gives b o).session (opening_leaves b o) file l =
    subst (λ (s : Session). Runs ks rooms 0 s (opening_leaves b o) file l) (session_says b session today time kind clock words z)
    (runs_of r (session_long b session today time kind clock words z)) in
    any_cuts b o file ks rooms l (served b session today time kind clock words z) q
    ∙ ap (λ (x : Opening). record {
      given = (whole_file x (with_day (table_of b) x.today.yymmdd) file).given;
      table = written b (whole_file x (with_day (table_of b) x.today.yymmdd) file).standing.table;
    })
    (is_brought b session today time kind clock words z)

pub box_runs_exist : BoxRunsExist
unfolding box_table call_of left_by
box_runs_exist b session today time kind clock file sizes rooms words z some h =
    let o = opening_by session today time kind clock in
    let x = runs_exist b o file sizes rooms (served b session today time kind clock words z) some h in (
      x.0,
      x.1,
      x.2,
      runs_to x.3 (box_session b (lp_open session today time kind clock)) (session_long b session today time kind clock words z)
          (session_says b session today time kind clock words z),
    )

-- ---- what is passed over

-- files that are alike but for it have one answer
alike_told : (o : Opening) (t : Table) (file other : List ℕ) → length other ≡ length file
    → items_blanked o (at_start t) (items_of other) ≡ items_blanked o (at_start t) (items_of file)
    → ((whole_file o t other).given ≡ (whole_file o t file).given) × ((whole_file o t other).standing.table ≡ (whole_file o t file).standing.table)
unfolding whole_file
alike_told o t file other n e =
    let p = rest_unseen o t (length other) (items_of other) in
    let q = rest_unseen o t (length file) (items_of file) in
    let s : told_of o (length other) (at_start t) (items_blanked o (at_start t) (items_of other))
    ≡ told_of o (length file) (at_start t) (items_blanked o (at_start t) (items_of file)) =
    ap₂ (λ (k : ℕ) (x : List Item). told_of o k (at_start t) x) n e in
    (sym p.0 ∙ ap (λ (x : Told). x.given) s ∙ q.0, sym p.1 ∙ ap (λ (x : Told). x.standing.table) s ∙ q.1)

pub box_rest_unseen : BoxRestUnseen
box_rest_unseen b session today time kind clock file other ks js rooms others l m words z n e r s =
    let a = alike_told (brought_by today time kind clock) (with_day (table_of b) today) file other n e in
    box_any_cuts b session today time kind clock other js others m words z s
    ∙ ap₂ {C = Saw} (λ (g : List Given) (t : Table). record { given = g; table = written b t }) a.0 a.1
    ∙ sym (box_any_cuts b session today time kind clock file ks rooms l words z r)

-- ---- the number taken apart

pub box_taken_apart : BoxTakenApart
box_taken_apart = (read_apart, end_apart)

-- ---- no second answer

pub box_no_second : BoxNoSecond
box_no_second b c x y t u s r p q m n =
    (m.answers ∙ sym n.answers, m.leaves ∙ sym n.leaves, m.keeps ∙ sym n.keeps, m.shows ∙ sym n.shows)

-- ---- sessions come back

opened_back : (b session : List ℕ) (today time kind clock : ℕ) → Words (lp_open session today time kind clock)
    → box_answer b (lp_open session today time kind clock) ≡ 0
    → Back (box_session b (lp_open session today time kind clock))
opened_back b session today time kind clock words z =
    written_back _ _ (encodes b session today time kind clock words z)
    (sessions_in_range.0 b _) (bytes_are b session today time kind clock words z)

-- a served read or end had a session's bytes
abbrev WasOpen : Session → Done → Type 0
WasOpen s d = d.answer.refusal ≡ 0 → s.opened ≡ true

read_open : (s : Session) (w input room : List ℕ) → WasOpen s (read_done s w input room)
unfolding refused_by
read_open s w input room = read_cases (WasOpen s) s w room (λ n h z e. absurd (z e)) input (λ g e. g.opened)

end_open : (s : Session) (w room : List ℕ) → WasOpen s (end_done s w room)
unfolding refused_by
end_open s w room = end_cases (WasOpen s) s w room (λ n h z e. absurd (z e)) (λ g e. g.opened) (λ g e. g.opened) (λ g e. g.opened)

read_back : (b session input room : List ℕ) → refusal_in (box_answer b (lp_read session input room)) ≡ 0
    → Back (box_session b (lp_read session input room))
unfolding box_session read_by
read_back b session input room e =
    let s = session_in session in
    let z : (read_done s b input room).answer.refusal ≡ 0 = sym (read_apart b session input room).refusal_is ∙ e in
    written_back _ _ (read_encodes s b input room (encodes_in session)) (sessions_in_range.1 s b input room z)
    (after_bytes session _ (long session (open_bytes session (read_open s b input room z))) z)

end_back : (b session room : List ℕ) → refusal_in (box_answer b (lp_end session room)) ≡ 0 → Back (box_session b (lp_end session room))
unfolding box_session end_by
end_back b session room e =
    let s = session_in session in
    let z : (end_done s b room).answer.refusal ≡ 0 = sym (end_apart b session room).refusal_is ∙ e in
    written_back _ _ (end_encodes s b room (encodes_in session)) (sessions_in_range.2 s b room z)
    (after_bytes session _ (long session (open_bytes session (end_open s b room z))) z)

pub box_sessions_back : BoxSessionsBack
box_sessions_back = (opened_back, read_back, end_back)

-- ---- a field's contents

pub box_shows_fault : BoxShowsFault
unfolding box_table call_of left_by
box_shows_fault = (
  λ b session input room r q.
      calls_show_fault.0 (session_in session) b input room r (fits_in session) (sym (read_seen b session input room) ∙ q),
  λ b session room r q. calls_show_fault.1 (session_in session) b room r (fits_in session) (sym (end_seen b session room) ∙ q),
)
