-- What a box sees of replies is what the calls behind show, and their arguments are values of their types whatever bytes it hands in: so
-- what holds of every sequence of those holds of the box's.
-- Assumes nothing.
use Prim.Native.Nat.{ℕ}
use mathlib.Core.Path.{◌≡◌, refl, sym, ap, ap₂, ◌∙◌}
use mathlib.Core.List.{List, [], ◌∷◌, map, ◌++◌}
use mathlib.Core.Bool.{Bool, true, false}
use borrow.Author.Tests.{eqb-true, eqb-false, eq-eqb}
use lib.Dec.{eqb}
use lib.ListN.{length, take, length-replicate}
use Rattle.ground.specs.Choice.{either, fails, pick}
use Rattle.ground.proofs.Bools.{picked}
use Rattle.session.specs.declared.Session.{Session}
use Rattle.session_bytes.specs.Session.{session_in}
use Rattle.session_bytes.proofs.Any.{fits_in}
use Rattle.calls.specs.Reading.{Done, refused_by, served_by, read_served, read_done, end_done}
use Rattle.calls.specs.Calls.{Typed, left_by, reply_by, shown_by, replies_over}
use Rattle.law_history.specs.History.{AllTyped, none, more}
use Rattle.edge.specs.Edge.{fixed, setting_by, adding_by, entering_by, ordering_by, opening_by, read_by, end_by}
use Rattle.edge.specs.Box.{BoxCall, lp_set_up, lp_add, lp_enter, lp_order, lp_open, lp_read, lp_end, call_of, box_table, box_room}
use Rattle.edge.specs.Box.{seen_in, box_reply, box_replies, Words, AllWords, more as more_words}
use Rattle.law_edge.proofs.Asked.{read_cases, end_cases}
use Rattle.law_edge.specs.TakenApart.{Apart}
use Rattle.law_edge.proofs.Apart.{read_apart, end_apart}

-- ---- one reply

-- a refused call has no reply
abbrev Mute : Done → Type 0
Mute d = (d.answer.refusal ≡ 0 → ⊥) → d.answer.length ≡ 0

read_mute : (s : Session) (w input room : List ℕ) → Mute (read_done s w input room)
unfolding read_served served_by refused_by
read_mute s w input room = read_cases Mute s w room (λ n h z q. refl) input (λ g q. absurd (q refl))

end_mute : (s : Session) (w room : List ℕ) → Mute (end_done s w room)
unfolding served_by refused_by
end_mute s w room = end_cases Mute s w room (λ n h z q. refl) (λ g q. absurd (q refl)) (λ g q. absurd (q refl)) (λ g q. absurd (q refl))

-- so the length alone decides
length_decides : (r n : ℕ) → ((r ≡ 0 → ⊥) → n ≡ 0) → either (fails (eqb r 0)) (eqb n 0) ≡ eqb n 0
unfolding either fails
length_decides r n m = by (eqb r 0) refl
  where
    by : (t : Bool) → eqb r 0 ≡ t → either (fails t) (eqb n 0) ≡ eqb n 0
    by true e = refl
    by false e = sym (eq-eqb n 0 (m (eqb-false r 0 e)))

seen_shown : (p : ℕ) (d : Done) → Apart p d.answer → Mute d → seen_in p d.room ≡ shown_by d
unfolding seen_in shown_by
seen_shown p d a m =
    let n = d.answer.length in
    ap₂ (λ (r k : ℕ). pick {A = List (List ℕ)} (either (fails (eqb r 0)) (eqb k 0)) [] (take k d.room ∷ []))
    a.refusal_is
    a.length_is
    ∙ ap (λ (t : Bool). pick {A = List (List ℕ)} t [] (take n d.room ∷ [])) (length_decides d.answer.refusal n m)

pub read_seen : (w session input room : List ℕ)
    → box_reply w (lp_read session input room) ≡ shown_by (read_done (session_in session) w input room)
unfolding box_reply box_room read_by
read_seen w session input room = seen_shown _ _ (read_apart w session input room) (read_mute (session_in session) w input room)

pub end_seen : (w session room : List ℕ) → box_reply w (lp_end session room) ≡ shown_by (end_done (session_in session) w room)
unfolding box_reply box_room end_by
end_seen w session room = seen_shown _ _ (end_apart w session room) (end_mute (session_in session) w room)

-- ---- any call

reply_seen : (b : List ℕ) (c : BoxCall) → box_reply b c ≡ reply_by b (call_of c)
unfolding box_reply call_of reply_by
reply_seen b (lp_set_up bank software floor k v holidays) = refl
reply_seen b (lp_add today who part1 part2 check generation types agreed leave given n) = refl
reply_seen b (lp_enter today who part1 part2 check generation) = refl
reply_seen b (lp_order today who clock) = refl
reply_seen b (lp_open session today time kind clock) = refl
reply_seen b (lp_read session input room) = read_seen b session input room
reply_seen b (lp_end session room) = end_seen b session room

pub replies_seen : (cs : List BoxCall) (b : List ℕ) → box_replies b cs ≡ replies_over b (map call_of cs)
unfolding box_replies box_table replies_over
replies_seen [] b = refl
replies_seen (c ∷ cs) b = ap₂ ◌++◌ (reply_seen b c) (replies_seen cs (left_by b (call_of c)))

-- ---- the arguments are values of their types

fixed_long : (n : ℕ) (l : List ℕ) → length (fixed n l) ≡ n
unfolding fixed
fixed_long n l = picked (λ (x : List ℕ). length x ≡ n) (eqb (length l) n) _ _ (λ e. eqb-true _ _ e) (λ e. length-replicate {A = ℕ} n 0)

typed : (c : BoxCall) → Words c → Typed (call_of c)
unfolding Words call_of Typed setting_by adding_by entering_by ordering_by opening_by
typed (lp_set_up bank software floor k v holidays) w = (fixed_long 25 bank, fixed_long 16 software, w.0, w.1)
typed (lp_add today who part1 part2 check generation types agreed leave given n) w = fixed_long 25 who
typed (lp_enter today who part1 part2 check generation) w = fixed_long 25 who
typed (lp_order today who clock) w = fixed_long 25 who
typed (lp_open session today time kind clock) w = w
typed (lp_read session input room) w = fits_in session
typed (lp_end session room) w = fits_in session

pub all_typed : (cs : List BoxCall) → AllWords cs → AllTyped (map call_of cs)
all_typed [] ws = none
all_typed (c ∷ cs) (more_words w ws) = more (typed c w) (all_typed cs ws)
