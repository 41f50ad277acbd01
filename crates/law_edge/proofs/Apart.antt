-- The number that a read or an end returns is taken apart into what was answered: each part fits its bits, for a read takes at most 2 ^ 32
-- bytes, a reply is at most 317 long, and the refusal is at most 3.
-- Assumes nothing.
use Prim.Native.Nat.{ℕ, ◌/◌, ◌%◌, ◌<◌, ◌≤◌, ◌^◌}
use mathlib.Core.Path.{◌≡◌, ap, ◌∙◌}
use mathlib.Core.List.{List}
use mathlib.Core.Bool.{Bool}
use native.Mathlib.Omega.{arith}
use lib.Dec.{eqb}
use Rattle.ground.specs.Choice.{one}
use Rattle.ground.proofs.Bools.{one-read, one_small, picked}
use Rattle.reply.specs.Reply.{reply_length, written_length}
use Rattle.session.specs.Events.{Turn}
use Rattle.session.specs.Ranges.{Encodes}
use Rattle.session.specs.declared.Reply.{Reply}
use Rattle.session.specs.declared.Session.{Session}
use Rattle.session_bytes.specs.Session.{session_in}
use Rattle.session_bytes.proofs.Any.{encodes_in}
use Rattle.law_cutting.proofs.Counted.{taken_counted}
use Rattle.calls.specs.Reading.{Done, length_of, refused_by, served_by, read_served, read_done, end_done}
use Rattle.calls.specs.declared.Answer.{Answer}
use Rattle.edge.specs.Edge.{packed, taken_in, length_in, finished_in, refusal_in, read_by, end_by}
use Rattle.edge.specs.Box.{lp_read, lp_end, box_answer}
use Rattle.law_edge.specs.TakenApart.{Apart}
use Rattle.law_edge.proofs.Asked.{read_cases, end_cases}

-- ---- a number whose parts fit their bits

record Small (a : Answer) : Type 0 where
  few_taken : a.taken < 2 ^ 40
  short : a.length < 2 ^ 16
  known : a.refusal < 2 ^ 7

apart : (a : Answer) → Small a → Apart (packed a) a
unfolding packed taken_in length_in finished_in refusal_in
apart a h =
    let o = one_small a.finished in
    let f : packed a / 2 ^ 56 % 2 ≡ one a.finished = omega (arith, h.few_taken, h.short) in
    record {
      taken_is = omega (arith, h.few_taken);
      length_is = omega (arith, h.few_taken, h.short);
      finished_is = ap (λ (n : ℕ). eqb n 1) f ∙ one-read a.finished;
      refusal_is = omega (arith, h.few_taken, h.short, h.known);
    }

-- ---- a reply is at most 317 bytes long

long_most : (r : Reply) (room : List ℕ) → length_of r room ≤ 317
unfolding length_of written_length reply_length
long_most r room =
    let most : reply_length r.answer ≤ 317 =
    picked (λ (n : ℕ). n ≤ 317) r.answer.pte 317 237 (λ g. omega arith) (λ g. omega arith) in
    picked (λ (n : ℕ). n ≤ 317) r.given _ _ (λ e. picked (λ (n : ℕ). n ≤ 317) _ _ _ (λ f. most) (λ f. omega arith)) (λ e. omega arith)

-- ---- any read and any end

abbrev SmallDone : Done → Type 0
SmallDone d = Small d.answer

refused_small : (s : Session) (w room : List ℕ) (n : ℕ) → n ≤ 3 → (n ≡ 0 → ⊥) → SmallDone (refused_by n s w room)
unfolding refused_by
refused_small s w room n h z = record { few_taken = omega arith; short = omega arith; known = omega arith }

served_small : (x : Turn) (u : Session) (taken : ℕ) (finished : Bool) (room : List ℕ) → taken ≤ 2 ^ 32
    → SmallDone (served_by x u taken finished room)
unfolding served_by
served_small x u taken finished room h =
    record { few_taken = omega arith; short = omega (arith, long_most x.out.reply room); known = omega arith }

read_small : (s : Session) (w input room : List ℕ) → Encodes s → Small (read_done s w input room).answer
unfolding read_served
read_small s w input room e =
    read_cases SmallDone s w room (refused_small s w room) input
    (λ g. served_small _ _ _ _ room (omega (arith, taken_counted input s w g.open_place e.size_fits)))

end_small : (s : Session) (w room : List ℕ) → Small (end_done s w room).answer
end_small s w room =
    let none : 0 ≤ 2 ^ 32 = omega arith in
    end_cases SmallDone s w room (refused_small s w room) (λ g. served_small _ _ 0 _ room none) (λ g. served_small _ _ 0 _ room none)
    (λ g. served_small _ _ 0 _ room none)

-- refused or served, on any bytes as a session
pub read_apart : (w session input room : List ℕ)
    → Apart (box_answer w (lp_read session input room)) (read_done (session_in session) w input room).answer
unfolding box_answer read_by
read_apart w session input room = apart _ (read_small (session_in session) w input room (encodes_in session))

pub end_apart : (w session room : List ℕ) → Apart (box_answer w (lp_end session room)) (end_done (session_in session) w room).answer
unfolding box_answer end_by
end_apart w session room = apart _ (end_small (session_in session) w room)
