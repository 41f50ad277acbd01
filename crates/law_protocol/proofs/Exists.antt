-- There is a run however the caller cuts: a read of at least one byte takes at least one, and the ends finish; no call is refused.
-- Assumes nothing.
use Prim.Native.Nat.{ℕ, zero, suc, ◌+◌, ◌<◌, ◌≤◌}
use mathlib.Core.Path.{◌≡◌, refl, sym, ap, ◌∙◌, subst}
use mathlib.Core.List.{List, [], ◌∷◌}
use mathlib.Core.Bool.{Bool, true, false, false≢true}
use native.Mathlib.Nat.{le_refl}
use native.Mathlib.Omega.{arith}
use lib.ListN.{length, take, drop, length-drop}
use Rattle.session.specs.Events.{Turn}
use Rattle.session.specs.Machine.{scanned}
use Rattle.session.specs.declared.Session.{Session}
use Rattle.law_cutting.proofs.Cuts.{scan_some}
use Rattle.calls.specs.Reading.{Done, served_by, read_served, read_done, end_done}
use Rattle.law_protocol.specs.Protocol.{Saw, Lent, Ends, again, last, Runs, read, shut, close, EndsServed, RunServed, rooms_from}
use Rattle.law_protocol.specs.Protocol.{reads_from}
use Rattle.law_protocol.specs.Ready.{Good, EndGood}
use Rattle.law_protocol.proofs.Good.{end_good, read_served_lem}
use Rattle.law_protocol.proofs.Ends.{EndCase, another_due, last_reply, file_only, last_turn, file_turn, later, end_is, next_is}
use Rattle.law_protocol.proofs.Ends.{later_good, again_case}
use Rattle.law_protocol.proofs.Runs.{read_goes_on}

-- ---- the ends

-- what is read off an answer that is served so
finished_is : (d : Done) (x : Turn) (u : Session) (finished : Bool) (room : List ℕ) → d ≡ served_by x u 0 finished room
    → d.answer.finished ≡ finished
unfolding served_by
finished_is d x u finished room is = ap (λ (c : Done). c.answer.finished) is

abbrev SomeEnds : List (List ℕ) → ℕ → Session → List ℕ → Type 0
SomeEnds rooms at s w = (l : Saw) × Ends rooms at s w l

rests : (rooms : List (List ℕ)) (at : ℕ) (room : List ℕ) (d : Done) (x : Turn) (u : Session) (finished : Bool)
    → d ≡ served_by x u 0 finished room
    → SomeEnds rooms at u x.table
    → SomeEnds rooms at d.answer.session d.table
unfolding served_by
rests rooms at room d x u finished is r = subst (λ (c : Done). SomeEnds rooms at c.answer.session c.table) (sym is) r

-- where the last record says nothing, the first end is the last
finishes_at_once : (s : Session) (w room : List ℕ) → 317 ≤ length room → EndGood s w → (last_turn s w).out.reply.given ≡ false
    → (end_done s w room).answer.finished ≡ true
finishes_at_once s w room h g e = by (end_done s w room) (end_is s w room h g)
  where
    by : (d : Done) → EndCase (last_turn s w) (file_turn s w) room d → d.answer.finished ≡ true
    by d (another_due t k is) = absurd (false≢true (sym e ∙ t))
    by d (last_reply t k is) = absurd (false≢true (sym e ∙ t))
    by d (file_only t is) = finished_is d _ _ true room is

one_end : (at : ℕ) (s : Session) (w room : List ℕ) → 317 ≤ length room → EndGood s w → (last_turn s w).out.reply.given ≡ false
    → SomeEnds (room ∷ []) at s w
one_end at s w room h g e = (_, last room h (finishes_at_once s w room h g e))

-- and after an end that leaves another reply due the next one finishes
served_second : (s : Session) (w other : List ℕ) (d : Done) (x : Turn) (u : Session) (finished : Bool) (room : List ℕ)
    → d ≡ served_by x u 0 finished room
    → (end_done u x.table other).answer.finished ≡ true
    → (end_done d.answer.session d.table other).answer.finished ≡ true
unfolding served_by
served_second s w other d x u finished room is e = ap (λ (c : Done). (end_done c.answer.session c.table other).answer.finished) is ∙ e

pub second_finishes : (s : Session) (w room other : List ℕ) → 317 ≤ length room → 317 ≤ length other → EndGood s w
    → (end_done s w room).answer.finished ≡ false
    → (end_done (end_done s w room).answer.session (end_done s w room).table other).answer.finished ≡ true
second_finishes s w room other h k g f = by (end_done s w room) (end_is s w room h g) f
  where
    by : (d : Done) → EndCase (last_turn s w) (file_turn s w) room d → d.answer.finished ≡ false
        → (end_done d.answer.session d.table other).answer.finished ≡ true
    by d (another_due t q is) e =
        served_second s w other d _ _ _ room is
        (finishes_at_once (later s w) (last_turn s w).table other k (later_good s w t q g) (next_is s w t q).unsaid)
    by d (last_reply t q is) e = absurd (false≢true (sym e ∙ finished_is d _ _ true room is))
    by d (file_only t is) e = absurd (false≢true (sym e ∙ finished_is d _ _ true room is))

module _ (rooms : ℕ → List ℕ) (h : (i : ℕ) → 317 ≤ length (rooms i)) where
  pub ends_exist : (i at : ℕ) (s : Session) (w : List ℕ) → EndGood s w → (m : ℕ) × SomeEnds (rooms_from m i rooms) at s w
  unfolding rooms_from
  ends_exist i at s w g = by (end_is s w (rooms i) (h i) g)
    where
      by : EndCase (last_turn s w) (file_turn s w) (rooms i) (end_done s w (rooms i)) → (m : ℕ) × SomeEnds (rooms_from m i rooms) at s w
      by (another_due e k is) =
          let r =
          one_end at (later s w) (last_turn s w).table (rooms (i + 1)) (h (i + 1)) (later_good s w e k g) (next_is s w e k).unsaid in
          let n = rests _ at (rooms i) (end_done s w (rooms i)) _ _ _ is r in
          (2, (_, again (rooms i) (h i) (finished_is _ _ _ false (rooms i) is) n.1))
      by (last_reply e k is) = (1, (_, last (rooms i) (h i) (finished_is _ _ _ true (rooms i) is)))
      by (file_only e is) = (1, (_, last (rooms i) (h i) (finished_is _ _ _ true (rooms i) is)))

-- ---- the reads

pub took_some : (k b : ℕ) (bs : List ℕ) (s : Session) (w : List ℕ) → 0 < k → 0 < (scanned s w (take k (b ∷ bs))).taken
took_some zero b bs s w h = absurd (omega arith)
took_some (suc k) b bs s w h = scan_some b (take k bs) s w

pub taken_is : (s : Session) (w input room : List ℕ) → 317 ≤ length room → Good s w
    → (read_done s w input room).answer.taken ≡ (scanned s w input).taken
unfolding read_served served_by
taken_is s w input room h g = ap (λ (d : Done). d.answer.taken) (read_served_lem s w input room h g)

module _ (sizes : ℕ → ℕ) (rooms : ℕ → List ℕ) (some : (i : ℕ) → 0 < sizes i) (h : (i : ℕ) → 317 ≤ length (rooms i)) where
  -- n reads from the i-th on, and then m ends
  abbrev Exists : ℕ → ℕ → Session → List ℕ → List ℕ → Type 0
  Exists i at s w rest =
      (n : ℕ) × (m : ℕ) × (l : Saw) × Runs (reads_from n i sizes rooms) (rooms_from m (i + n) rooms) at s w rest l

  -- the ends' rooms follow, counted from this read or from the next
  counted_on : (i n m : ℕ) {at : ℕ} {s : Session} {w rest : List ℕ} {l : Saw}
      → Runs (reads_from n (i + 1) sizes rooms) (rooms_from m (i + 1 + n) rooms) at s w rest l
      → Runs (reads_from n (i + 1) sizes rooms) (rooms_from m (i + suc n) rooms) at s w rest l
  counted_on i n m {at} {s} {w} {rest} {l} r =
      let k : i + 1 + n ≡ i + suc n = omega arith in
      subst (λ (j : ℕ). Runs (reads_from n (i + 1) sizes rooms) (rooms_from m j rooms) at s w rest l) k r

  no_more : (i at : ℕ) (s : Session) (w : List ℕ) → Good s w → Exists i at s w []
  unfolding reads_from
  no_more i at s w g =
      let e = ends_exist rooms h (i + 0) at s w (end_good g) in (0, e.0, e.1.0, close e.1.1)

  abbrev done : ℕ → Session → List ℕ → List ℕ → Done
  done i s w rest = read_done s w (take (sizes i) rest) (rooms i)

  -- a read, and the run after it unless it closes the file
  one-read : (i at : ℕ) (s : Session) (w rest : List ℕ)
      → ((done i s w rest).answer.finished ≡ false
      → Exists (i + 1) (at + (done i s w rest).answer.taken) (done i s w rest).answer.session (done i s w rest).table
      (drop (done i s w rest).answer.taken rest))
      → Exists i at s w rest
  unfolding reads_from rooms_from
  one-read i at s w rest next = by (done i s w rest).answer.finished refl
    where
      by : (f : Bool) → (done i s w rest).answer.finished ≡ f → Exists i at s w rest
      by true e = (1, 0, _, shut (sizes i) (rooms i) (h i) e)
      by false e =
          let r = next e in
          (suc r.0, r.1, _, read (sizes i) (rooms i) (h i) e (counted_on i r.0 r.1 r.3))

  by_length : (m i at : ℕ) (s : Session) (w rest : List ℕ) → length rest ≤ m → Good s w → Exists i at s w rest
  by_length zero i at s w [] z g = no_more i at s w g
  by_length (suc m) i at s w [] z g = no_more i at s w g
  by_length zero i at s w (b ∷ bs) z g = absurd (omega arith)
  by_length (suc m) i at s w (b ∷ bs) z g =
      let d = done i s w (b ∷ bs) in
      let t : d.answer.taken ≡ (scanned s w (take (sizes i) (b ∷ bs))).taken = taken_is s w (take (sizes i) (b ∷ bs)) (rooms i) (h i) g in
      let less : length (drop d.answer.taken (b ∷ bs)) ≤ m = simp length-drop (omega (arith, took_some (sizes i) b bs s w (some i))) in
      one-read i at s w (b ∷ bs)
      (λ f.
      by_length m (i + 1) (at + d.answer.taken) d.answer.session d.table (drop d.answer.taken (b ∷ bs)) less
      (read_goes_on (sizes i) at s w (b ∷ bs) (rooms i) (h i) g f).good)

pub runs_exist : (sizes : ℕ → ℕ) (rooms : ℕ → List ℕ) → ((i : ℕ) → 0 < sizes i) → ((i : ℕ) → 317 ≤ length (rooms i))
    → (i at : ℕ) (s : Session) (w rest : List ℕ) → Good s w
    → (n : ℕ) × (m : ℕ) × (l : Saw) × Runs (reads_from n i sizes rooms) (rooms_from m (i + n) rooms) at s w rest l
runs_exist sizes rooms some h i at s w rest g = by_length sizes rooms some h (length rest) i at s w rest (le_refl (length rest)) g

-- ---- no call of a run is refused

read-zero : (s : Session) (w input room : List ℕ) → 317 ≤ length room → Good s w → (read_done s w input room).answer.refusal ≡ 0
unfolding read_served served_by
read-zero s w input room h g = ap (λ (d : Done). d.answer.refusal) (read_served_lem s w input room h g)

served_zero : (d : Done) (x : Turn) (u : Session) (finished : Bool) (room : List ℕ)
    → d ≡ served_by x u 0 finished room → d.answer.refusal ≡ 0
unfolding served_by
served_zero d x u finished room is = ap (λ (c : Done). c.answer.refusal) is

end-zero : (s : Session) (w room : List ℕ) → 317 ≤ length room → EndGood s w → (end_done s w room).answer.refusal ≡ 0
end-zero s w room h g = by (end_done s w room) (end_is s w room h g)
  where
    by : (d : Done) → EndCase (last_turn s w) (file_turn s w) room d → d.answer.refusal ≡ 0
    by d (another_due e k is) = served_zero d _ _ _ room is
    by d (last_reply e k is) = served_zero d _ _ _ room is
    by d (file_only e is) = served_zero d _ _ _ room is

pub ends_served : {rooms : List (List ℕ)} {at : ℕ} {s : Session} {w : List ℕ} {l : Saw} (r : Ends rooms at s w l)
    → EndGood s w → EndsServed r
unfolding EndsServed
ends_served (again {at = at} {s = s} {b = w} room h f r) g =
    let a = again_case at s w room h g (end_done s w room) (end_is s w room h g) f in
    (end-zero s w room h g, ends_served r a.good)
ends_served (last {s = s} {b = w} room h f) g = end-zero s w room h g

pub run_served : {ks : List Lent} {rooms : List (List ℕ)} {at : ℕ} {s : Session} {w rest : List ℕ} {l : Saw}
    (r : Runs ks rooms at s w rest l) → Good s w → RunServed r
unfolding RunServed
run_served (read {at = at} {s = s} {b = w} {rest = rest} k room h f r) g =
    (read-zero s w (take k rest) room h g, run_served r (read_goes_on k at s w rest room h g f).good)
run_served (shut {s = s} {b = w} {rest = rest} k room h f) g = read-zero s w (take k rest) room h g
run_served (close e) g = ends_served e (end_good g)
