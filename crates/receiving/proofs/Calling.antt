-- One call shows what is told from here up to where it stopped, and the rest is told from there; a caller's room of 317 zeros is enough.
-- Assumes nothing.
use Prim.Native.Nat.{ℕ, ◌+◌, ◌-◌, ◌<◌, ◌≤◌}
use mathlib.Core.Path.{◌≡◌, refl, sym, ap, ◌∙◌, subst}
use mathlib.Core.List.{List, [], ◌∷◌, append-nil}
use mathlib.Core.Bool.{Bool, true, false}
use native.Mathlib.Omega.{arith}
use native.Mathlib.Nat.{add-zero}
use lib.Dec.{eqb}
use lib.ListN.{length, take, drop, replicate, drop_of_length-le, length-replicate, length-drop}
use lib.Seq.{drop-drop}
use Rattle.ground.specs.Choice.{pick}
use Rattle.ground.proofs.Bools.{picked}
use Rattle.ground.proofs.Parts.{reaches}
use Rattle.reply.specs.Reply.{reply_length, written_length}
use Rattle.whole_file.specs.WholeFile.{Given}
use Rattle.session.specs.Events.{Turn}
use Rattle.session.specs.Machine.{scanned}
use Rattle.session.specs.Told.{all_told}
use Rattle.session.specs.declared.Session.{Session}
use Rattle.session.specs.declared.Reply.{Reply}
use Rattle.law_cutting.proofs.Cuts.{scan_taken}
use Rattle.calls.specs.Reading.{Done, length_of, served_by, read_served, read_done, end_done}
use Rattle.calls.specs.Calls.{shown_by}
use Rattle.calls.specs.Promises.{MeetsReading}
use Rattle.calls.specs.declared.Answer.{Answer}
use Rattle.law_protocol.specs.Protocol.{Saw, seen_at, sooner}
use Rattle.law_protocol.specs.Ready.{Good, EndGood}
use Rattle.law_protocol.proofs.Good.{read_served_lem}
use Rattle.law_protocol.proofs.Runs.{read_goes_on, read_closes}
use Rattle.law_protocol.proofs.Ends.{EndCase, another_due, last_reply, file_only, last_turn, file_turn, end_is, again_case, finished_case}
use Rattle.law_protocol.proofs.Exists.{took_some, taken_is, second_finishes}
use Rattle.receiving.specs.Steps.{Adds, seen_in, Called, saw_from, saw_end, over, SoFar}
use Rattle.receiving.specs.declared.Going.{Going}
use Rattle.receiving.proofs.Keeping.{adds_then, adds_as, so_far_more, so_far_as}

abbrev pub zeros : List ℕ
zeros = replicate 317 0

enough : 317 ≤ length zeros
enough = omega (arith, length-replicate {A = ℕ} 317 0)

-- ---- the reply of a call

seen_by : (t : Bool) (at : ℕ) (r : List ℕ) → pick t [] (record { at = at; reply = r } ∷ []) ≡ seen_at at (pick t [] (r ∷ []))
unfolding pick seen_at
seen_by true at r = refl
seen_by false at r = refl

seen_in_lem : (at : ℕ) (d : Done) → seen_in at d.answer.length d.room ≡ seen_at at (shown_by d)
unfolding seen_in shown_by
seen_in_lem at d = seen_by (eqb d.answer.length 0) at _

length_fits : (r : Reply) (room : List ℕ) → length_of r room ≤ 317
unfolding length_of written_length reply_length
length_fits r room =
    picked (λ (n : ℕ). n ≤ 317) _ _ _
    (λ e.
    picked (λ (n : ℕ). n ≤ 317) _ _ _ (λ f. picked (λ (n : ℕ). n ≤ 317) _ _ _ (λ g. omega arith) (λ g. omega arith)) (λ f. omega arith))
    (λ e. omega arith)

module _ (d : Done) (at n : ℕ) (r p : List ℕ) {a : Answer} {w room : List ℕ} (m : MeetsReading d a w room) where
  -- the caller after a call that did d
  pub called_so : {at' more : ℕ} {r' p' : List ℕ} → at' ≡ at + d.answer.taken → Adds (seen_in at' a.length room) n r p more r' p'
      → Called d at n r p (record { session = a.session; at = at'; count = more; finished = a.finished }) w r' p'
  called_so {at'} e k =
      record {
        session = ap (λ (x : Answer). x.session) m.answers;
        takes = e;
        finished = ap (λ (x : Answer). x.finished) m.answers;
        leaves = m.leaves;
        adds = adds_as (seen_is e) k;
      }
    where
      seen_is : {at' : ℕ} → at' ≡ at + d.answer.taken → seen_in at' a.length room ≡ seen_at (at + d.answer.taken) (shown_by d)
      seen_is {at'} e =
          ap (λ (i : ℕ). seen_in i a.length room) e
          ∙ ap (λ (i : ℕ). seen_in (at + d.answer.taken) i room) (ap (λ (x : Answer). x.length) m.answers)
          ∙ ap (seen_in (at + d.answer.taken) d.answer.length) m.shows
          ∙ seen_in_lem (at + d.answer.taken) d

  pub called_read : {more : ℕ} {r' p' : List ℕ} → Adds (seen_in (at + a.taken) a.length room) n r p more r' p'
      → Called d at n r p (record { session = a.session; at = at + a.taken; count = more; finished = a.finished }) w r' p'
  called_read k = called_so (ap (λ (x : Answer). at + x.taken) m.answers) k

-- ---- a read

module _ (s : Session) (w input : List ℕ) (g : Good s w) where
  pub takes_within : (read_done s w input zeros).answer.taken ≤ length input
  takes_within = omega (arith, taken_is s w input zeros enough g, scan_taken input s w)

  pub read_length : (read_done s w input zeros).answer.length ≤ 317
  unfolding read_served served_by
  read_length =
      subst (λ (d : Done). d.answer.length ≤ 317) (sym (read_served_lem s w input zeros enough g)) (length_fits _ zeros)

-- what a read answers is small enough to be counted
pub read_fits : (s : Session) (w input : List ℕ) {a : Answer} {v room : List ℕ} → Good s w
    → MeetsReading (read_done s w input zeros) a v room
    → (a.taken ≤ length input) × (a.length ≤ 317)
read_fits s w input g m =
    let t = ap (λ (x : Answer). x.taken) m.answers in
    let l = ap (λ (x : Answer). x.length) m.answers in
    (omega (arith, t, takes_within s w input g), omega (arith, l, read_length s w input g))

-- a part of the file
module _ (file : List ℕ) (k at : ℕ) (s : Session) (w : List ℕ) (g : Good s w) where
  abbrev read_of : Done
  read_of = read_done s w (take k (drop at file)) zeros

  abbrev reached : ℕ
  reached = at + read_of.answer.taken

  abbrev read_seen : List Given
  read_seen = seen_at reached (shown_by read_of)

  read_on : read_of.answer.finished ≡ false
      → saw_from at s w (drop at file)
      ≡ sooner read_seen (saw_from reached read_of.answer.session read_of.table (drop reached file))
  read_on f =
      sym ((read_goes_on k at s w (drop at file) zeros enough g f).shows _ refl)
      ∙ ap (λ (l : List ℕ). sooner read_seen (saw_from reached read_of.answer.session read_of.table l))
      (drop-drop read_of.answer.taken at file)

  read_shut : read_of.answer.finished ≡ true → saw_from at s w (drop at file) ≡ sooner read_seen (over read_of.table)
  unfolding sooner
  read_shut f =
      sym (read_closes k at s w (drop at file) zeros enough g f)
      ∙ ap (λ (l : List Given). record { given = l; table = read_of.table }) (sym (append-nil read_seen))

  takes_some : 0 < k → at < length file → 0 < read_of.answer.taken
  takes_some h l = subst (0 <◌) (sym (taken_is s w (take k (drop at file)) zeros enough g)) (by (drop at file) (left_some file at l))
    where
      by : (rest : List ℕ) → 0 < length rest → 0 < (scanned s w (take k rest)).taken
      by [] n = absurd (omega arith)
      by (b ∷ bs) n = took_some k b bs s w h

      left_some : (xs : List ℕ) (n : ℕ) → n < length xs → 0 < length (drop n xs)
      left_some xs n m = omega (arith, length-drop n xs)

  module _ {all : Saw} {r p : List ℕ} {n : ℕ} {r' p' : List ℕ} (f : SoFar all (saw_from at s w (drop at file)) r p n r' p')
      {x : Going} {v r'' p'' : List ℕ} (c : Called read_of at n r' p' x v r'' p'') where
    -- after a read that closed the file nothing is to come
    read_closed_by : x.finished ≡ true → SoFar all (over v) r p x.count r'' p''
    read_closed_by e =
        so_far_as (ap over (sym c.leaves)) (so_far_more (so_far_as (read_shut (sym c.finished ∙ e)) f) c.adds)

    read_good_by : x.finished ≡ false → Good x.session v
    read_good_by e =
        let k' = (read_goes_on k at s w (drop at file) zeros enough g (sym c.finished ∙ e)).good in
        subst (λ (u : List ℕ). Good x.session u) (sym c.leaves)
        (subst (λ (u : Session). Good u read_of.table) (sym c.session) k')

    -- after one that did not, the rest is told from where it stopped
    read_further_by : x.finished ≡ false → SoFar all (saw_from x.at x.session v (drop x.at file)) r p x.count r'' p''
    read_further_by e =
        so_far_as (here (sym c.takes) (sym c.session) (sym c.leaves))
        (so_far_more (so_far_as (read_on (sym c.finished ∙ e)) f) c.adds)
      where
        here : {i j : ℕ} {u u' : Session} {t t' : List ℕ} → i ≡ j → u ≡ u' → t ≡ t'
            → saw_from i u t (drop i file) ≡ saw_from j u' t' (drop j file)
        here {i} {j} {u} {u'} {t} {t'} a b d =
            ap (λ (m : ℕ). saw_from m u t (drop m file)) a
            ∙ ap (λ (m : Session). saw_from j m t (drop j file)) b
            ∙ ap (λ (m : List ℕ). saw_from j u' m (drop j file)) d

-- the same of a read of the bytes from `at` to `to`
module _ (file : List ℕ) (at to : ℕ) (h : at < to) (l : to ≤ length file) {s : Session} {w : List ℕ} (g : Good s w)
    {all : Saw} {r p : List ℕ} {n : ℕ} {r' p' : List ℕ} (f : SoFar all (saw_from at s w (drop at file)) r p n r' p')
    {x : Going} {v r'' p'' : List ℕ} (c : Called (read_done s w (take (to - at) (drop at file)) zeros) at n r' p' x v r'' p'') where
  pub read_closed : x.finished ≡ true → SoFar all (over v) r p x.count r'' p''
  read_closed e = read_closed_by file (to - at) at s w g f c e

  pub read_good : x.finished ≡ false → Good x.session v
  read_good e = read_good_by file (to - at) at s w g f c e

  pub read_further : x.finished ≡ false → SoFar all (saw_from x.at x.session v (drop x.at file)) r p x.count r'' p''
  read_further e = read_further_by file (to - at) at s w g f c e

-- such a read moves on, within the file
pub moved : (file : List ℕ) (at to : ℕ) {s : Session} {w : List ℕ} {n : ℕ} {r p : List ℕ} {x : Going} {v r' p' : List ℕ} → Good s w
    → at < to → to ≤ length file
    → Called (read_done s w (take (to - at) (drop at file)) zeros) at n r p x v r' p'
    → (at < x.at) × (x.at ≤ length file)
moved file at to {s} {w} g h l c =
    let k : 0 < to - at = omega arith in
    let a = takes_some file (to - at) at s w g k (omega arith) in
    let b = takes_within s w (take (to - at) (drop at file)) g in
    let e = reaches file at to (omega arith) l in
    let t = c.takes in
    (omega arith, omega arith)

-- no byte is left
pub at_the_end : (file : List ℕ) (at : ℕ) (s : Session) (w : List ℕ) → length file ≤ at → at ≤ length file
    → saw_from at s w (drop at file) ≡ saw_end (length file) s w
unfolding all_told
at_the_end file at s w h k =
    let e : at ≡ length file = omega arith in
    ap (saw_from at s w) (drop_of_length-le file h) ∙ ap (λ (i : ℕ). saw_end i s w) e

-- ---- an end

end_length_of : (d : Done) (x : Turn) (u : Session) (finished : Bool) → d ≡ served_by x u 0 finished zeros
    → (d.answer.length ≤ 317) × (d.answer.taken ≡ 0)
unfolding served_by
end_length_of d x u finished is =
    (subst (λ (c : Done). c.answer.length ≤ 317) (sym is) (length_fits x.out.reply zeros), ap (λ (c : Done). c.answer.taken) is)

module _ (s : Session) (w : List ℕ) (g : EndGood s w) where
  abbrev end_of : Done
  end_of = end_done s w zeros

  by_case : (d : Done) → EndCase (last_turn s w) (file_turn s w) zeros d → (d.answer.length ≤ 317) × (d.answer.taken ≡ 0)
  by_case d (another_due e k is) = end_length_of d _ _ _ is
  by_case d (last_reply e k is) = end_length_of d _ _ _ is
  by_case d (file_only e is) = end_length_of d _ _ _ is

  pub end_length : (end_of.answer.length ≤ 317) × (end_of.answer.taken ≡ 0)
  end_length = by_case end_of (end_is s w zeros enough g)

  module _ (at : ℕ) where
    abbrev end_seen : List Given
    end_seen = seen_at at (shown_by end_of)

    pub end_again : end_of.answer.finished ≡ false
        → EndGood end_of.answer.session end_of.table
        × (saw_end at s w ≡ sooner end_seen (saw_end at end_of.answer.session end_of.table))
    end_again f =
        let a = again_case at s w zeros enough g end_of (end_is s w zeros enough g) f in (a.good, sym (a.shows _ refl))

    pub end_over : end_of.answer.finished ≡ true → saw_end at s w ≡ record { given = end_seen; table = end_of.table }
    end_over f = sym (finished_case at s w zeros enough g end_of (end_is s w zeros enough g) f)

pub end_fits : {s : Session} {w : List ℕ} {a : Answer} {v room : List ℕ} → EndGood s w → MeetsReading (end_done s w zeros) a v room
    → a.length ≤ 317
end_fits {s} {w} g m = let l = ap (λ (x : Answer). x.length) m.answers in omega (arith, (end_length s w g).0)

pub end_at : {s : Session} {w : List ℕ} → EndGood s w → (at : ℕ) → at ≡ at + (end_done s w zeros).answer.taken
end_at {s} {w} g at = omega (arith, (end_length s w g).1)

seen_few : (at : ℕ) (d : Done) → length (seen_at at (shown_by d)) ≤ 1
unfolding seen_at shown_by
seen_few at d =
    picked (λ (l : List (List ℕ)). length (seen_at at l) ≤ 1) (eqb d.answer.length 0) _ _ (λ e. omega arith) (λ e. omega arith)

-- a call counts one reply at most
pub counts_one : {d : Done} {at n : ℕ} {r p : List ℕ} {x : Going} {v r' p' : List ℕ} → Called d at n r p x v r' p' → x.count ≤ n + 1
counts_one {d} {at} c = let k = c.adds.counts in omega (arith, seen_few (at + d.answer.taken) d)

-- what one end adds, where it is the last, and where another follows it
module _ (s : Session) (w : List ℕ) (g : EndGood s w) (at n : ℕ) (r p : List ℕ) {x : Going} {v r' p' : List ℕ}
    (c : Called (end_done s w zeros) at n r p x v r' p') where
  adds_here : Adds (seen_at at (shown_by (end_done s w zeros))) n r p x.count r' p'
  adds_here =
      adds_as (ap (λ (i : ℕ). seen_at i (shown_by (end_done s w zeros))) (ap (λ (i : ℕ). at + i) (end_length s w g).1 ∙ add-zero at))
      c.adds

  -- the last
  pub ended_once : x.finished ≡ true → Adds (saw_end at s w).given n r p x.count r' p' × (v ≡ (saw_end at s w).table)
  ended_once e =
      let k = end_over s w g at (sym c.finished ∙ e) in
      (adds_as (sym (ap (λ (l : Saw). l.given) k)) adds_here, c.leaves ∙ sym (ap (λ (l : Saw). l.table) k))

  pub ended_good : x.finished ≡ false → EndGood x.session v
  ended_good e =
      let k = (end_again s w g at (sym c.finished ∙ e)).0 in
      subst (λ (u : List ℕ). EndGood x.session u) (sym c.leaves)
      (subst (λ (u : Session). EndGood u (end_done s w zeros).table) (sym c.session) k)

  module _ {y : Going} {v' r'' p'' : List ℕ} (c' : Called (end_done x.session v zeros) at x.count r' p' y v' r'' p'') where
    second_over : x.finished ≡ false → y.finished ≡ true
    second_over e =
        c'.finished
        ∙ ap (λ (u : Session). (end_done u v zeros).answer.finished) c.session
        ∙ ap (λ (u : List ℕ). (end_done (end_done s w zeros).answer.session u zeros).answer.finished) c.leaves
        ∙ second_finishes s w zeros zeros enough enough g (sym c.finished ∙ e)

-- two ends, the first of which left a reply due
pub ended_twice : (s : Session) (w : List ℕ) (g : EndGood s w) (at n : ℕ) (r p : List ℕ) {x : Going} {v r' p' : List ℕ}
    (c : Called (end_done s w zeros) at n r p x v r' p') {y : Going} {v' r'' p'' : List ℕ}
    → Called (end_done x.session v zeros) at x.count r' p' y v' r'' p''
    → x.finished ≡ false
    → Adds (saw_end at s w).given n r p y.count r'' p'' × (v' ≡ (saw_end at s w).table)
unfolding sooner
ended_twice s w g at n r p {x} {v} c {y} c' e =
    let k = (end_again s w g at (sym c.finished ∙ e)).1 in
    let same : saw_end at (end_done s w zeros).answer.session (end_done s w zeros).table ≡ saw_end at x.session v =
    ap (λ (u : Session). saw_end at u (end_done s w zeros).table) (sym c.session)
    ∙ ap (λ (u : List ℕ). saw_end at x.session u) (sym c.leaves) in
    let q = k ∙ ap (sooner (seen_at at (shown_by (end_done s w zeros)))) same in
    let l = ended_once x.session v (ended_good s w g at n r p c e) at x.count _ _ c' (second_over s w g at n r p c c' e) in (
      adds_as (sym (ap (λ (m : Saw). m.given) q)) (adds_then (adds_here s w g at n r p c) l.0),
      l.1 ∙ sym (ap (λ (m : Saw). m.table) q),
    )
