-- The file's end: a record that no LF ended ends there on both sides, and what is due then is the same; with no byte on its way, a message
-- that goes on is left as it was.
-- Assumes nothing.
use Prim.Native.Nat.{ℕ, ◌+◌, ◌≤◌, ◌<◌, ◌^◌}
use mathlib.Core.Path.{◌≡◌, refl, sym, ap, ap₂, ◌∙◌, subst}
use mathlib.Core.Bool.{Bool, true, false}
use mathlib.Core.List.{List, [], ◌∷◌, ◌++◌, append-nil}
use mathlib.Core.Logic.{◌⊎◌, inl, inr, ⊎_elim}
use native.Mathlib.Omega.{arith}
use borrow.Author.Tests.{lt-ltb, le-ltb}
use lib.Dec.{ltb}
use lib.ListN.{length, length-append}
use Rattle.ground.specs.Choice.{either, pick}
use Rattle.ground.proofs.Choices.{picks, skips}
use Rattle.calendar.specs.Dates.{real_date}
use Rattle.reply.specs.declared.Answering.{Answering}
use Rattle.reply.specs.Reply.{reply_of}
use Rattle.opening.specs.declared.Opening.{Opening}
use Rattle.whole_file.specs.Records.{cr, Item, line, without_cr, last_item}
use Rattle.whole_file.specs.WholeFile.{Situation, before_esi, collecting_esi, outside, collecting_suo, in_frame, collecting_var, closed}
use Rattle.whole_file.specs.WholeFile.{Standing, Step, moved, silent as stays, esi_goes_on, suo_goes_on, var_goes_on, record_in, Given, given_at}
use Rattle.whole_file.specs.WholeFile.{sooner, told_of}
use Rattle.session.specs.Lines.{waited, line_ended}
use Rattle.session.specs.Events.{Turn, silent, heard, record_ended, file_ended}
use Rattle.session.specs.Machine.{with_line, is_begun, last_ended}
use Rattle.session.specs.Told.{said_by, Answered, end_told, all_told}
use Rattle.session.specs.declared.Gathered.{Gathered}
use Rattle.session.specs.declared.Batch.{Batch}
use Rattle.session.specs.declared.Place.{Place}
use Rattle.session.specs.declared.Place.TheVariants.{Closed}
use Rattle.session.specs.declared.Session.{Session}
use Rattle.law_refinement.specs.Stands.{gathered_of, digested, Situated, Hears, Stands, Answers, answered_as}
use Rattle.law_refinement.proofs.Gathers
use Rattle.law_refinement.proofs.Ends
use Rattle.law_refinement.proofs.Heard
use Rattle.law_refinement.proofs.Quiet

-- ---- a record is on its way or not

-- `all` is what was gathered
module _ (all chars : List ℕ) (g : Gathered) (e : g ≡ gathered_of all) where
  begun_by : (t : Bool) (raw : List ℕ) → raw ≡ chars ++ waited t → 0 < length raw → length chars ≤ length all
      → either t (ltb 0 g.count) ≡ true
  unfolding either waited
  begun_by true raw p h q = refl
  begun_by false raw p h q =
      let n : length raw ≡ length chars = ap length (p ∙ append-nil chars) in
      lt-ltb 0 g.count (omega (arith, Gathers.count_is g all e))

  idle_by : (t : Bool) → [] ≡ chars ++ waited t → length all ≤ length chars → either t (ltb 0 g.count) ≡ false
  unfolding either waited
  idle_by true p q =
      let n : 0 ≡ length (chars ++ (cr ∷ [])) = ap length p in
      absurd (omega (arith, length-append chars (cr ∷ [])))
  idle_by false p q =
      let n : 0 ≡ length chars = ap length (p ∙ append-nil chars) in
      le-ltb 0 g.count (omega (arith, Gathers.count_is g all e))

module _ (raw chars : List ℕ) (told : Bool) (p : Place) (g : Gathered) (b : Batch) (t : Bool) (is : raw ≡ chars ++ waited t) where
  longer : (sofar : List ℕ) → length chars ≤ length (sofar ++ chars)
  longer sofar = omega (arith, length-append sofar chars)

  -- an open file knows of a record on its way
  knows : (x : Situation) → Situated x chars told p g b → 0 < length raw → (x ≡ closed) ⊎ (either t (ltb 0 g.count) ≡ true)
  knows before_esi k h = inr (begun_by chars chars g k.1 t raw is h (omega arith))
  knows (collecting_esi sofar) k h = inr (begun_by (sofar ++ chars) chars g k.1 t raw is h (longer sofar))
  knows (outside before) k h = inr (begun_by chars chars g k.1 t raw is h (omega arith))
  knows (collecting_suo sofar) k h = inr (begun_by (sofar ++ chars) chars g k.1 t raw is h (longer sofar))
  knows (in_frame f) k h = inr (begun_by chars chars g k.1 t raw is h (omega arith))
  knows (collecting_var sofar f) k h = inr (begun_by (sofar ++ chars) chars g k.1 t raw is h (longer sofar))
  knows closed k h = inl refl

-- no byte is on its way: it isn't begun, or a record of no characters leaves the standing as it is
module _ (o : Opening) (st : Standing) where
  idle : (x : Situation) (chars : List ℕ) (told : Bool) (p : Place) (g : Gathered) (b : Batch) (u : Bool) → [] ≡ chars ++ waited u
      → Situated x chars told p g b
      → (record_in o (moved st x) x [] ≡ stays (moved st x)) ⊎ (either u (ltb 0 g.count) ≡ false)
  unfolding record_in esi_goes_on suo_goes_on var_goes_on moved
  idle before_esi chars told p g b u is k = inr (idle_by chars chars g k.1 u is (omega arith))
  idle (collecting_esi sofar) chars told p g b u is k =
      inl (ap (esi_goes_on o (moved st (collecting_esi sofar))) (append-nil sofar) ∙ picks _ _ _ k.2)
  idle (outside before) chars told p g b u is k = inr (idle_by chars chars g k.1 u is (omega arith))
  idle (collecting_suo sofar) chars told p g b u is k =
      inl (ap (suo_goes_on (moved st (collecting_suo sofar))) (append-nil sofar) ∙ picks _ _ _ k.2)
  idle (in_frame f) chars told p g b u is k = inr (idle_by chars chars g k.1 u is (omega arith))
  idle (collecting_var sofar f) chars told p g b u is k =
      inl (ap (var_goes_on o (moved st (collecting_var sofar f)) f) (append-nil sofar) ∙ picks _ _ _ k.2)
  idle closed chars told p g b u is k = inl refl

-- ---- what is said at the end

pub given_append : (at : ℕ) (a b : List Answering) → given_at at (a ++ b) ≡ given_at at a ++ given_at at b
unfolding given_at
given_append at [] b = refl
given_append at (x ∷ a) b = ap (λ (l : List Given). record { at = at; reply = reply_of x } ∷ l) (given_append at a b)

-- a closed file says nothing more on either side
pub closed_both : (o : Opening) (w₀ : List ℕ) (n : ℕ) (items : List Item) (bs : List ℕ) (size at : ℕ) (st : Standing) (chars : List ℕ)
    (s : Session) (w : List ℕ)
    → st.situation ≡ closed → Hears o w₀ n st chars s w → all_told at s w bs ≡ answered_as w₀ (told_of o size st items)
unfolding answered_as
closed_both o w₀ n items bs size at st chars s w e k =
    let p : s.place ≡ Closed = subst (λ (x : Situation). Situated x chars s.told s.place s.gathered s.batch) e k.situated in
    Quiet.closed_quiet bs at s w (Quiet.closed_is s.place p)
    ∙ Quiet.answered_eq refl k.table.bytes
    ∙ sym (ap (answered_as w₀) (Quiet.closed_told items o size st e))

-- the file's end after the turn x of a last record, if there was one
abbrev end_of : ℕ → Turn → Answered
end_of at x =
    record {
      given = given_at at (said_by x ++ said_by (file_ended x.out.session x.table));
      table = (file_ended x.out.session x.table).table;
    }

-- the session that has heard the whole of the last record
abbrev whole : Session → Session
whole s = with_line (heard s (waited s.line.cr)) (line_ended s.line)

begun_end : (at : ℕ) (s : Session) (w : List ℕ) → is_begun s ≡ true → end_told at s w ≡ end_of at (record_ended (whole s) w)
unfolding end_told last_ended
begun_end at s w t = ap (end_of at) (picks _ _ _ t)

idle_end : (at : ℕ) (s : Session) (w : List ℕ) → is_begun s ≡ false → end_told at s w ≡ end_of at (silent s w)
unfolding end_told last_ended
idle_end at s w t = ap (end_of at) (skips _ _ _ t)

module _ (o : Opening) (w₀ : List ℕ) (at : ℕ) (d : real_date o.today.yymmdd ≡ true) (small : at < 2 ^ 64) where
  due : (x : Step) (y : Turn) → said_by y ≡ x.says → Hears o w₀ at x.after [] y.out.session y.table
      → end_of at y ≡ answered_as w₀ (sooner (given_at at x.says) (told_of o at x.after []))
  unfolding answered_as sooner told_of
  due x y e k =
      let z = Ends.file_ended_lem o w₀ at d small x.after y.out.session y.table k in
      Quiet.answered_eq (given_append at _ _ ∙ ap₂ (λ (a b : List Answering). given_at at a ++ given_at at b) e z.says)
      z.stands.table.bytes

  module _ (st : Standing) (raw : List ℕ) (s : Session) (w : List ℕ) (k : Stands o w₀ st raw at s w) where
    hears_whole : Hears o w₀ at st raw (whole s) w
    hears_whole =
        let n : digested st.situation + length (k.chars ++ waited s.line.cr) ≤ at =
        omega (arith, k.counted, ap length k.raw_is) in
        subst (λ (l : List ℕ). Hears o w₀ at st l (whole s) w) (sym k.raw_is)
        (Heard.hears_line o w₀ at at st _ _ w (Heard.hears_more o w₀ at at st k.chars s w k.hears (waited s.line.cr) n)
        (line_ended s.line) (omega arith))

    -- a last record
    begun_last : (x : Step) → record_in o st st.situation raw ≡ x → is_begun s ≡ true
        → end_told at s w ≡ answered_as w₀ (sooner (given_at at x.says) (told_of o at x.after []))
    begun_last x e t =
        let y = subst (λ (z : Step). Answers o w₀ at (whole s).line z (record_ended (whole s) w)) e
        (Ends.record_ended_lem o w₀ at d small st raw (whole s) w hears_whole) in
        begun_end at s w t ∙ due x (record_ended (whole s) w) y.says y.stands

    -- none
    idle_last : Hears o w₀ at st [] s w → is_begun s ≡ false → end_told at s w ≡ answered_as w₀ (told_of o at st [])
    unfolding stays silent said_by pick sooner given_at
    idle_last h t = idle_end at s w t ∙ due (stays st) (silent s w) refl h

    some_last : 0 < length raw → end_told at s w ≡ answered_as w₀ (told_of o at st (line (record { chars = raw; end = at }) ∷ []))
    unfolding told_of is_begun all_told
    some_last h =
        ⊎_elim (λ e. closed_both o w₀ at (line (record { chars = raw; end = at }) ∷ []) [] at at st k.chars s w e k.hears)
        (λ t. begun_last _ refl t)
        (knows raw k.chars s.told s.place s.gathered s.batch s.line.cr k.raw_is st.situation
        k.hears.situated h)

  none_last : (st : Standing) (s : Session) (w : List ℕ) → Stands o w₀ st [] at s w → end_told at s w ≡ answered_as w₀ (told_of o at st [])
  unfolding moved is_begun without_cr sooner given_at stays
  none_last st s w k =
      let h : Hears o w₀ at st [] s w = subst (λ (l : List ℕ). Hears o w₀ at st l s w) (sym k.without) k.hears in
      ⊎_elim (λ e. by_begun e h (is_begun s) refl) (λ t. idle_last st [] s w k h t)
      (idle o st st.situation k.chars s.told s.place s.gathered s.batch s.line.cr k.raw_is k.hears.situated)
    where
      by_begun : record_in o st st.situation [] ≡ stays st → Hears o w₀ at st [] s w → (t : Bool) → is_begun s ≡ t
          → end_told at s w ≡ answered_as w₀ (told_of o at st [])
      by_begun e h true t = begun_last st [] s w k (stays st) e t
      by_begun e h false t = idle_last st [] s w k h t

  pub last_is : (st : Standing) (raw : List ℕ) (s : Session) (w : List ℕ) → Stands o w₀ st raw at s w
      → end_told at s w ≡ answered_as w₀ (told_of o at st (last_item at raw))
  unfolding last_item
  last_is st [] s w k = none_last st s w k
  last_is st (x ∷ raw) s w k = some_last st (x ∷ raw) s w k (omega arith)
