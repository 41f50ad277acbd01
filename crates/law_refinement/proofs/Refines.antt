-- The machine says what the whole-file answer says: by one induction over the bytes,
-- each of which leaves the session standing for the standing after it.
-- Assumes nothing.
use Prim.Native.Nat.{ℕ, ◌+◌, ◌≤◌, ◌<◌, ◌^◌}
use mathlib.Core.Path.{◌≡◌, refl, sym, ap, ap₂, ◌∙◌, subst}
use mathlib.Core.Bool.{Bool, true, false}
use mathlib.Core.List.{List, [], ◌∷◌, ◌++◌, append-nil, append_assoc}
use native.Mathlib.Omega.{arith}
use borrow.Author.Tests.{eqb-true, leb-false}
use lib.Dec.{eqb, leb}
use lib.ListN.{length, length-append}
use Rattle.ground.specs.Choice.{pick}
use Rattle.ground.proofs.Choices.{picks, skips}
use Rattle.calendar.specs.Dates.{real_date}
use Rattle.reply.specs.declared.Answering.{Answering}
use Rattle.opening.specs.declared.Opening.{Opening}
use Rattle.whole_file.specs.Records.{lf, cr, size_limit, Item, line, past_size, without_cr, last_item, grown, ended_by, items_from}
use Rattle.whole_file.specs.WholeFile.{Situation, before_esi, collecting_esi, outside, collecting_suo, in_frame, collecting_var, closed}
use Rattle.whole_file.specs.WholeFile.{Standing, Step, moved, silent as stays, replies as tells, esi_says, pte_says, record_in, past_in}
use Rattle.whole_file.specs.WholeFile.{given_at, sooner, told_of}
use Rattle.session.specs.Lines.{Event, characters, record_ends, size_passed, waited, event_of, line_after}
use Rattle.session.specs.Events.{Turn, silent, heard_by, heard, record_ended, passed}
use Rattle.session.specs.Machine.{with_line, on_event, stepped}
use Rattle.session.specs.Told.{said_by, Answered, before, all_told}
use Rattle.session.specs.declared.Line.{Line}
use Rattle.session.specs.declared.Session.{Session}
use Rattle.law_refinement.specs.Stands.{digested, Hears, Stands, Answers, answered_as}
use Rattle.law_refinement.proofs.Chars
use Rattle.law_refinement.proofs.Heard
use Rattle.law_refinement.proofs.Ends
use Rattle.law_refinement.proofs.Last

-- ---- the whole-file answer is closed past the size limit

past_at : (o : Opening) (st : Standing) (x : Situation) → (past_in o (moved st x) x).after.situation ≡ closed
unfolding past_in esi_says pte_says tells stays moved
past_at o st before_esi = refl
past_at o st (collecting_esi sofar) = refl
past_at o st (outside told) = refl
past_at o st (collecting_suo sofar) = refl
past_at o st (in_frame f) = refl
past_at o st (collecting_var sofar f) = refl
past_at o st closed = refl

past_closed : (o : Opening) (st : Standing) → (past_in o st st.situation).after.situation ≡ closed
unfolding moved
past_closed o st = past_at o st st.situation

-- ---- the items of one byte more

module _ (at : ℕ) (raw : List ℕ) (b : ℕ) (bs : List ℕ) where
  items_past : leb size_limit at ≡ true → items_from at raw (b ∷ bs) ≡ past_size (at + 1) ∷ []
  unfolding items_from
  items_past t = picks _ _ _ t

  pub items_lf : leb size_limit at ≡ false → eqb b lf ≡ true
      → items_from at raw (b ∷ bs) ≡ line (record { chars = without_cr raw; end = at + 1 }) ∷ items_from (at + 1) [] bs
  unfolding items_from ended_by grown
  items_lf t e =
      skips _ _ _ t
      ∙ ap₂ (λ (l : List Item) (r : List ℕ). l ++ items_from (at + 1) r bs) (picks _ _ _ e) (picks _ _ _ e)

  pub items_on : leb size_limit at ≡ false → eqb b lf ≡ false → items_from at raw (b ∷ bs) ≡ items_from (at + 1) (raw ++ (b ∷ [])) bs
  unfolding items_from ended_by grown
  items_on t e =
      skips _ _ _ t
      ∙ ap₂ (λ (l : List Item) (r : List ℕ). l ++ items_from (at + 1) r bs) (skips _ _ _ e) (skips _ _ _ e)

-- ---- the session's turn at one byte

module _ (s : Session) (w : List ℕ) (b : ℕ) where
  -- the session with the byte counted
  abbrev counted : Session
  counted = with_line s (line_after s.line b)

  by_event : (v : Event) → event_of s.line b ≡ v → stepped s w b ≡ on_event v counted w
  unfolding stepped
  by_event v e = ap (λ (x : Event). on_event x counted w) e

  step_past : leb size_limit s.line.size ≡ true → stepped s w b ≡ passed counted w
  unfolding event_of on_event
  step_past t = by_event size_passed (picks _ _ _ t)

  module _ (t : leb size_limit s.line.size ≡ false) where
    step_lf : eqb b lf ≡ true → stepped s w b ≡ record_ended counted w
    unfolding event_of on_event
    step_lf e = by_event record_ends (skips _ _ _ t ∙ picks _ _ _ e)

    step_cr : eqb b lf ≡ false → eqb b cr ≡ true → stepped s w b ≡ silent (heard counted (waited s.line.cr)) w
    unfolding event_of on_event
    step_cr e f = by_event (characters (waited s.line.cr)) (skips _ _ _ t ∙ skips _ _ _ e ∙ picks _ _ _ f)

    step_other : eqb b lf ≡ false → eqb b cr ≡ false → stepped s w b ≡ silent (heard counted (waited s.line.cr ++ (b ∷ []))) w
    unfolding event_of on_event
    step_other e f = by_event (characters (waited s.line.cr ++ (b ∷ []))) (skips _ _ _ t ∙ skips _ _ _ e ∙ skips _ _ _ f)

    line_is : line_after s.line b ≡ record { size = s.line.size + 1; cr = eqb b cr }
    unfolding line_after
    line_is = skips _ _ _ t

  counted-line : counted.line ≡ line_after s.line b
  unfolding with_line
  counted-line = refl

  heard-line : (l : List ℕ) → (heard counted l).line ≡ line_after s.line b
  unfolding with_line heard heard_by
  heard-line l = refl

lf_no_cr : (b : ℕ) → eqb b lf ≡ true → eqb b cr ≡ false
lf_no_cr b e = ap (λ (x : ℕ). eqb x cr) (eqb-true b lf e)

-- ---- one byte, with what the bytes after it do

module _ (o : Opening) (w₀ : List ℕ) (d : real_date o.today.yymmdd ≡ true) (b : ℕ) (bs : List ℕ) (size at : ℕ)
    (ih : (st : Standing) (raw : List ℕ) (s : Session) (w : List ℕ) → Stands o w₀ st raw (at + 1) s w
    → all_told (at + 1) s w bs ≡ answered_as w₀ (told_of o size st (items_from (at + 1) raw bs)))
    (st : Standing) (raw : List ℕ) (s : Session) (w : List ℕ) (k : Stands o w₀ st raw at s w) where
  -- all that is said from a turn on
  abbrev from : Turn → Answered
  from y = before (given_at (at + 1) (said_by y)) (all_told (at + 1) y.out.session y.table bs)

  turns : (y : Turn) → stepped s w b ≡ y → all_told at s w (b ∷ bs) ≡ from y
  unfolding all_told
  turns y e = ap from e

  said : (x : Step) (y : Turn) (items : List Item) → said_by y ≡ x.says
      → all_told (at + 1) y.out.session y.table bs ≡ answered_as w₀ (told_of o size x.after items)
      → from y ≡ answered_as w₀ (sooner (given_at (at + 1) x.says) (told_of o size x.after items))
  unfolding before answered_as sooner
  said x y items e r = ap₂ (λ (l : List Answering) (a : Answered). before (given_at (at + 1) l) a) e r

  -- nothing is said
  on : (z : Session) → from (silent z w) ≡ all_told (at + 1) z w bs
  unfolding before said_by silent pick given_at
  on z = refl

  small : at + 1 < 2 ^ 64
  small = omega (arith, k.within)

  hears : Hears o w₀ (at + 1) st k.chars (counted s w b) w
  hears = Heard.hears_line o w₀ at (at + 1) st k.chars s w k.hears (line_after s.line b) (omega arith)

  size_test : (t : Bool) → leb size_limit at ≡ t → leb size_limit s.line.size ≡ t
  size_test t e = ap (leb size_limit) k.size ∙ e

  past : leb size_limit at ≡ true → all_told at s w (b ∷ bs) ≡ answered_as w₀ (told_of o size st (items_from at raw (b ∷ bs)))
  unfolding told_of
  past t =
      let y = Ends.size_passed o w₀ (at + 1) d small st k.chars (counted s w b) w hears in
      turns (passed (counted s w b) w) (step_past s w b (size_test true t))
      ∙ said (past_in o st st.situation) (passed (counted s w b) w) [] y.says
      (Last.closed_both o w₀ (at + 1) [] bs size (at + 1) (past_in o st st.situation).after [] _ _ (past_closed o st) y.stands)
      ∙ ap (λ (l : List Item). answered_as w₀ (told_of o size st l)) (sym (items_past at raw b bs t))

  module _ (t : leb size_limit at ≡ false) where
    room : at + 1 ≤ size_limit
    room = omega (arith, leb-false size_limit at t)

    -- the line after the byte
    after_is : line_after s.line b ≡ record { size = at + 1; cr = eqb b cr }
    after_is =
        line_is s w b (size_test false t) ∙ ap (λ (n : ℕ). record { size = n + 1; cr = eqb b cr }) k.size

    module _ (z : Line) (e : z ≡ line_after s.line b) where
      size_is : z.size ≡ at + 1
      size_is = ap (λ (l : Line). l.size) (e ∙ after_is)

      cr_is : z.cr ≡ eqb b cr
      cr_is = ap (λ (l : Line). l.cr) (e ∙ after_is)

    -- ---- LF: the record ends

    module _ (e : eqb b lf ≡ true) where
      ended : Answers o w₀ (at + 1) (line_after s.line b) (record_in o st st.situation (without_cr raw)) (record_ended (counted s w b) w)
      ended =
          subst (λ (l : Line). Answers o w₀ (at + 1) l (record_in o st st.situation (without_cr raw)) (record_ended (counted s w b) w))
          (counted-line s w b)
          (subst (λ (l : List ℕ). Answers o w₀ (at + 1) (counted s w b).line (record_in o st st.situation l)
          (record_ended (counted s w b) w)) (sym k.without)
          (Ends.record_ended_lem o w₀ (at + 1) d small st k.chars (counted s w b) w hears))

      stands_lf : Stands o w₀ (record_in o st st.situation (without_cr raw)).after [] (at + 1)
          (record_ended (counted s w b) w).out.session (record_ended (counted s w b) w).table
      unfolding without_cr waited
      stands_lf =
          record {
            chars = [];
            raw_is = sym (ap waited (cr_is _ ended.line ∙ lf_no_cr b e));
            without = refl;
            size = size_is _ ended.line;
            within = room;
            counted = ended.stands.counted;
            hears = ended.stands;
          }

      by_lf : all_told at s w (b ∷ bs) ≡ answered_as w₀ (told_of o size st (items_from at raw (b ∷ bs)))
      unfolding told_of
      by_lf =
          turns (record_ended (counted s w b) w) (step_lf s w b (size_test false t) e)
          ∙ said (record_in o st st.situation (without_cr raw)) (record_ended (counted s w b) w) (items_from (at + 1) [] bs)
          ended.says (ih _ [] _ _ stands_lf)
          ∙ ap (λ (l : List Item). answered_as w₀ (told_of o size st l)) (sym (items_lf at raw b bs t e))

    -- ---- any other byte: characters

    more : digested st.situation + length (raw ++ (b ∷ [])) ≤ at + 1
    more = omega (arith, k.counted, length-append raw (b ∷ []))

    module _ (e : eqb b lf ≡ false) where
      by_heard : (z : Session) → stepped s w b ≡ silent z w → Stands o w₀ st (raw ++ (b ∷ [])) (at + 1) z w
          → all_told at s w (b ∷ bs) ≡ answered_as w₀ (told_of o size st (items_from at raw (b ∷ bs)))
      by_heard z p q =
          turns (silent z w) p
          ∙ on z
          ∙ ih st (raw ++ (b ∷ [])) z w q
          ∙ ap (λ (l : List Item). answered_as w₀ (told_of o size st l)) (sym (items_on at raw b bs t e))

      -- a CR waits
      module _ (f : eqb b cr ≡ true) where
        hears_raw : Hears o w₀ (at + 1) st raw (heard (counted s w b) (waited s.line.cr)) w
        hears_raw =
            let n : digested st.situation + length (k.chars ++ waited s.line.cr) ≤ at + 1 =
            omega (arith, k.counted, ap length k.raw_is) in
            subst (λ (l : List ℕ). Hears o w₀ (at + 1) st l (heard (counted s w b) (waited s.line.cr)) w) (sym k.raw_is)
            (Heard.hears_more o w₀ (at + 1) (at + 1) st k.chars (counted s w b) w hears (waited s.line.cr) n)

        stands_cr : Stands o w₀ st (raw ++ (b ∷ [])) (at + 1) (heard (counted s w b) (waited s.line.cr)) w
        unfolding waited
        stands_cr =
            let h = heard-line s w b (waited s.line.cr) in
            let i : b ≡ cr = eqb-true b cr f in
            record {
              chars = raw;
              raw_is = ap (λ (x : ℕ). raw ++ (x ∷ [])) i ∙ sym (ap (λ (x : Bool). raw ++ waited x) (cr_is _ h ∙ f));
              without = ap (λ (x : ℕ). without_cr (raw ++ (x ∷ []))) i ∙ Chars.without_cr_lem raw;
              size = size_is _ h;
              within = room;
              counted = more;
              hears = hears_raw;
            }

        by_cr : all_told at s w (b ∷ bs) ≡ answered_as w₀ (told_of o size st (items_from at raw (b ∷ bs)))
        by_cr = by_heard _ (step_cr s w b (size_test false t) e f) stands_cr

      module _ (f : eqb b cr ≡ false) where
        -- a CR that waited was a character
        raw_more : k.chars ++ (waited s.line.cr ++ (b ∷ [])) ≡ raw ++ (b ∷ [])
        raw_more = sym (ap (λ (l : List ℕ). l ++ (b ∷ [])) k.raw_is ∙ append_assoc k.chars (waited s.line.cr) (b ∷ []))

        hears_other : Hears o w₀ (at + 1) st (raw ++ (b ∷ [])) (heard (counted s w b) (waited s.line.cr ++ (b ∷ []))) w
        hears_other =
            let n : digested st.situation + length (k.chars ++ (waited s.line.cr ++ (b ∷ []))) ≤ at + 1 =
            omega (arith, more, ap length raw_more) in
            subst (λ (l : List ℕ). Hears o w₀ (at + 1) st l (heard (counted s w b) (waited s.line.cr ++ (b ∷ []))) w) raw_more
            (Heard.hears_more o w₀ (at + 1) (at + 1) st k.chars (counted s w b) w hears (waited s.line.cr ++ (b ∷ [])) n)

        stands_other : Stands o w₀ st (raw ++ (b ∷ [])) (at + 1) (heard (counted s w b) (waited s.line.cr ++ (b ∷ []))) w
        unfolding waited
        stands_other =
            let h = heard-line s w b (waited s.line.cr ++ (b ∷ [])) in
            record {
              chars = raw ++ (b ∷ []);
              raw_is = sym (ap (λ (x : Bool). (raw ++ (b ∷ [])) ++ waited x) (cr_is _ h ∙ f) ∙ append-nil (raw ++ (b ∷ [])));
              without = Chars.without_other raw b f;
              size = size_is _ h;
              within = room;
              counted = more;
              hears = hears_other;
            }

        by_other : all_told at s w (b ∷ bs) ≡ answered_as w₀ (told_of o size st (items_from at raw (b ∷ bs)))
        by_other = by_heard _ (step_other s w b (size_test false t) e f) stands_other

  one_byte : (t u v : Bool) → leb size_limit at ≡ t → eqb b lf ≡ u → eqb b cr ≡ v
      → all_told at s w (b ∷ bs) ≡ answered_as w₀ (told_of o size st (items_from at raw (b ∷ bs)))
  one_byte true u v p q r = past p
  one_byte false true v p q r = by_lf p q
  one_byte false false true p q r = by_cr p q r
  one_byte false false false p q r = by_other p q r

pub refines : (o : Opening) (w₀ : List ℕ) → real_date o.today.yymmdd ≡ true → (bs : List ℕ) (size at : ℕ) → at + length bs ≡ size
    → (st : Standing) (raw : List ℕ) (s : Session) (w : List ℕ) → Stands o w₀ st raw at s w
    → all_told at s w bs ≡ answered_as w₀ (told_of o size st (items_from at raw bs))
unfolding all_told items_from
refines o w₀ d [] size at z st raw s w k =
    let e : at ≡ size = omega arith in
    Last.last_is o w₀ at d (omega (arith, k.within)) st raw s w k ∙ ap (λ (n : ℕ). answered_as w₀ (told_of o n st (last_item at raw))) e
refines o w₀ d (b ∷ bs) size at z st raw s w k =
    one_byte o w₀ d b bs size at (refines o w₀ d bs size (at + 1) (omega arith)) st raw s w k (leb size_limit at) (eqb b lf) (eqb b cr)
    refl refl refl
