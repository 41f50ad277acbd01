-- A record's end, a byte past the size limit and the file's end give the same on both sides:
-- by cases on the situation, each by its messages.
-- Assumes nothing.
use Prim.Native.Nat.{ℕ, ◌+◌, ◌≤◌, ◌<◌, ◌^◌}
use Prim.Native.String.{String}
use mathlib.Core.Path.{◌≡◌, refl, sym, ap, ◌∙◌, subst}
use mathlib.Core.Bool.{Bool, true, false}
use mathlib.Core.List.{List, [], ◌++◌, append-nil}
use native.Mathlib.Omega.{arith}
use lib.ListN.{length}
use Rattle.ground.specs.Choice.{pick}
use Rattle.calendar.specs.Dates.{real_date}
use Rattle.message.specs.declared.Extent.TheVariants.{CutShort}
use Rattle.message.specs.declared.Kind.TheVariants.{Esi, Var}
use Rattle.opening.specs.declared.Opening.{Opening}
use Rattle.whole_file.specs.Messages.{begins}
use Rattle.message.specs.Layout.{field_text}
use Rattle.whole_file.specs.WholeFile.{Opened, Situation, before_esi, collecting_esi, outside, collecting_suo, in_frame, collecting_var, closed}
use Rattle.whole_file.specs.WholeFile.{Standing, Step, moved, esi_says, pte_says, first_record, outside_record, with_record, frame_record}
use Rattle.whole_file.specs.WholeFile.{record_in, suo_starts, past_in, end_in}
use Rattle.session.specs.Events.{Turn, silent, placed, with_batch, shut, bare_turn, nothing, held, first_ends, outside_ends, data_taken}
use Rattle.session.specs.Events.{frame_ends, collecting_ends, ends_in, record_ended, is_esi, passed_in, passed, cut_short, finished_in, file_ended}
use Rattle.session.specs.Events.{suo_start}
use Rattle.session.specs.declared.Place.{Place}
use Rattle.session.specs.declared.Place.TheVariants.{Outside}
use Rattle.session.specs.declared.Session.{Session}
use Rattle.law_refinement.specs.Stands.{gathered_of, batch_of, FrameFits, size_of, digested, Hears, Answers}
use Rattle.law_refinement.proofs.Gathers
use Rattle.law_refinement.proofs.Frames
use Rattle.law_refinement.proofs.Messages

-- a standing moved to where it is
in_place : (st : Standing) (x : Situation) → st.situation ≡ x → moved st x ≡ st
unfolding moved
in_place st x e = ap (λ (y : Situation). record { situation = y; table = st.table; made = st.made; sender = st.sender }) (sym e)

module _ (o : Opening) (w₀ : List ℕ) (n : ℕ) (d : real_date o.today.yymmdd ≡ true) (small : n < 2 ^ 64) where
  -- ---- the file closes

  pte_closes : (code : ℕ) (st : Standing) (chars : List ℕ) (s : Session) (w : List ℕ) → Hears o w₀ n st chars s w
      → Answers o w₀ n s.line (pte_says o st code (moved st closed)) (bare_turn s w true code 0 [] (shut s))
  pte_closes code st chars s w k =
      Messages.pte_says_lem o w₀ n st chars s w k code _ _ (Messages.shuts o w₀ n st chars s w k) (Messages.shut_line o w₀ n st chars s w k)

  esi_closes : (code field : ℕ) (a b : List ℕ) (st : Standing) (chars : List ℕ) (s : Session) (w : List ℕ) → Hears o w₀ n st chars s w
      → field_text field a ≡ field_text field b
      → Answers o w₀ n s.line (esi_says o st code field b (moved st closed)) (bare_turn s w false code field a (shut s))
  esi_closes code field a b st chars s w k q =
      Messages.esi_says_lem o w₀ n st chars s w k code field a b _ _ q (Messages.shuts o w₀ n st chars s w k)
      (Messages.shut_line o w₀ n st chars s w k)

  -- ---- a record that is no part of a message on its way: `chars` is what was gathered

  module _ (st : Standing) (chars : List ℕ) (s : Session) (w : List ℕ) (k : Hears o w₀ n st chars s w)
      (g : s.gathered ≡ gathered_of chars) where
    start : (t : String) → begins t (held s.gathered) ≡ begins t chars
    start t = Gathers.begins_is s.gathered chars g t

    pub first_ends_lem : Answers o w₀ n s.line (first_record o st chars) (first_ends s w)
    unfolding first_record first_ends
    first_ends_lem =
        Messages.by_test o w₀ n s.line (λ (y : Turn). y) _ _ _ _ _ _ (start ">>ESI")
        (λ t. Messages.esi_starts_lem o w₀ n st chars s w k d chars g)
        (λ t. esi_closes 1010 10 _ _ st chars s w k (Gathers.tag_is s.gathered chars g))

    -- a record outside is skipped
    skipped : Hears o w₀ n (moved st (outside true)) [] (placed s Outside true nothing) w
    unfolding moved placed digested
    skipped = Messages.carries o w₀ n st chars s w k (outside true) (placed s Outside true nothing) refl refl refl (omega arith)
        (refl, Gathers.gathered_none, refl)

    placed_line : (p : Place) (t : Bool) → (placed s p t nothing).line ≡ s.line
    unfolding placed
    placed_line p t = refl

    pub outside_ends_lem : (told : Bool) → st.situation ≡ outside told → s.told ≡ told
        → Answers o w₀ n s.line (outside_record o st told chars) (outside_ends s w)
    unfolding outside_record outside_ends
    outside_ends_lem told q e =
        Messages.by_test o w₀ n s.line (λ (y : Turn). y) _ _ _ _ _ _ (start ">>SUO")
        (λ t. Messages.suo_starts_lem o w₀ n st chars s w k d chars g)
        (λ t.
        Messages.by_test o w₀ n s.line (λ (y : Turn). y) _ _ _ _ _ _ (start ">>ESI")
        (λ u. esi_closes 1011 10 _ _ st chars s w k (Gathers.tag_is s.gathered chars g))
        (λ u.
        Messages.by_test o w₀ n s.line (λ (y : Turn). y) _ _ _ _ _ _ e
        (λ v.
        Messages.quiet o w₀ n st _ w s.line
        (subst (λ (x : Standing). Hears o w₀ n x [] (placed s Outside true nothing) w) (in_place st (outside true) (q ∙ ap outside v))
        skipped)
        (placed_line Outside true))
        (λ v. Messages.pte_says_lem o w₀ n st chars s w k 1023 _ _ skipped (placed_line Outside true))))

    module _ (f : Opened) (b : s.batch ≡ batch_of f chars) (fits : FrameFits f) (few : size_of f.records + length chars ≤ n) where
      data_taken_lem : Hears o w₀ n (moved st (in_frame (with_record f chars))) [] (data_taken s) w
      unfolding moved data_taken with_batch placed digested with_record
      data_taken_lem =
          Messages.carries o w₀ n st chars s w k (in_frame (with_record f chars)) (data_taken s) refl refl refl
          (omega (arith, Frames.size_more f.records chars)) (
            refl,
            Gathers.gathered_none,
            Frames.batch_taken f chars s.batch b,
            record { suo_long_fact = fits.suo_long_fact; key_fits = fits.key_fits },
          )

      data_line : (data_taken s).line ≡ s.line
      unfolding data_taken with_batch placed
      data_line = refl

      suo_opens : Hears o w₀ n (suo_starts st chars).after [] (suo_start s w) w
      unfolding silent
      suo_opens = (Messages.suo_starts_lem o w₀ n st chars s w k d chars g).stands

      suo_line : (suo_start s w).line ≡ s.line
      unfolding silent
      suo_line = (Messages.suo_starts_lem o w₀ n st chars s w k d chars g).line

      pub frame_ends_lem : Answers o w₀ n s.line (frame_record o st f chars) (frame_ends s w)
      unfolding frame_record frame_ends
      frame_ends_lem =
          Messages.by_test o w₀ n s.line (λ (y : Turn). y) _ _ _ _ _ _ (start ">>VAR")
          (λ t. Messages.var_starts_lem o w₀ n st chars s w k d chars g f (Frames.batch_keeps f chars s.batch b) fits (omega arith) small)
          (λ t.
          Messages.by_test o w₀ n s.line (λ (y : Turn). y) _ _ _ _ _ _ (start ">>SUO")
          (λ u. Messages.pte_says_lem o w₀ n st chars s w k 1024 _ _ suo_opens suo_line)
          (λ u.
          Messages.by_test o w₀ n s.line (λ (y : Turn). y) _ _ _ _ _ _ (start ">>ESI")
          (λ v. pte_closes 1024 st chars s w k)
          (λ v. Messages.quiet o w₀ n _ _ w s.line data_taken_lem data_line)))

  -- ---- by situation

  -- what holds at the place that the session is in
  at_place : (s : Session) (f : Place → Turn) (x : Step) {p : Place} → s.place ≡ p → Answers o w₀ n s.line x (f p)
      → Answers o w₀ n s.line x (f s.place)
  at_place s f x e a = subst (λ (q : Place). Answers o w₀ n s.line x (f q)) (sym e) a

  module _ (st : Standing) where
    -- closed it stays, whatever it heard
    still : (chars : List ℕ) (s : Session) (w : List ℕ) → Hears o w₀ n (moved st closed) chars s w → Hears o w₀ n (moved st closed) [] s w
    unfolding moved digested
    still chars s w k = Messages.carries o w₀ n (moved st closed) chars s w k closed s refl refl refl (omega arith) k.situated

    ends_at : (x : Situation) (chars : List ℕ) (s : Session) (w : List ℕ) → Hears o w₀ n (moved st x) chars s w
        → Answers o w₀ n s.line (record_in o (moved st x) x chars) (ends_in s.place s w)
    unfolding moved record_in ends_in collecting_ends digested
    ends_at before_esi chars s w k =
        at_place s (λ (p : Place). ends_in p s w) _ k.situated.0
        (first_ends_lem (moved st before_esi) chars s w k k.situated.1)
    ends_at (collecting_esi sofar) chars s w k =
        at_place s (λ (p : Place). ends_in p s w) _ k.situated.0
        (Messages.esi_on_lem o w₀ n (moved st (collecting_esi sofar)) chars s w k d (sofar ++ chars) k.situated.1)
    ends_at (outside told) chars s w k =
        at_place s (λ (p : Place). ends_in p s w) _ k.situated.0
        (outside_ends_lem (moved st (outside told)) chars s w k k.situated.1 told refl k.situated.2)
    ends_at (collecting_suo sofar) chars s w k =
        at_place s (λ (p : Place). ends_in p s w) _ k.situated.0
        (Messages.suo_on_lem o w₀ n (moved st (collecting_suo sofar)) chars s w k d (sofar ++ chars) k.situated.1)
    ends_at (in_frame f) chars s w k =
        at_place s (λ (p : Place). ends_in p s w) _ k.situated.0
        (frame_ends_lem (moved st (in_frame f)) chars s w k k.situated.1 f k.situated.2 k.situated.3 k.counted)
    ends_at (collecting_var sofar f) chars s w k =
        let few : size_of f.records ≤ n = omega (arith, k.counted) in
        at_place s (λ (p : Place). ends_in p s w) _ k.situated.0
        (Messages.var_on_lem o w₀ n (moved st (collecting_var sofar f)) chars s w k d (sofar ++ chars) k.situated.1 f k.situated.3
        k.situated.4 few small)
    ends_at closed chars s w k =
        at_place s (λ (p : Place). ends_in p s w) _ k.situated
        (Messages.quiet o w₀ n (moved st closed) s w s.line
        (still chars s w k)
        refl)

    passed_at : (x : Situation) (chars : List ℕ) (s : Session) (w : List ℕ) → Hears o w₀ n (moved st x) chars s w
        → Answers o w₀ n s.line (past_in o (moved st x) x) (passed_in s.place s w)
    unfolding moved past_in passed_in digested pick is_esi
    passed_at before_esi chars s w k =
        at_place s (λ (p : Place). passed_in p s w) _ k.situated.0
        (esi_closes 1034 0 [] [] (moved st before_esi) chars s w k refl)
    passed_at (collecting_esi sofar) chars s w k =
        at_place s (λ (p : Place). passed_in p s w) _ k.situated.0
        (esi_closes 1034 0 [] [] (moved st (collecting_esi sofar)) chars s w k refl)
    passed_at (outside told) chars s w k =
        at_place s (λ (p : Place). passed_in p s w) _ k.situated.0
        (pte_closes 1034 (moved st (outside told)) chars s w k)
    passed_at (collecting_suo sofar) chars s w k =
        at_place s (λ (p : Place). passed_in p s w) _ k.situated.0
        (pte_closes 1034 (moved st (collecting_suo sofar)) chars s w k)
    passed_at (in_frame f) chars s w k =
        at_place s (λ (p : Place). passed_in p s w) _ k.situated.0
        (pte_closes 1034 (moved st (in_frame f)) chars s w k)
    passed_at (collecting_var sofar f) chars s w k =
        at_place s (λ (p : Place). passed_in p s w) _ k.situated.0
        (pte_closes 1034 (moved st (collecting_var sofar f)) chars s w k)
    passed_at closed chars s w k =
        at_place s (λ (p : Place). passed_in p s w) _ k.situated
        (Messages.quiet o w₀ n (moved st closed) s w s.line (still chars s w k) refl)

    finished_at : (x : Situation) (s : Session) (w : List ℕ) → Hears o w₀ n (moved st x) [] s w
        → Answers o w₀ n s.line (end_in o (moved st x) x) (finished_in s.place s w)
    unfolding moved end_in finished_in cut_short digested
    finished_at before_esi s w k =
        at_place s (λ (p : Place). finished_in p s w) _ k.situated.0
        (Messages.quiet o w₀ n (moved st before_esi) s w s.line k refl)
    finished_at (collecting_esi sofar) s w k =
        at_place s (λ (p : Place). finished_in p s w) _ k.situated.0
        (Messages.esi_done_lem o w₀ n (moved st (collecting_esi sofar)) [] s w k d _ _
        (Gathers.collected_is s.gathered sofar (k.situated.1 ∙ ap gathered_of (append-nil sofar)) Esi CutShort CutShort refl)
        (Gathers.collected_long Esi CutShort sofar))
    finished_at (outside told) s w k =
        at_place s (λ (p : Place). finished_in p s w) _ k.situated.0
        (Messages.quiet o w₀ n (moved st (outside told)) s w s.line k refl)
    finished_at (collecting_suo sofar) s w k =
        at_place s (λ (p : Place). finished_in p s w) _ k.situated.0
        (pte_closes 1032 (moved st (collecting_suo sofar)) [] s w k)
    finished_at (in_frame f) s w k =
        at_place s (λ (p : Place). finished_in p s w) _ k.situated.0
        (pte_closes 1024 (moved st (in_frame f)) [] s w k)
    finished_at (collecting_var sofar f) s w k =
        let few : size_of f.records < 2 ^ 64 = omega (arith, k.counted) in
        at_place s (λ (p : Place). finished_in p s w) _ k.situated.0
        (Messages.var_done_lem o w₀ n (moved st (collecting_var sofar f)) [] s w k d _ _
        (Gathers.collected_is s.gathered sofar (k.situated.1 ∙ ap gathered_of (append-nil sofar)) Var CutShort CutShort refl)
        (Gathers.collected_long Var CutShort sofar)
        f k.situated.3 k.situated.4 few)
    finished_at closed s w k =
        at_place s (λ (p : Place). finished_in p s w) _ k.situated
        (Messages.quiet o w₀ n (moved st closed) s w s.line k refl)

  -- ---- the three

  module _ (st : Standing) (chars : List ℕ) (s : Session) (w : List ℕ) (k : Hears o w₀ n st chars s w) where
    pub record_ended_lem : Answers o w₀ n s.line (record_in o st st.situation chars) (record_ended s w)
    unfolding moved record_ended
    record_ended_lem = ends_at st st.situation chars s w k

    pub size_passed : Answers o w₀ n s.line (past_in o st st.situation) (passed s w)
    unfolding moved passed
    size_passed = passed_at st st.situation chars s w k

  pub file_ended_lem : (st : Standing) (s : Session) (w : List ℕ) → Hears o w₀ n st [] s w
      → Answers o w₀ n s.line (end_in o st st.situation) (file_ended s w)
  unfolding moved file_ended
  file_ended_lem st s w k = finished_at st st.situation s w k
