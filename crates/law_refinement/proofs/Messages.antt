-- A message's record ends alike on both sides: what is gathered says what its characters say, and the table's bytes say the table.
-- Assumes nothing.
use Prim.Native.Nat.{ℕ, ◌+◌, ◌≤◌, ◌<◌, ◌^◌}
use mathlib.Core.Path.{◌≡◌, refl, sym, ap, ap₂, ◌∙◌, subst}
use mathlib.Core.Bool.{Bool, true, false}
use mathlib.Core.List.{List, [], ◌∷◌, ◌++◌, append-nil}
use native.Mathlib.Omega.{arith}
use lib.ListN.{length}
use Rattle.ground.specs.Choice.{pick}
use Rattle.calendar.specs.Dates.{real_date}
use Rattle.digest.specs.Running.{begun, alike}
use Rattle.table.specs.Table.{Table}
use Rattle.table.specs.Decode.{table_of}
use Rattle.message.specs.Fields.{sender_of}
use Rattle.message.specs.declared.Extent.{Extent}
use Rattle.message.specs.declared.Extent.TheVariants.{Whole}
use Rattle.message.specs.declared.Kind.{Kind}
use Rattle.message.specs.declared.Kind.TheVariants.{Esi, Suo, Var}
use Rattle.verdict.specs.Outcomes.{esi_outcome, esi_table, esi_leaves, frame_outcome, frame_table, frame_leaves}
use Rattle.message.specs.declared.Collected.{Collected}
use Rattle.verdict.specs.declared.Outcome.{Outcome}
use Rattle.notice.specs.Codes.{code_in, codes}
use Rattle.reply.specs.declared.Answering.{Answering}
use Rattle.message.specs.Layout.{field_text}
use Rattle.answers.specs.Answers.{bare_answer, verdict_answer}
use Rattle.answers.proofs.Made.{bare_alike}
use Rattle.opening.specs.declared.Opening.{Opening}
use Rattle.whole_file.specs.Messages.{extent_of, is_whole, wants_more, collected_as, once_of}
use Rattle.whole_file.specs.WholeFile.{Opened, Situation, collecting_esi, collecting_suo, collecting_var, closed, Standing, Step, moved}
use Rattle.whole_file.specs.WholeFile.{silent as stays, replies as tells, esi_says, pte_says, occasion, after_esi, esi_ends, suo_ends, frame_of}
use Rattle.whole_file.specs.WholeFile.{var_ends, esi_goes_on, suo_goes_on, var_goes_on, esi_starts, suo_starts, var_starts}
use Rattle.session.specs.Events.{Turn, silent, replies, placed, with_batch, judged, shut, bare_turn, nothing, wants, collected_by}
use Rattle.session.specs.Events.{place_after_esi, esi_done, suo_done, frame_by, var_done, keeps_on, esi_on, suo_on, var_on, extent_by, esi_start}
use Rattle.session.specs.Events.{suo_start, var_start}
use Rattle.session.specs.Told.{said_by}
use Rattle.session.specs.declared.Line.{Line}
use Rattle.session.specs.declared.Batch.{Batch}
use Rattle.session.specs.declared.Session.{Session}
use Rattle.law_refinement.specs.Stands.{gathered_of, Kept, FrameFits, size_of, digested, Situated, TableIs, Hears, Answers}
use Rattle.law_refinement.proofs.Gathers
use Rattle.law_refinement.proofs.Frames
use Rattle.law_refinement.proofs.Tables
use Rattle.law_refinement.proofs.Heard

-- ---- the same answer from the same parts

verdict_eq : {t u : Table} {p q : Opening} {x y : Outcome} {a b c e : List ℕ} (pte : Bool) → t ≡ u → p ≡ q → x ≡ y → a ≡ b → c ≡ e
    → verdict_answer t p pte x a c ≡ verdict_answer u q pte y b e
verdict_eq pte h i j k l = rw (h, i, j, k, l)

after_esi_lem : (a b : Bool) (batch : Batch) → a ≡ b → Situated (after_esi b) [] false (place_after_esi a) nothing batch
unfolding after_esi place_after_esi
after_esi_lem a b batch e = subst (λ (x : Bool). Situated (after_esi b) [] false (place_after_esi x) nothing batch) (sym e) (go b)
  where
    go : (x : Bool) → Situated (after_esi x) [] false (place_after_esi x) nothing batch
    go true = (refl, Gathers.gathered_none, refl)
    go false = refl

none_digested : (b : Bool) (n : ℕ) → digested (after_esi b) + length {A = ℕ} [] ≤ n
unfolding digested after_esi
none_digested true n = omega arith
none_digested false n = omega arith

module _ (o : Opening) (w₀ : List ℕ) (n : ℕ) where
  same_test : {A : Type 0} (l : Line) (f : A → Turn) (t : Bool) (x x' : Step) (y y' : A)
      → (t ≡ true → Answers o w₀ n l x (f y)) → (t ≡ false → Answers o w₀ n l x' (f y'))
      → Answers o w₀ n l (pick t x x') (f (pick t y y'))
  unfolding pick
  same_test l f true x x' y y' p q = p refl
  same_test l f false x x' y y' p q = q refl

  -- the same test on both sides
  pub by_test : {A : Type 0} (l : Line) (f : A → Turn) (t u : Bool) (x x' : Step) (y y' : A) → u ≡ t
      → (t ≡ true → Answers o w₀ n l x (f y)) → (t ≡ false → Answers o w₀ n l x' (f y'))
      → Answers o w₀ n l (pick t x x') (f (pick u y y'))
  by_test l f t u x x' y y' e p q =
      subst (λ (b : Bool). Answers o w₀ n l (pick t x x') (f (pick b y y'))) (sym e) (same_test l f t x x' y y' p q)

  -- nothing is said
  pub quiet : (x : Standing) (s : Session) (w : List ℕ) (l : Line) → Hears o w₀ n x [] s w → s.line ≡ l
      → Answers o w₀ n l (stays x) (silent s w)
  unfolding stays silent said_by pick
  quiet x s w l k e = record { says = refl; stands = k; line = e }

  -- a reply
  told : (a b : Answering) (x : Standing) (s : Session) (w : List ℕ) (l : Line) → a ≡ b → Hears o w₀ n x [] s w → s.line ≡ l
      → Answers o w₀ n l (tells b x) (replies a s w)
  unfolding tells replies said_by pick
  told a b x s w l p k e = record { says = ap (λ (c : Answering). c ∷ []) p; stands = k; line = e }

  module _ (st : Standing) (chars : List ℕ) (s : Session) (w : List ℕ) (k : Hears o w₀ n st chars s w) where
    -- a bare one
    bare_is : (pte : Bool) (code field : ℕ) (a b : List ℕ) → field_text field a ≡ field_text field b
        → bare_answer (table_of w) s.opening pte code field a ≡ bare_answer st.table o pte code field b
    bare_is pte code field a b q =
        ap₂ (λ (t : Table) (p : Opening). bare_answer t p pte code field a) k.table.says k.opening
        ∙ bare_alike st.table o pte code field a b q

    pub esi_says_lem : (code field : ℕ) (a b : List ℕ) (x : Standing) (z : Session) → field_text field a ≡ field_text field b
        → Hears o w₀ n x [] z w → z.line ≡ s.line
        → Answers o w₀ n s.line (esi_says o st code field b x) (bare_turn s w false code field a z)
    unfolding esi_says bare_turn
    esi_says_lem code field a b x z q h e = told _ _ x z w s.line (bare_is false code field a b q) h e

    pub pte_says_lem : (code : ℕ) (x : Standing) (z : Session) → Hears o w₀ n x [] z w → z.line ≡ s.line
        → Answers o w₀ n s.line (pte_says o st code x) (bare_turn s w true code 0 [] z)
    unfolding pte_says bare_turn
    pte_says_lem code x z h e = told _ _ x z w s.line (bare_is true code 0 [] [] refl) h e

    -- what only a verdict changes is carried on
    pub carries : (x : Situation) (z : Session) → z.opening ≡ s.opening → z.made ≡ s.made → z.sender ≡ s.sender
        → digested x + length {A = ℕ} [] ≤ n → Situated x [] z.told z.place z.gathered z.batch
        → Hears o w₀ n (moved st x) [] z w
    carries x z p q r h i = Heard.carries o w₀ n n st chars s w k x [] z p q r h i

    -- the file is closed
    pub shuts : Hears o w₀ n (moved st closed) [] (shut s) w
    unfolding moved shut placed digested
    shuts = carries closed (shut s) refl refl refl (omega arith) refl

    pub shut_line : (shut s).line ≡ s.line
    unfolding shut placed
    shut_line = refl

    occasion_is : occasion s.opening s.made ≡ occasion o st.made
    occasion_is = ap₂ occasion k.opening k.made

    module _ (d : real_date o.today.yymmdd ≡ true) (c m : Collected) (e : c ≡ m) (long : length m.text ≡ 161) where
      -- ---- an ESI's end

      esi_out : esi_outcome (table_of w) (occasion s.opening s.made) c ≡ esi_outcome st.table (occasion o st.made) m
      esi_out = rw (k.table.says, occasion_is, e)

      esi_left : TableIs w₀ (esi_table st.table (occasion o st.made) m) (esi_leaves w (occasion s.opening s.made) c)
      unfolding occasion
      esi_left =
          subst (TableIs w₀ (esi_table st.table (occasion o st.made) m)) (sym (ap₂ (esi_leaves w) occasion_is e))
          (Tables.esi_moves w₀ w st.table k.table (occasion o st.made) d m long)

      pub esi_done_lem : Answers o w₀ n s.line (esi_ends o st m) (esi_done s w c)
      unfolding esi_ends esi_done judged
      esi_done_lem =
          let text : c.text ≡ m.text = ap (λ (x : Collected). x.text) e in
          told _ _ _ _ _ s.line (verdict_eq false esi_left.says k.opening esi_out text text)
          (record {
            opening = k.opening;
            made = ap (λ (x : Outcome). x.made) esi_out;
            sender = ap sender_of text;
            table = esi_left;
            counted = none_digested _ n;
            situated = after_esi_lem _ _ s.batch (ap (λ (x : Outcome). (code_in x.code codes).accepted) esi_out);
          })
          refl

      -- ---- a SUO's end

      pub suo_done_lem : Answers o w₀ n s.line (suo_ends st m) (silent (suo_done s w c) w)
      unfolding suo_ends suo_done moved placed with_batch digested size_of
      suo_done_lem =
          let once : once_of (table_of w) c ≡ once_of st.table m = ap₂ once_of k.table.says e in
          quiet _ _ w s.line
          (carries _ (suo_done s w c) refl refl refl (omega arith) (
            refl,
            Gathers.gathered_none,
            ap (λ (x : Collected). record { suo = x; once = once_of (table_of w) c; running = alike begun }) e
                ∙ Frames.batch_begun m _ _ once,
            record { suo_long_fact = long; key_fits = Frames.once_of-lt st.table m },
          ))
          refl

      -- ---- a VAR's end

      module _ (f : Opened) (kept : Kept f s.batch) (fits : FrameFits f) (few : size_of f.records < 2 ^ 64) where
        frame_same : frame_by s c ≡ frame_of f m
        frame_same = Frames.frame_is f m c s kept e few

        var_out : frame_outcome (table_of w) (occasion s.opening s.made) (frame_by s c)
            ≡ frame_outcome st.table (occasion o st.made) (frame_of f m)
        var_out = rw (k.table.says, occasion_is, frame_same)

        var_left : TableIs w₀ (frame_table st.table (occasion o st.made) (frame_of f m))
            (frame_leaves w (occasion s.opening s.made) (frame_by s c))
        unfolding occasion frame_of
        var_left =
            subst (TableIs w₀ (frame_table st.table (occasion o st.made) (frame_of f m)))
            (sym (ap₂ (frame_leaves w) occasion_is frame_same))
            (Tables.frame_moves w₀ w st.table k.table (occasion o st.made) d (frame_of f m) fits.suo_long_fact fits.key_fits)

        pub var_done_lem : Answers o w₀ n s.line (var_ends o st f m) (var_done s w c)
        unfolding var_ends var_done judged digested
        var_done_lem =
            told _ _ _ _ _ s.line
            (verdict_eq true var_left.says k.opening var_out (ap (λ (x : Collected). x.text) kept.suo)
            (ap (λ (x : Collected). x.text) e))
            (record {
              opening = k.opening;
              made = ap (λ (x : Outcome). x.made) var_out;
              sender = k.sender;
              table = var_left;
              counted = omega arith;
              situated = (refl, Gathers.gathered_none, refl);
            })
            refl

    -- ---- the message goes on, or ends; `l` is all that was collected

    module _ (d : real_date o.today.yymmdd ≡ true) (l : List ℕ) (g : s.gathered ≡ gathered_of l) where
      more : s.gathered ≡ gathered_of (l ++ [])
      more = g ∙ ap gathered_of (sym (append-nil l))

      keeps_esi : wants_more l ≡ true → Hears o w₀ n (moved st (collecting_esi l)) [] (keeps_on s Esi) w
      unfolding moved keeps_on placed digested
      keeps_esi t = carries (collecting_esi l) (keeps_on s Esi) refl refl refl (omega arith) (refl, more, t)

      keeps_suo : wants_more l ≡ true → Hears o w₀ n (moved st (collecting_suo l)) [] (keeps_on s Suo) w
      unfolding moved keeps_on placed digested
      keeps_suo t = carries (collecting_suo l) (keeps_on s Suo) refl refl refl (omega arith) (refl, more, t)

      keeps_line : (kind : Kind) → (keeps_on s kind).line ≡ s.line
      unfolding keeps_on placed
      keeps_line kind = refl

      -- what a kind collects is the characters
      collected : (kind : Kind) (a b : Extent) → a ≡ b → collected_by kind a s.gathered ≡ collected_as kind b l
      collected kind a b p = Gathers.collected_is s.gathered l g kind a b p

      wants_same : wants s.gathered ≡ wants_more l
      wants_same = Gathers.wants_is s.gathered l g

      extent : (kind : Kind) → extent_by kind s ≡ extent_of kind l
      unfolding extent_by
      extent kind = Gathers.extent_is s.gathered l g kind

      first : (kind : Kind) → is_whole (extent_by kind s) ≡ is_whole (extent_of kind l)
      first kind = ap is_whole (extent kind)

      pub esi_on_lem : Answers o w₀ n s.line (esi_goes_on o st l) (esi_on s w)
      unfolding esi_goes_on esi_on
      esi_on_lem =
          by_test s.line (λ (y : Turn). y) _ _ _ _ _ _ wants_same (λ t. quiet _ _ w s.line (keeps_esi t) (keeps_line Esi))
          (λ t. esi_done_lem d _ _ (collected Esi Whole Whole refl) (Gathers.collected_long Esi Whole l))

      pub esi_starts_lem : Answers o w₀ n s.line (esi_starts o st l) (esi_start s w)
      unfolding esi_starts esi_start
      esi_starts_lem =
          by_test s.line (λ (y : Turn). y) _ _ _ _ _ _ (first Esi) (λ t. esi_on_lem)
          (λ t. esi_done_lem d _ _ (collected Esi _ _ (extent Esi)) (Gathers.collected_long Esi _ l))

      pub suo_on_lem : Answers o w₀ n s.line (suo_goes_on st l) (silent (suo_on s w) w)
      unfolding suo_goes_on suo_on
      suo_on_lem =
          by_test s.line (λ (y : Session). silent y w) _ _ _ _ _ _ wants_same
          (λ t. quiet _ _ w s.line (keeps_suo t) (keeps_line Suo))
          (λ t. suo_done_lem d _ _ (collected Suo Whole Whole refl) (Gathers.collected_long Suo Whole l))

      pub suo_starts_lem : Answers o w₀ n s.line (suo_starts st l) (silent (suo_start s w) w)
      unfolding suo_starts suo_start
      suo_starts_lem =
          by_test s.line (λ (y : Session). silent y w) _ _ _ _ _ _ (first Suo) (λ t. suo_on_lem)
          (λ t. suo_done_lem d _ _ (collected Suo _ _ (extent Suo)) (Gathers.collected_long Suo _ l))

      module _ (f : Opened) (kept : Kept f s.batch) (fits : FrameFits f) (few : size_of f.records ≤ n) (small : n < 2 ^ 64) where
        keeps_var : wants_more l ≡ true → Hears o w₀ n (moved st (collecting_var l f)) [] (keeps_on s Var) w
        unfolding moved keeps_on placed digested
        keeps_var t = carries (collecting_var l f) (keeps_on s Var) refl refl refl (omega arith) (refl, more, t, kept, fits)

        pub var_on_lem : Answers o w₀ n s.line (var_goes_on o st f l) (var_on s w)
        unfolding var_goes_on var_on
        var_on_lem =
            by_test s.line (λ (y : Turn). y) _ _ _ _ _ _ wants_same (λ t. quiet _ _ w s.line (keeps_var t) (keeps_line Var))
            (λ t. var_done_lem d _ _ (collected Var Whole Whole refl) (Gathers.collected_long Var Whole l) f kept fits (omega arith))

        pub var_starts_lem : Answers o w₀ n s.line (var_starts o st f l) (var_start s w)
        unfolding var_starts var_start
        var_starts_lem =
            by_test s.line (λ (y : Turn). y) _ _ _ _ _ _ (first Var) (λ t. var_on_lem)
            (λ t. var_done_lem d _ _ (collected Var _ _ (extent Var)) (Gathers.collected_long Var _ l) f kept fits (omega arith))
