-- Every step of the whole-file answer says nothing, gives a bare E, or ends an ESI or a batch; the table stays sound, and an open frame's
-- one-time key is eight bytes.
-- Assumes nothing.
use Rattle.std.specs.Prelude.{None, Option, Some}
use Prim.Native.Nat.{ℕ, ◌<◌, ◌^◌}
use mathlib.Core.Path.{◌≡◌, refl, sym, ap, ◌∙◌, subst}
use mathlib.Core.Bool.{Bool, true, false, false≢true}
use mathlib.Core.List.{List, [], ◌∷◌, ◌++◌, append-nil}
use native.Mathlib.Omega.{arith}
use lib.ListN.{length}
use Rattle.ground.specs.Choice.{either}
use Rattle.ground.specs.Lists.{member}
use Rattle.ground.proofs.Bools.{picked_each}
use Rattle.ground.proofs.Lists.{one_is, one_not_none}
use Rattle.calendar.specs.Dates.{real_date}
use Rattle.des.proofs.Inverse.{deciphered-lt}
use Rattle.table.specs.Table.{Table, sound_table}
use Rattle.table.specs.Written.{written}
use Rattle.table.specs.Decode.{is_table}
use Rattle.table.proofs.Decode.{rewritten_is}
use Rattle.message.specs.Layout.{field, no_field}
use Rattle.message.specs.declared.Kind.{Kind}
use Rattle.message.specs.declared.Kind.TheVariants.{Esi, Suo, Var}
use Rattle.message.specs.declared.Extent.{Extent}
use Rattle.message.specs.declared.Extent.TheVariants.{Whole, CutShort}
use Rattle.message.specs.declared.Collected.{Collected}
use Rattle.checks.specs.Checks.{key_or0}
use Rattle.checks.specs.declared.Frame.{Frame}
use Rattle.verdict.specs.Outcomes.{esi_table, frame_table}
use Rattle.verdict.proofs.Leaves.{esi_leaves_table, frame_leaves_table}
use Rattle.reply.specs.Reply.{reply_of}
use Rattle.reply.specs.declared.Answering.{Answering}
use Rattle.answers.specs.Answers.{bare_answer}
use Rattle.opening.specs.declared.Opening.{Opening}
use Rattle.whole_file.specs.Records.{Item, line, past_size}
use Rattle.whole_file.specs.Messages.{extent_of, known_text, collected_as, one_time, one_time_of, once_of}
use Rattle.whole_file.specs.WholeFile.{Opened, Situation, before_esi, collecting_esi, outside, collecting_suo, in_frame, collecting_var, closed}
use Rattle.whole_file.specs.WholeFile.{Standing, Step, moved, silent, replies, esi_says, pte_says, occasion, after_esi, esi_ends, suo_ends, frame_of}
use Rattle.whole_file.specs.WholeFile.{var_ends, esi_goes_on, suo_goes_on, var_goes_on, esi_starts, suo_starts, var_starts, first_record, outside_record}
use Rattle.whole_file.specs.WholeFile.{with_record, frame_record, record_in, past_in, end_in, at_start}
use Rattle.whole_file.proofs.Known.{known_length}
use Rattle.desk_bytes.specs.Bytes.{held_in}
use Rattle.law_history.specs.History.{reading_codes}
use Rattle.law_history.proofs.Codes.{is_accepted, reading_e}
use Rattle.calls.specs.Reading.{opening_answer}
use Rattle.law_protocol.proofs.Opened.{opening_served, day_sound}
use Rattle.law_desk.specs.Desks.{FrameAt, item_step, next_step, next_chars, message_at, ending_at, opens_on, PassesDesks, esi_passes, pte_passes}
use Rattle.law_desk.proofs.Ends.{esi_ends_pass, var_ends_pass}
use Rattle.law_desk.proofs.Called.{esi_called, pte_called}

-- ---- what holds between two records

-- an open frame has a SUO's characters, and a one-time key of eight bytes, or none
abbrev pub Framed : Opened → Type 0
Framed f = (length f.suo.text ≡ 161) × (key_or0 f.once < 2 ^ 64)

abbrev pub Fit : Situation → Type 0
Fit before_esi = Unit {0}
Fit (collecting_esi chars) = Unit {0}
Fit (outside told) = Unit {0}
Fit (collecting_suo chars) = Unit {0}
Fit (in_frame f) = Framed f
Fit (collecting_var chars f) = Framed f
Fit closed = Unit {0}

-- ---- what a step is

-- it leaves the table
pub record Leaves (s : Standing) (x : Step) : Type 0 where
  pub table : x.after.table ≡ s.table
  pub fit : Fit x.after.situation

-- a message that ends has these characters
pub data Steps (o : Opening) (s : Standing) (chars : List ℕ) (x : Step) : Type 0 where
  quiet : x.says ≡ [] → Leaves s x → Steps o s chars x
  bare : (pte : Bool) (code n : ℕ) (shown : List ℕ) → x.says ≡ bare_answer s.table o pte code n shown ∷ []
      → member code reading_codes ≡ true → Leaves s x → Steps o s chars x
  esi : (m : Collected) → m.text ≡ known_text Esi chars → x ≡ esi_ends o s m → Steps o s chars x
  frame : (f : Opened) (m : Collected) → Framed f → FrameAt s.situation f → m.text ≡ known_text Var chars → x ≡ var_ends o s f m
      → Steps o s chars x

collected_known : (k : Kind) (e : Extent) (chars : List ℕ) → (collected_as k e chars).text ≡ known_text k chars
unfolding collected_as
collected_known k e chars = refl

collected_long : (k : Kind) (e : Extent) (chars : List ℕ) → length (collected_as k e chars).text ≡ 161
collected_long k e chars = ap length (collected_known k e chars) ∙ known_length k chars

pub text_long : (k : Kind) (m : Collected) (chars : List ℕ) → m.text ≡ known_text k chars → length m.text ≡ 161
text_long k m chars e = ap length e ∙ known_length k chars

-- ---- the one-time key

one_time-lt : (k : Option ℕ) (suo : List ℕ) → key_or0 (one_time k suo) < 2 ^ 64
unfolding one_time key_or0
one_time-lt None suo = omega arith
one_time-lt (Some t) suo = deciphered-lt t _

once_lt : (t : Table) (m : Collected) → key_or0 (once_of t m) < 2 ^ 64
unfolding once_of one_time_of key_or0
once_lt t m = picked_each (λ (k : Option ℕ). key_or0 k < 2 ^ 64) _ _ _ (one_time-lt _ m.text) (omega arith)

module _ (o : Opening) (s : Standing) where
  moves : (z : Situation) → Fit z → Leaves s (silent (moved s z))
  unfolding silent moved
  moves z f = record { table = refl; fit = f }

  quiet_at : (z : Situation) → Fit z → {chars : List ℕ} → Steps o s chars (silent (moved s z))
  unfolding silent moved
  quiet_at z f = quiet refl (record { table = refl; fit = f })

  -- a SUO opens a frame, or goes on
  record Opens (x : Step) : Type 0 where
    nothing : x.says ≡ []
    leaves : Leaves s x

  suo_ends_lem : (m : Collected) → length m.text ≡ 161 → Opens (suo_ends s m)
  unfolding suo_ends silent moved
  suo_ends_lem m l = record { nothing = refl; leaves = record { table = refl; fit = (l, once_lt s.table m) } }

  suo_on_lem : (chars : List ℕ) → Opens (suo_goes_on s chars)
  unfolding suo_goes_on silent moved
  suo_on_lem chars =
      picked_each Opens _ _ _ (record { nothing = refl; leaves = record { table = refl; fit = tt } })
      (suo_ends_lem (collected_as Suo Whole chars) (collected_long Suo Whole chars))

  suo_starts_lem : (chars : List ℕ) → Opens (suo_starts s chars)
  unfolding suo_starts
  suo_starts_lem chars =
      picked_each Opens _ _ _ (suo_on_lem chars) (suo_ends_lem _ (collected_long Suo (extent_of Suo chars) chars))

  opens : (x : Step) → Opens x → {chars : List ℕ} → Steps o s chars x
  opens x p = quiet p.nothing p.leaves

  -- bare replies
  esi-bare : (code n : ℕ) (shown : List ℕ) → member code reading_codes ≡ true → {chars : List ℕ}
      → Steps o s chars (esi_says o s code n shown (moved s closed))
  unfolding esi_says replies moved
  esi-bare code n shown m = bare false code n shown refl m (record { table = refl; fit = tt })

  pte_bare : (code : ℕ) (after : Standing) → member code reading_codes ≡ true → after.table ≡ s.table → Fit after.situation
      → {chars : List ℕ} → Steps o s chars (pte_says o s code after)
  unfolding pte_says replies
  pte_bare code after m t f = bare true code no_field [] refl m (record { table = t; fit = f })

  -- an ESI, a VAR
  esi_on_lem : (chars : List ℕ) → Steps o s chars (esi_goes_on o s chars)
  unfolding esi_goes_on
  esi_on_lem chars = picked_each (Steps o s chars) _ _ _ (quiet_at _ tt) (esi _ (collected_known Esi Whole chars) refl)

  esi_starts_lem : (chars : List ℕ) → Steps o s chars (esi_starts o s chars)
  unfolding esi_starts
  esi_starts_lem chars =
      picked_each (Steps o s chars) _ _ _ (esi_on_lem chars) (esi _ (collected_known Esi (extent_of Esi chars) chars) refl)

  module _ (f : Opened) (k : Framed f) (at : FrameAt s.situation f) where
    var_on_lem : (chars : List ℕ) → Steps o s chars (var_goes_on o s f chars)
    unfolding var_goes_on
    var_on_lem chars = picked_each (Steps o s chars) _ _ _ (quiet_at _ k) (frame f _ k at (collected_known Var Whole chars) refl)

    var_starts_lem : (chars : List ℕ) → Steps o s chars (var_starts o s f chars)
    unfolding var_starts
    var_starts_lem chars =
        picked_each (Steps o s chars) _ _ _ (var_on_lem chars) (frame f _ k at (collected_known Var (extent_of Var chars) chars) refl)

    frame_steps : (chars : List ℕ) → Steps o s chars (frame_record o s f chars)
    unfolding frame_record member either moved with_record
    frame_steps chars =
        let u = (suo_starts_lem chars).leaves in
        picked_each (Steps o s chars) _ _ _ (var_starts_lem chars)
        (picked_each (Steps o s chars) _ _ _ (pte_bare 1024 (suo_starts s chars).after refl u.table u.fit)
        (picked_each (Steps o s chars) _ _ _ (pte_bare 1024 (moved s closed) refl refl tt) (quiet_at _ k)))

  -- ---- a record, by where the reading stands

  first_steps : (chars : List ℕ) → Steps o s chars (first_record o s chars)
  unfolding first_record member either
  first_steps chars = picked_each (Steps o s chars) _ _ _ (esi_starts_lem chars) (esi-bare 1010 (field 1) chars refl)

  module _ (stays : Fit s.situation) where
    itself : {chars : List ℕ} → Steps o s chars (silent s)
    unfolding silent
    itself = quiet refl (record { table = refl; fit = stays })

    outside_steps : (told : Bool) (chars : List ℕ) → Steps o s chars (outside_record o s told chars)
    unfolding outside_record member either moved
    outside_steps told chars =
        picked_each (Steps o s chars) _ _ _ (opens _ (suo_starts_lem chars))
        (picked_each (Steps o s chars) _ _ _ (esi-bare 1011 (field 1) chars refl)
        (picked_each (Steps o s chars) _ _ _ itself (pte_bare 1023 (moved s (outside true)) refl refl tt)))

  pub record_steps : (z : Situation) → Fit z → s.situation ≡ z → (chars : List ℕ) → Steps o s (message_at z chars) (record_in o s z chars)
  unfolding record_in message_at
  record_steps before_esi f e chars = first_steps chars
  record_steps (collecting_esi sofar) f e chars = esi_on_lem (sofar ++ chars)
  record_steps (outside told) f e chars = outside_steps (subst Fit (sym e) f) told chars
  record_steps (collecting_suo sofar) f e chars = opens _ (suo_on_lem (sofar ++ chars))
  record_steps (in_frame g) k e chars = frame_steps g k (subst (λ (y : Situation). FrameAt y g) (sym e) refl) chars
  record_steps (collecting_var sofar g) k e chars = var_on_lem g k (subst (λ (y : Situation). FrameAt y g) (sym e) refl) (sofar ++ chars)
  record_steps closed f e chars = itself (subst Fit (sym e) f)

  -- a byte past the size limit
  pub past_steps : (z : Situation) → Fit z → s.situation ≡ z → Steps o s (message_at z []) (past_in o s z)
  unfolding past_in member either moved
  past_steps before_esi f e = esi-bare 1034 no_field [] refl
  past_steps (collecting_esi sofar) f e = esi-bare 1034 no_field [] refl
  past_steps (outside told) f e = pte_bare 1034 (moved s closed) refl refl tt
  past_steps (collecting_suo sofar) f e = pte_bare 1034 (moved s closed) refl refl tt
  past_steps (in_frame g) f e = pte_bare 1034 (moved s closed) refl refl tt
  past_steps (collecting_var sofar g) f e = pte_bare 1034 (moved s closed) refl refl tt
  past_steps closed f e = itself (subst Fit (sym e) f)

  -- the end of the file
  pub end_steps : (z : Situation) → Fit z → s.situation ≡ z → Steps o s (message_at z []) (end_in o s z)
  unfolding end_in member either moved message_at
  end_steps before_esi f e = itself (subst Fit (sym e) f)
  end_steps (collecting_esi sofar) f e =
      esi _ (collected_known Esi CutShort sofar ∙ ap (known_text Esi) (sym (append-nil sofar))) refl
  end_steps (outside told) f e = itself (subst Fit (sym e) f)
  end_steps (collecting_suo sofar) f e = pte_bare 1032 (moved s closed) refl refl tt
  end_steps (in_frame g) f e = pte_bare 1024 (moved s closed) refl refl tt
  end_steps (collecting_var sofar g) k e =
      frame g _ k (subst (λ (y : Situation). FrameAt y g) (sym e) refl)
      (collected_known Var CutShort sofar ∙ ap (known_text Var) (sym (append-nil sofar))) refl
  end_steps closed f e = itself (subst Fit (sym e) f)

  -- the next item's, or the end's
  pub next_steps : Fit s.situation → (left : List Item) → Steps o s (ending_at s left) (next_step o s left)
  unfolding next_step item_step next_chars
  next_steps f [] = end_steps s.situation f refl
  next_steps f (line r ∷ l) = record_steps s.situation f refl r.chars
  next_steps f (past_size at ∷ l) = past_steps s.situation f refl

-- ---- the table stays sound

-- the bytes b are a table, and today is real
module _ (b : List ℕ) (o : Opening) (is : is_table b ≡ true) (real : real_date o.today.yymmdd ≡ true) where
  pub record Good (s : Standing) : Type 0 where
    pub sound : sound_table s.table ≡ true
    pub fit : Fit s.situation

  -- a sound table can be written as bytes, of which the laws of a verdict speak
  esi_keeps : (t : Table) (made : ℕ) (m : Collected) → sound_table t ≡ true → length m.text ≡ 161
      → sound_table (esi_table t (occasion o made) m) ≡ true
  unfolding occasion
  esi_keeps t made m s l =
      let r = rewritten_is b t is s in
      subst (λ (u : Table). sound_table (esi_table u (occasion o made) m) ≡ true) r.1
      (esi_leaves_table (written b t) (occasion o made) m r.0 real l).1

  frame_keeps : (t : Table) (made : ℕ) (f : Frame) → sound_table t ≡ true → length f.suo.text ≡ 161 → key_or0 f.once < 2 ^ 64
      → sound_table (frame_table t (occasion o made) f) ≡ true
  unfolding occasion
  frame_keeps t made f s l w =
      let r = rewritten_is b t is s in
      subst (λ (u : Table). sound_table (frame_table u (occasion o made) f) ≡ true) r.1
      (frame_leaves_table (written b t) (occasion o made) f r.0 real l w).1

  fit_after : (t : Bool) → Fit (after_esi t)
  unfolding after_esi
  fit_after true = tt
  fit_after false = tt

  leaves_good : (s : Standing) (x : Step) → Good s → Leaves s x → Good x.after
  leaves_good s x g l = record { sound = ap sound_table l.table ∙ g.sound; fit = l.fit }

  good_esi : (s : Standing) (m : Collected) → Good s → length m.text ≡ 161 → Good (esi_ends o s m).after
  unfolding esi_ends replies
  good_esi s m g l = record { sound = esi_keeps s.table s.made m g.sound l; fit = fit_after _ }

  good_frame : (s : Standing) (f : Opened) (m : Collected) → Good s → Framed f → Good (var_ends o s f m).after
  unfolding var_ends replies frame_of
  good_frame s f m g k = record { sound = frame_keeps s.table s.made (frame_of f m) g.sound k.0 k.1; fit = tt }

  step_good : (s : Standing) (chars : List ℕ) (x : Step) → Good s → Steps o s chars x → Good x.after
  step_good s chars x g (quiet q l) = leaves_good s x g l
  step_good s chars x g (bare pte code n shown q m l) = leaves_good s x g l
  step_good s chars x g (esi m t e) =
      subst (λ (y : Step). Good y.after) (sym e) (good_esi s m g (text_long Esi m chars t))
  step_good s chars x g (frame f m k at t e) = subst (λ (y : Step). Good y.after) (sym e) (good_frame s f m g k)

  pub next_good : (s : Standing) → Good s → (left : List Item) → Good (next_step o s left).after
  next_good s g left = step_good s (ending_at s left) (next_step o s left) g (next_steps o s g.fit left)

  -- ---- a reply with K

  module _ (s : Standing) (g : Good s) (left : List Item) (a : Answering) (k : is_accepted a.code ≡ true) where
    bare_not : (pte : Bool) (code n : ℕ) (shown : List ℕ) → member code reading_codes ≡ true
        → a ≡ bare_answer s.table o pte code n shown → ⊥
    unfolding bare_answer
    bare_not pte code n shown m e =
        false≢true (sym (reading_e code m) ∙ ap is_accepted (sym (ap (λ (y : Answering). y.code) e)) ∙ k)

    passes : Steps o s (ending_at s left) (next_step o s left) → (next_step o s left).says ≡ a ∷ [] → PassesDesks o s left (reply_of a)
    passes (quiet q l) p = absurd (one_not_none _ a q p)
    passes (bare pte code n shown q m l) p = absurd (bare_not pte code n shown m (one_is _ _ (sym p ∙ q)))
    passes (esi m t e) p =
        esi_passes m e t
        (λ held word first room w q same. esi_called held word first room w m.text (reply_of a) _ _ q
        (esi_ends_pass o s m a (held_in held) g.sound (text_long Esi m _ t) (ap (λ (y : Step). y.says) (sym e) ∙ p) k same))
    passes (frame f m c at t e) p =
        pte_passes f m e at t
        (λ held word first closing room w q j same. pte_called held word first closing room w f.suo.text m.text (reply_of a) _ _ q j
        (var_ends_pass o s f m a (held_in held) g.sound c.0 (text_long Var m _ t) (ap (λ (y : Step). y.says) (sym e) ∙ p) k same))

    pub next_passes : (next_step o s left).says ≡ a ∷ [] → PassesDesks o s left (reply_of a)
    next_passes p = passes (next_steps o s g.fit left) p

-- ---- at a file's start

pub start_good : (b : List ℕ) (o : Opening) (z : opening_answer b o ≡ 0)
    → Good b o (opening_served b o z).table (opening_served b o z).real (at_start (opens_on b o))
unfolding at_start
start_good b o z = record { sound = day_sound b o z; fit = tt }
