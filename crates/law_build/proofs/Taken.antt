-- A record that begins with its kind's tag, states its kind's length and has it is taken as a whole message; the call that built it found no
-- fault in its form.
-- Assumes nothing.
use Rattle.std.specs.Prelude.{Err, Ok, Result}
use mathlib.Core.Path.{◌≡◌, refl, sym, ap, ◌∙◌}
use mathlib.Core.Bool.{Bool, true, false}
use mathlib.Core.List.{List, [], ◌∷◌}
use Prim.Native.Nat.{ℕ, ◌≤◌}
use Prim.Native.String.{String}
use native.Mathlib.Omega.{arith}
use borrow.Author.Tests.{le-ltb, ltb-false}
use lib.ListN.{length, drop, drop_of_length-le}
use Rattle.ground.specs.Choice.{both, pick, between}
use Rattle.ground.specs.Lists.{all, same}
use Rattle.ground.proofs.Choices.{picks, skips, fails-false, between_in}
use Rattle.ground.proofs.Bools.{not_failed, neither}
use Rattle.ground.proofs.Parts.{part_start}
use Rattle.text.specs.Characters.{digit, all_blank}
use Rattle.text.specs.Numbers.{digit_value, decimal_from, decimal}
use Rattle.text.specs.Letters.{letters}
use Rattle.message.specs.Layout.{Field, field_text, offset_in, width_in, total, layout, layout_length}
use Rattle.message.specs.Order.{first_failing}
use Rattle.message.specs.Rules.{Form, form_of, form_checks, each_field}
use Rattle.message.specs.declared.Kind.{Kind}
use Rattle.message.specs.declared.Kind.TheVariants.{Esi, Suo, Var}
use Rattle.message.specs.declared.Extent.TheVariants.{Whole}
use Rattle.message.specs.declared.About.{About}
use Rattle.message.specs.declared.About.TheVariants.{Answered}
use Rattle.message.specs.declared.Fault.{Fault}
use Rattle.message.specs.declared.Collected.{Collected}
use Rattle.message.proofs.Order.{NoneFails, none_left, none_right}
use Rattle.verdict.specs.Outcomes.{is_sound}
use Rattle.refusals.specs.Refusals.{refusal, lowest}
use Rattle.refusals.proofs.Refused.{served}
use Rattle.whole_file.specs.Messages.{begins, extent_of, is_whole, wanted_length, wants_more, known_text, collected_as}
use Rattle.desk.specs.declared.Held.{Held}
use Rattle.law_desk.proofs.Form.{none_join}
use Rattle.build.specs.Messages.{tag_of, size_of}
use Rattle.build.specs.Building.{breaks_rules, other_generation, building_refusals}
use Rattle.build.proofs.Known.{known_whole}
use Rattle.law_build.proofs.Fields.{States}

-- a whole message, and one by its known characters
abbrev pub collected : List ℕ → Collected
collected text = record { extent = Whole; blank = true; text = text }

abbrev pub whole : Kind → List ℕ → Collected
whole k m = collected (known_text k m)

-- ---- what each kind states

size_states : (k : Kind) → decimal (size_of k) ≡ layout_length k
unfolding size_of letters decimal_from digit_value between both pick layout_length layout total
size_states Esi = refl
size_states Suo = refl
size_states Var = refl

size_digits : (k : Kind) → all digit (size_of k) ≡ true
unfolding size_of letters all between both
size_digits Esi = refl
size_digits Suo = refl
size_digits Var = refl

layout-between : (k : Kind) → (11 ≤ layout_length k) × (layout_length k ≤ 500)
unfolding layout_length layout total
layout-between Esi = (omega arith, omega arith)
layout-between Suo = (omega arith, omega arith)
layout-between Var = (omega arith, omega arith)

-- ---- a record that states its length and has it

module _ (k : Kind) (m : List ℕ) (states : States k m) where
  stated : decimal (field_text 20 m) ≡ layout_length k
  stated = ap decimal states.size ∙ size_states k

  extent_is : extent_of k m ≡ Whole
  unfolding extent_of
  extent_is =
      let b = layout-between k in
      skips _ _ _ (le-ltb (length m) 11 (omega (arith, b.0, states.long)))
      ∙ skips _ _ _ (not_failed _ (ap (all digit) states.size ∙ size_digits k))
      ∙ skips _ _ _ (not_failed _ (ap (between (layout_length k) 500) stated ∙ between_in _ 500 _ (omega arith) b.1))

  wanted_is : wanted_length m ≡ length m
  unfolding wanted_length
  wanted_is = omega (arith, stated, (layout-between k).1, states.long)

  no_more : wants_more m ≡ false
  unfolding wants_more
  no_more = le-ltb (length m) (wanted_length m) (omega (arith, wanted_is))

  none_over : all_blank (drop (wanted_length m) m) ≡ true
  unfolding all
  none_over = ap all_blank (drop_of_length-le m {i = wanted_length m} (omega (arith, wanted_is)))

  collected_is : collected_as k Whole m ≡ whole k m
  unfolding collected_as
  collected_is = ap (λ (b : Bool). record { extent = Whole; blank = b; text = known_text k m }) none_over

  pub taken_whole : {A : Type 0} (more other : A) (ends : Collected → A)
      → pick (is_whole (extent_of k m)) (pick (wants_more m) more (ends (collected_as k Whole m))) other ≡ ends (whole k m)
  unfolding is_whole
  taken_whole more other ends = picks _ _ _ (ap is_whole extent_is) ∙ skips _ _ _ no_more ∙ ap ends collected_is

  -- an ESI or a VAR is its own known characters
  pub whole_is : layout_length k ≡ 161 → whole k m ≡ collected m
  whole_is e = ap collected (sym (known_whole k m e (states.long ∙ e)))

  pub begins_as : (s : String) → begins s m ≡ same (tag_of k) (letters s)
  unfolding begins field_text offset_in width_in pick
  begins_as s = ap (λ (x : List ℕ). same x (letters s)) (sym (part_start m 5) ∙ states.tag)

-- ---- its form

sound_is : (f : Result Unit Fault) → is_sound f ≡ true → f ≡ Ok tt
unfolding is_sound
sound_is (Ok _) e = refl
sound_is (Err fault) e = let z : ◌≡◌ {A = Bool} false true = e in cc

pub form_sound : (k : Kind) (m : List ℕ) → breaks_rules k m ≡ false → first_failing (form_checks (form_of k) Answered (whole k m)) ≡ Ok tt
unfolding breaks_rules
form_sound k m e = sound_is _ (fails-false _ e)

-- whichever message it is about
each_about : (code : ℕ) (a b : About) (broken : ℕ → Bool) (fs : List Field) → NoneFails (each_field code a broken fs)
    → NoneFails (each_field code b broken fs)
unfolding each_field
each_about code a b broken [] n = tt
each_about code a b broken (f ∷ fs) n = (n.0, each_about code a b broken fs n.1)

pub form_about : (form : Form) (a b : About) (m : Collected) → NoneFails (form_checks form a m) → NoneFails (form_checks form b m)
unfolding form_checks
form_about form a b m n =
    let r = none_right (each_field 1010 a _ form.fields) (each_field 1011 a _ form.fields) n.1 in (
      n.0,
      none_join (each_field 1010 b _ form.fields) _
          (each_about 1010 a b _ form.fields (none_left (each_field 1010 a _ form.fields) _ n.1))
          (each_about 1011 a b _ form.fields r),
    )

-- ---- what a call that is served has found

pub record Well (k : Kind) (h : Held) (m : List ℕ) : Type 0 where
  pub transport : h.transport.generation ≤ 9
  pub working : h.working.generation ≤ 9
  pub form : first_failing (form_checks (form_of k) Answered (whole k m)) ≡ Ok tt

pub served_well : (k : Kind) (h : Held) (m : List ℕ) → lowest (building_refusals k h m) ≡ 0 → Well k h m
unfolding building_refusals other_generation
served_well k h m e =
    let p = served 11 (other_generation h) (refusal 13 (breaks_rules k m) ∷ []) refl e in
    let q = served 13 (breaks_rules k m) [] refl p.1 in
    let g = neither _ _ p.0 in
    record {
      transport = ltb-false 9 _ g.0;
      working = ltb-false 9 _ g.1;
      form = form_sound k m q.0;
    }
