-- Each arm makes the test of the rule that names the field, and no rule names any other.
use mathlib.Core.Path.{refl, sym, ap, ap₂, ◌∙◌}
use mathlib.Core.List.{[], ◌∷◌}
use lib.Dec.{eqb, lit≤}
use Rattle.ground.specs.Choice.{both, either, fails, pick}
use Rattle.ground.specs.Lists.{same}
use Rattle.ground.proofs.Bools.{not-fails, turned}
use Rattle.text.specs.Characters.{all_blank}
use Rattle.text.specs.Numbers.{decimal}
use Rattle.text.specs.Letters.{letters}
use Rattle.calendar.specs.Dates.{real_date, real_time}
use Rattle.message.specs.Layout.{width_in}
use Rattle.message.specs.Rules.{only, one_of, obeys}
use Rattle.message.proofs.Places.{named_whole, named_fits}
use Rattle.desk_form.specs.Replies.{reply_size, encloses, both_rules}
use Rattle.desk_form.proofs.Tests.{asked_in, unasked_in}
use Rattle.desk_form.proofs.both_hold.Goals as goal

pub overflow_cast-d : goal.overflow_cast-d
unfolding width_in pick
overflow_cast-d c =
    record {
      fits = named_fits 121 _ c.args.text.now c.in-121.is c.requires _ c.number-in-121.ensures (lit≤ tt);
    }

pub overflow_cast-number : goal.overflow_cast-number
unfolding width_in pick
overflow_cast-number c =
    record {
      fits = named_fits 122 _ c.args.text.now c.in-122.is c.requires _ c.number-in-122.ensures (lit≤ tt);
    }

pub returns-in-20 : goal.returns-in-20
unfolding both_rules obeys both either fails width_in pick
returns-in-20 c r q x =
    ap₂ eqb (named_whole 20 _ _ c.in-20.is c.requires _ c.number.ensures (lit≤ tt)) c.size_of.ensures
    ∙ asked_in both_rules _ _ _ r _ q refl 20 (λ text. eqb (decimal text) (reply_size c.args.k)) c.in-20.is refl

pub returns-in-30 : goal.returns-in-30
unfolding both_rules letters obeys both either fails
returns-in-30 c r q x =
    c.one_of.ensures
    ∙ asked_in both_rules _ _ _ r _ q refl 30 (one_of (letters "110" ∷ letters "120" ∷ [])) c.in-30.is refl

pub returns-in-40 : goal.returns-in-40
unfolding both_rules letters obeys both either fails
returns-in-40 c r q x =
    c.one_of-in-40.ensures
    ∙ asked_in both_rules _ _ _ r _ q refl 40 (one_of (letters "K" ∷ letters "E" ∷ [])) c.in-40.is refl

pub returns-in-60 : goal.returns-in-60
unfolding both_rules obeys both either fails
returns-in-60 c r q x =
    turned c.all_blank.ensures ∙ asked_in both_rules _ _ _ r _ q refl 60 (λ text. fails (all_blank text)) c.in-60.is refl

pub returns-in-70 : goal.returns-in-70
unfolding both_rules letters obeys both either fails
returns-in-70 c r q x =
    c.same_bytes.ensures ∙ asked_in both_rules _ _ _ r _ q refl 70 (same (letters "SMH")) c.in-70.is refl

pub returns-in-121 : goal.returns-in-121
unfolding both_rules obeys both either fails width_in pick
returns-in-121 c r q x =
    c.is_real.ensures
    ∙ ap real_date (named_whole 121 _ _ c.in-121.is c.requires _ c.number-in-121.ensures (lit≤ tt))
    ∙ asked_in both_rules _ _ _ r _ q refl 121 (λ text. real_date (decimal text)) c.in-121.is refl

pub returns-in-122 : goal.returns-in-122
unfolding both_rules obeys both either fails width_in pick
returns-in-122 c r q x =
    c.is_real_time.ensures
    ∙ ap real_time (named_whole 122 _ _ c.in-122.is c.requires _ c.number-in-122.ensures (lit≤ tt))
    ∙ asked_in both_rules _ _ _ r _ q refl 122 (λ text. real_time (decimal text)) c.in-122.is refl

pub returns-in-140 : goal.returns-in-140
unfolding both_rules obeys both either fails
returns-in-140 c r q x = c.all_blank-in-140.ensures ∙ asked_in both_rules _ _ _ r _ q refl 140 all_blank c.in-140.is refl

pub returns-in-180 : goal.returns-in-180
unfolding both_rules letters obeys both either fails
returns-in-180 c r q x =
    c.one_of-in-180.ensures
    ∙ asked_in both_rules _ _ _ r _ q refl 180 (one_of (letters "0" ∷ letters "1" ∷ [])) c.in-180.is refl

pub returns-in-190 : goal.returns-in-190
unfolding both_rules obeys both either fails
returns-in-190 c r q x =
    c.only_if.ensures
    ∙ ap₂ only (not-fails c.args.enclosed ∙ ap fails (sym x)) c.all_blank-in-190.ensures
    ∙ asked_in both_rules _ _ _ r _ q refl 190 (λ text. only (fails (encloses r)) (all_blank text)) c.in-190.is refl

pub returns-in_default : goal.returns-in_default
unfolding both_rules
returns-in_default c r q x =
    let rest = c.in_default.in_default-own.rest in
    let upto-122 = rest.0.0.0 in
    let upto-70 = upto-122.0.0 in
    unasked_in both_rules _ _ _ r refl (
      upto-70.0.0.0.0.1,
      (
        upto-70.0.0.0.1,
        (
          upto-70.0.0.1,
          (
            upto-70.0.1,
            (upto-70.1, (upto-122.0.1, (upto-122.1, (rest.0.0.1, (rest.0.1, (rest.1, tt)))))),
          ),
        ),
      ),
    )
