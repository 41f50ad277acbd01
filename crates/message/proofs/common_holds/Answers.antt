-- Each arm makes the test of the rule that names the field, and no rule names any other.
use mathlib.Core.Path.{refl, ap, ◌∙◌}
use mathlib.Core.Logic.{⊎_elim, inl, inr}
use lib.Dec.{lit≤}
use Rattle.ground.specs.Choice.{both, either, fails, pick}
use Rattle.ground.specs.Lists.{same}
use Rattle.ground.proofs.Bools.{not-fails}
use Rattle.text.specs.Characters.{all_blank}
use Rattle.text.specs.Numbers.{decimal}
use Rattle.text.specs.Letters.{letters}
use Rattle.calendar.specs.Dates.{real_date, real_time}
use Rattle.message.specs.Layout.{width_in}
use Rattle.message.specs.Rules.{one_of, methods, common_rules, obeys}
use Rattle.message.proofs.Places.{named_whole, named_fits}
use Rattle.message.proofs.Tests.{asked, unasked}
use Rattle.message.proofs.common_holds.Goals as goal

pub overflow_cast-d : goal.overflow_cast-d
unfolding width_in pick
overflow_cast-d c =
    record {
      fits = named_fits 121 _ c.args.text.now c.in-121.is c.requires _
          c.number.ensures (lit≤ tt);
    }

pub overflow_cast-number : goal.overflow_cast-number
unfolding width_in pick
overflow_cast-number c =
    record {
      fits = named_fits 122 _ c.args.text.now c.in-122.is c.requires _
          c.number-in-122.ensures (lit≤ tt);
    }

pub returns-in-40 : goal.returns-in-40
unfolding common_rules obeys both either fails
returns-in-40 c m q =
    c.all_blank.ensures
    ∙ ⊎_elim (λ e. asked common_rules _ _ _ m _ q refl 40 all_blank e refl) (λ e. asked common_rules _ _ _ m _ q refl 140 all_blank e refl)
    c.in-40.is

pub returns-in-50 : goal.returns-in-50
unfolding common_rules letters obeys both either fails
returns-in-50 c m q = c.same_bytes.ensures ∙ asked common_rules _ _ _ m _ q refl 50 (same (letters "0000"))
    c.in-50.is refl

pub returns-in-60 : goal.returns-in-60
unfolding common_rules obeys both either fails
returns-in-60 c m q =
    not-fails c.all_blank-in-60.result
    ∙ ap fails c.all_blank-in-60.ensures
    ∙ asked common_rules _ _ _ m _ q refl 60 (λ text. fails (all_blank text)) c.in-60.is refl

pub returns-in-70 : goal.returns-in-70
unfolding common_rules obeys both either fails
returns-in-70 c m q = c.method_holds.ensures ∙ asked common_rules _ _ _ m _ q refl 70 (one_of (methods _)) c.in-70.is refl

pub returns-in-121 : goal.returns-in-121
unfolding common_rules obeys both either fails width_in pick
returns-in-121 c m q =
    c.is_real.ensures
    ∙ ap real_date
    (named_whole 121 _ _ c.in-121.is c.requires _ c.number.ensures (lit≤ tt))
    ∙ asked common_rules _ _ _ m _ q refl 121 (λ text. real_date (decimal text)) c.in-121.is refl

pub returns-in-122 : goal.returns-in-122
unfolding common_rules obeys both either fails width_in pick
returns-in-122 c m q =
    c.is_real_time.ensures
    ∙ ap real_time
    (named_whole 122 _ _ c.in-122.is c.requires _ c.number-in-122.ensures (lit≤ tt))
    ∙ asked common_rules _ _ _ m _ q refl 122 (λ text. real_time (decimal text)) c.in-122.is refl

pub returns-in_default : goal.returns-in_default
unfolding common_rules
returns-in_default c m q = unasked common_rules _ _ _ m refl (
  λ e. c.in_default.in_default-own.rest.0.0.0.0.0.1 (inl e),
  (
    c.in_default.in_default-own.rest.0.0.0.0.1,
    (
      c.in_default.in_default-own.rest.0.0.0.1,
      (
        c.in_default.in_default-own.rest.0.0.1,
        (c.in_default.in_default-own.rest.0.1, (c.in_default.in_default-own.rest.1, (λ e. c.in_default.in_default-own.rest.0.0.0.0.0.1 (inr e), tt))),
      ),
    ),
  ),
)
