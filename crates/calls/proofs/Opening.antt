-- Of an opening's conditions the lowest that holds is answered, and where none does today's date is stored and a new file begins.
-- Assumes nothing.
use Prim.Native.Nat.{ℕ, ◌≤◌}
use mathlib.Core.Path.{◌≡◌, refl, sym, ap, ap₂, ◌∙◌}
use mathlib.Core.Bool.{true, false}
use mathlib.Core.List.{List, [], ◌∷◌}
use borrow.Author.Tests.{eq-eqb, ne_eqb}
use Rattle.ground.specs.Choice.{fails, between}
use Rattle.ground.proofs.Choices.{picks, skips, between_in, fails-false}
use Rattle.ground.proofs.Bools.{either_none}
use Rattle.calendar.specs.Dates.{real_time}
use Rattle.table.specs.Decode.{is_table, table_of}
use Rattle.table.specs.Stored.{day_stored}
use Rattle.table.proofs.Stores.{day_is}
use Rattle.refusals.specs.Refusals.{lowest, no_table, bad_day}
use Rattle.refusals.proofs.Refused.{lowest_next, none_left, served}
use Rattle.table_calls.proofs.Rewritten.{served_leaves, refused_as}
use Rattle.opening.specs.declared.Opening.{Opening}
use Rattle.session.specs.Machine.{opened, unopened}
use Rattle.session.specs.declared.Session.{Session}
use Rattle.calls.specs.Reading.{opening_refusals, opening_answer, opening_gives, opening_leaves}
use Rattle.calls.specs.Promises.{MeetsOpen}

module _ (b : List ℕ) (o : Opening) where
  -- ---- the conditions, in the order of their numbers

  module _ (e : is_table b ≡ true) where
    module _ (d : bad_day (table_of b) o.today ≡ false) where
      module _ (t : real_time o.time ≡ true) where
        good_moment : opening_answer b o ≡ lowest (record { number = 11; holds = fails (between 1 16 o.kind) } ∷ [])
        unfolding opening_answer opening_refusals no_table fails
        good_moment = lowest_next _ _ (ap fails e) ∙ lowest_next _ _ (either_none _ _ d (ap fails t))

        pub kind_good : 1 ≤ o.kind → o.kind ≤ 16 → 0 ≡ opening_answer b o
        unfolding fails
        kind_good p q = none_left ∙ sym (good_moment ∙ lowest_next _ _ (ap fails (between_in 1 16 o.kind p q)))

  -- ---- what the call gives and leaves

  table_there : opening_answer b o ≡ 0 → is_table b ≡ true
  unfolding opening_answer opening_refusals no_table
  table_there a = fails-false _ (served 2 _ _ refl a).0

  module _ {n : ℕ} (e : n ≡ opening_answer b o) where
    pub refused_opening : (n ≡ 0 → ⊥) → {s : Session} → s ≡ unopened
        → MeetsOpen b o (record { refusal = n; session = s }) b
    unfolding opening_gives opening_leaves
    refused_opening z u =
        record {
          answers =
              ap₂ (λ (m : ℕ) (v : Session). record { refusal = m; session = v }) e (u ∙ sym (skips _ _ _ (ne_eqb _ 0 (λ q. z (e ∙ q)))));
          leaves = refused_as n _ b _ e z;
        }

    pub served_opening : n ≡ 0 → {s : Session} {w : List ℕ} → s ≡ opened o → w ≡ day_stored b o.today.yymmdd
        → MeetsOpen b o (record { refusal = 0; session = s }) w
    unfolding opening_gives opening_leaves
    served_opening z u d =
        let a : opening_answer b o ≡ 0 = sym e ∙ z in
        record {
          answers = ap₂ (λ (m : ℕ) (v : Session). record { refusal = m; session = v }) (sym a) (u ∙ sym (picks _ _ _ (eq-eqb _ 0 a)));
          leaves = d ∙ day_is b (table_there a) o.today.yymmdd ∙ sym (served_leaves _ b _ a);
        }
