-- The call below is handed what the numbers and bytes say, and its desk is stored where it is served.
use mathlib.Core.Path.{ap, ap₂, ◌∙◌}
use mathlib.Core.List.{List}
use Prim.Native.Nat.{ℕ}
use Rattle.edge.specs.Edge.{fixed}
use Rattle.desk.specs.Held.{opening}
use Rattle.desk.specs.declared.Given.{Given}
use Rattle.desk.specs.declared.Parts.{Parts}
use Rattle.desk_edge.specs.Calls.{parts_asked, opened_by, held_after_call}
use Rattle.desk_edge.proofs.lp_held_open.Goals as goal

pub returns : goal.returns
unfolding parts_asked opened_by
returns c = let a = c.args in
    let parts : ℕ → Parts = λ g. record { part1 = a.part1; part2 = a.part2; check = a.check; generation = g } in
    let e = c.open-x.ensures
    ∙ ap₂ (λ (x y : List ℕ). opening x y (parts c.generation_asked.result)) c.fixed.ensures c.fixed-2.ensures
    ∙ ap (λ (g : ℕ). opening (fixed 25 a.own.now) (fixed 25 a.bank.now) (parts g)) c.generation_asked.ensures in
    record {
      answers = ap (λ (x : Given). x.refusal) e;
      keeps = c.put_given.ensures ∙ ap (held_after_call _) e;
    }
