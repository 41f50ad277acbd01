-- What is not given changes nothing; else the batch's VAR is handed over.
use mathlib.Core.Path.{◌≡◌, refl, ap, ◌∙◌}
use native.Mathlib.Omega.{arith}
use mathlib.Core.Bool.{Bool, true}
use Rattle.ground.proofs.Bools.{passed, refused}
use Rattle.build.specs.Building.{var_building}
use Rattle.build.specs.declared.Batch.{Batch}
use Rattle.desk_edge.proofs.Building.{is_character_lem, text_room, var_tests, var_room, var_refused, var_served}
use Rattle.desk_edge.proofs.builder.lp_build_var.Lts as lts
use Rattle.desk_edge.proofs.builder.lp_build_var.Reads as reads
use Rattle.desk_edge.proofs.builder.lp_build_var.Tie as tie
use Rattle.desk_edge.proofs.builder.lp_build_var.Goals as goal

abbrev After-is_var_given : Type 0
After-is_var_given = lts.After-is_var_given tie.the-claims reads.Pre reads.Post tie.handed_clauses

abbrev Else1 : Type 0
Else1 = lts.Else1 tie.the-claims reads.Pre reads.Post tie.handed_clauses

abbrev tests : (c : After-is_var_given) → Bool
tests c =
    let a = c.args in
    var_tests a.batch.now a.request a.text.now a.sent.now

pub returns-then-not-is_var_given : goal.returns-then-not-is_var_given
returns-then-not-is_var_given c =
    let a = c.args in
    var_refused a.batch.now a.request a.text.now a.sent.now (refused {a = tests c.before.before} c.is_var_given.ensures c.if-not-is_var_given.true-raw)

given : (c : Else1) → tests c.before ≡ true
given c = passed c.is_var_given.ensures c.if-not-is_var_given.false-raw

pub overflow_cast-request : goal.overflow_cast-request
overflow_cast-request c =
    let a = c.args in
    omega (
      arith,
      is_character_lem a.request a.text.now a.sent.now
          (var_room a.batch.now a.request a.text.now a.sent.now (given c.before.before)),
    )

pub put_message-requires : goal.put_message-requires
put_message-requires c =
    let a = c.args in
    text_room a.request a.text.now a.sent.now
    (var_room a.batch.now a.request a.text.now a.sent.now (given c.before.before.before.before.before))

pub returns : goal.returns
returns c =
    let a = c.args in
    var_served a.batch.now a.request a.text.now a.sent.now (given c.before.before.before.before.before.before.before.before.before.before) _
    (c.build_var-x.ensures ∙ ap (λ (b : Batch). var_building b a.request) c.load_batch-b.ensures)
    refl c.put_message.ensures.writes c.put_message.ensures.keeps
