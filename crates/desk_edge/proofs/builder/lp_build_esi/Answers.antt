-- What is not given changes nothing; else the desk's ESI is handed over.
use mathlib.Core.Path.{◌≡◌, refl}
use native.Mathlib.Omega.{arith}
use mathlib.Core.Bool.{Bool, true}
use Rattle.ground.proofs.Bools.{passed, refused}
use Rattle.desk_edge.proofs.Building.{is_character_lem, text_room, esi_tests, esi_room, esi_refused, esi_served}
use Rattle.desk_edge.proofs.builder.lp_build_esi.Lts as lts
use Rattle.desk_edge.proofs.builder.lp_build_esi.Reads as reads
use Rattle.desk_edge.proofs.builder.lp_build_esi.Tie as tie
use Rattle.desk_edge.proofs.builder.lp_build_esi.Goals as goal

abbrev After-is_esi_given : Type 0
After-is_esi_given = lts.After-is_esi_given tie.the-claims reads.Pre reads.Post tie.handed_clauses

abbrev Else1 : Type 0
Else1 = lts.Else1 tie.the-claims reads.Pre reads.Post tie.handed_clauses

abbrev tests : (c : After-is_esi_given) → Bool
tests c =
    let a = c.args in
    esi_tests a.held.now a.software.now a.stamp.now a.request a.text.now a.sent.now

pub returns-then-not-is_esi_given : goal.returns-then-not-is_esi_given
returns-then-not-is_esi_given c =
    let a = c.args in
    esi_refused a.held.now a.software.now a.stamp.now a.request a.text.now a.sent.now
    (refused {a = tests c.before.before} c.is_esi_given.ensures c.if-not-is_esi_given.true-raw)

given : (c : Else1) → tests c.before ≡ true
given c = passed c.is_esi_given.ensures c.if-not-is_esi_given.false-raw

pub overflow_cast-request : goal.overflow_cast-request
overflow_cast-request c =
    let a = c.args in
    omega (
      arith,
      is_character_lem a.request a.text.now a.sent.now
          (esi_room a.held.now a.software.now a.stamp.now a.request a.text.now a.sent.now (given c.before.before.before.before)),
    )

pub put_message-requires : goal.put_message-requires
put_message-requires c =
    let a = c.args in
    text_room a.request a.text.now a.sent.now
    (esi_room a.held.now a.software.now a.stamp.now a.request a.text.now a.sent.now (given c.before.before.before.before.before.before.before))

pub returns : goal.returns
returns c =
    let a = c.args in
    esi_served a.held.now a.software.now a.stamp.now a.request a.text.now a.sent.now (given c.before.before.before.before.before.before.before.before.before.before.before.before) _
    c.build_esi-x.ensures c.load_held-h.ensures c.fixed.ensures c.fixed-2.ensures
    refl c.put_message.ensures.writes c.put_message.ensures.keeps
