-- What is not given changes nothing; else the desk's SUO is handed over, and the maker moves on where that was served.
use mathlib.Core.Path.{◌≡◌, refl}
use native.Mathlib.Omega.{arith}
use mathlib.Core.Bool.{Bool, true}
use Rattle.ground.proofs.Bools.{passed, refused}
use Rattle.desk_edge.proofs.Building.{suo_tests, SuoLengths, suo_lengths, suo_refused, suo_served}
use Rattle.desk_edge.proofs.builder.lp_build_suo.Lts as lts
use Rattle.desk_edge.proofs.builder.lp_build_suo.Reads as reads
use Rattle.desk_edge.proofs.builder.lp_build_suo.Tie as tie
use Rattle.desk_edge.proofs.builder.lp_build_suo.Goals as goal

abbrev After-is_suo_given : Type 0
After-is_suo_given = lts.After-is_suo_given tie.the-claims reads.Pre reads.Post tie.handed_clauses

abbrev Else1 : Type 0
Else1 = lts.Else1 tie.the-claims reads.Pre reads.Post tie.handed_clauses

abbrev tests : (c : After-is_suo_given) → Bool
tests c =
    let a = c.args in
    suo_tests a.held.now a.maker.now a.clock a.software.now a.method.now a.stamp.now a.area a.text.now a.batch.now

abbrev Lengths : (c : After-is_suo_given) → Type 0
Lengths c =
    let a = c.args in
    SuoLengths a.held.now a.maker.now a.clock a.software.now a.method.now a.stamp.now a.area a.text.now a.batch.now

pub returns-then-not-is_suo_given : goal.returns-then-not-is_suo_given
returns-then-not-is_suo_given c = let a = c.args in
    let all = suo_refused a.held.now a.maker.now a.clock a.software.now a.method.now a.stamp.now a.area a.text.now
    a.batch.now (refused {a = tests c.before.before} c.is_suo_given.ensures c.if-not-is_suo_given.true-raw) in
    record { answers = all.0; writes = all.1.0; keeps = all.1.1.0; moves = all.1.1.1 }

given : (c : Else1) → tests c.before ≡ true
given c = passed c.is_suo_given.ensures c.if-not-is_suo_given.false-raw

lengths : (c : Else1) → Lengths c.before
lengths c =
    let a = c.args in
    suo_lengths a.held.now a.maker.now a.clock a.software.now a.method.now a.stamp.now a.area a.text.now
    a.batch.now (given c)

pub maker_in-k-requires : goal.maker_in-k-requires
maker_in-k-requires c = (lengths c.before.before).numbers

pub overflow_cast-g : goal.overflow_cast-g
overflow_cast-g c = omega (arith, (lengths c.before.before.before.before.before.before).character)

pub put_maker-requires : goal.put_maker-requires
put_maker-requires c = (lengths c.before.before.before.before.before.before.before.before.before.before).numbers

pub put_suo-requires : goal.put_suo-requires
put_suo-requires c =
    (lengths c.before.before.before.before.before.before.before.before.before.before.before.before.before.before.before).room

pub returns : goal.returns
returns c = let a = c.args in
    let all = suo_served a.held.now a.maker.now a.clock a.software.now a.method.now a.stamp.now a.area a.text.now
    a.batch.now (given c.before.before.before.before.before.before.before.before.before.before.before.before.before.before.before.before.before.before.before.before) _ c.make_suo-made.ensures c.load_held-h.ensures c.maker_in-k.ensures
    c.fixed.ensures c.fixed-2.ensures c.fixed-3.ensures
    refl c.put_suo.ensures.writes c.put_suo.ensures.keeps c.put_maker.ensures in
    record { answers = all.0; writes = all.1.0; keeps = all.1.1.0; moves = all.1.1.1 }
