-- What is live of the stamps seen so far stands in the record, and one stamp more is left out or put behind them.
use Rattle.std.proofs.Common.{rules, tests, length, arith}
use Rattle.std.proofs.lemmas.List.{length_push}
use Rattle.std.proofs.lemmas.Slice.Zip.{zip_turn, zip_end}
use Rattle.acceptance.specs.Stamps.{held_stamps, held_once}
use Rattle.acceptance.proofs.Lives.{held_same, held_few, in_none, in_old, in_good, in_all}
use Rattle.acceptance.proofs.with_live.Goals as goal

pub loop-s-init : goal.loop-s-init
loop-s-init c =
    record {
      low = omega arith;
      whole = in_none c.args.day.now.holidays.now c.args.day.now.today c.args.c (held_stamps c.args.c) (held_once c.args.c);
    }

pub loop-s-preserved-then-not-is_old : goal.loop-s-preserved-then-not-is_old
loop-s-preserved-then-not-is_old c =
    let ss = held_stamps c.args.c in
    let ks = held_once c.args.c in
    let n = length_push c.loop-s.yielded (c.in-Some.s, c.in-Some.k) in
    let t = zip_turn ss ks c.loop-s.yielded c.into_iter-s-iterator.result c.loop-s.s-iterator c.next.new.self c.next.result (cc) (cc) c.loop-s.yielded_by (c.in-Some.s, c.in-Some.k) c.in-Some.is c.next.ensures.steps in
    record {
      low = omega arith;
      whole =
          in_good c.args.day.now.holidays.now c.args.day.now.today c.args.c ss ks (held_same c.args.c (search rules) (search rules)) c.loop-s.live (length c.loop-s.yielded)
          _ _ _ c.loop-s.invariant.whole n t (search (rules, tests)) (omega (arith, held_few c.args.c (search rules)));
    }

pub loop-s-preserved : goal.loop-s-preserved
loop-s-preserved c =
    let ss = held_stamps c.args.c in
    let ks = held_once c.args.c in
    let n = length_push c.loop-s.yielded (c.in-Some.s, c.in-Some.k) in
    let t = zip_turn ss ks c.loop-s.yielded c.into_iter-s-iterator.result c.loop-s.s-iterator c.next.new.self c.next.result (cc) (cc) c.loop-s.yielded_by (c.in-Some.s, c.in-Some.k) c.in-Some.is c.next.ensures.steps in
    record {
      low = omega arith;
      whole =
          in_old c.args.day.now.holidays.now c.args.day.now.today c.args.c ss ks (held_same c.args.c (search rules) (search rules)) c.loop-s.live (length c.loop-s.yielded)
          _ _ _ c.loop-s.invariant.whole n t (search (rules, tests));
    }

pub returns-clause-live : goal.returns-clause-live
returns-clause-live c =
    let ss = held_stamps c.args.c in
    let ks = held_once c.args.c in
    let e = zip_end ss ks c.loop-s.yielded c.into_iter-s-iterator.result c.loop-s.s-iterator c.next.new.self c.next.result (cc) (cc) c.loop-s.yielded_by c.in-None.is c.next.ensures.steps in
    let s = held_same c.args.c (search rules) (search rules) in
    in_all c.args.day.now.holidays.now c.args.day.now.today c.args.c _ (length c.loop-s.yielded) (omega arith) (omega arith) c.loop-s.invariant.whole
