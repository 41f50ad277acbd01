-- The stamps that are left decide, and the kept day is the start of a real one.
use mathlib.Core.Path.{refl}
use native.Mathlib.Omega.{arith}
use Rattle.ground.specs.Choice.{both, between, one}
use Rattle.std.proofs.Common.{rules}
use Rattle.calendar.specs.Dates.{real_date, days_in, leap}
use Rattle.customer_bytes.specs.Tests.{starts_day, real_at}
use Rattle.customer_bytes.proofs.Stamps.{run_begin, run_stop, run_more, run_end}
use Rattle.customer_bytes.proofs.are_real.Goals as goal

pub loop-i-init : goal.loop-i-init
unfolding starts_day real_date days_in leap both between one
loop-i-init c = record { day = refl; decide = run_begin (real_at c.args.t.now) c.args.n c.args.at }

pub returns-then-not-is_real_beside : goal.returns-then-not-is_real_beside
returns-then-not-is_real_beside c =
    let l = c.loop-i in
    run_stop (real_at c.args.t.now) _ _ l.i (omega arith) l.invariant.decide (search rules)

pub loop-i-preserved : goal.loop-i-preserved
loop-i-preserved c =
    let l = c.loop-i in
    record { day = search rules; decide = run_more (real_at c.args.t.now) _ _ l.i (omega arith) l.invariant.decide (search rules) }

pub returns : goal.returns
returns c =
    let l = c.loop-i in
    run_end (real_at c.args.t.now) _ _ l.i (omega arith) l.invariant.decide
