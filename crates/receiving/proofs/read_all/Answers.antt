-- All that the file gives is what was seen and what is to come; each read moves some of it over, and moves on by a byte at least.
use mathlib.Core.Path.{refl, sym, ◌∙◌}
use mathlib.Core.Bool.{false≢true}
use native.Mathlib.Omega.{arith}
use Rattle.ground.proofs.Parts.{part_fits}
use Rattle.law_protocol.proofs.Good.{end_good}
use Rattle.receiving.proofs.Keeping.{so_far_start, so_far_as, count_fits}
use Rattle.receiving.proofs.Calling.{moved, at_the_end, read_closed, read_good, read_further}
use Rattle.receiving.proofs.read_all.Goals as goal

pub loop-at-init : goal.loop-at-init
loop-at-init c =
    let p = c.requires in (p.0, omega arith, p.1, so_far_start _ _ _, refl, refl, refl)

pub one_read-g-requires : goal.one_read-g-requires
one_read-g-requires c =
    let i = c.loop-at.invariant in
    let k = c.reach-to.ensures in (
      i.0,
      omega (arith, part_fits c.args.file.now _ _ k.0 k.1),
      count_fits i.3 i.2,
    )

pub returns-then-g : goal.returns-then-g
returns-then-g c =
    let i = c.loop-at.invariant in
    let k = c.reach-to.ensures in
    record {
      closed = λ e. read_closed _ _ _ k.0 k.1 i.0 i.3 c.one_read-g.ensures e;
      at_end = λ e. absurd (false≢true (sym e ∙ c.if-g.true));
    }

pub loop-at-smaller : goal.loop-at-smaller
loop-at-smaller c =
    let i = c.loop-at.invariant in
    let k = c.reach-to.ensures in
    let m = moved _ _ _ i.0 k.0 k.1 c.one_read-g.ensures in
    omega arith

pub loop-at-preserved : goal.loop-at-preserved
loop-at-preserved c =
    let i = c.loop-at.invariant in
    let k = c.reach-to.ensures in
    let x = c.one_read-g.ensures in
    let m = moved _ _ _ i.0 k.0 k.1 x in
    let f = c.if-g.false in (
      read_good _ _ _ k.0 k.1 i.0 i.3 x f,
      omega arith,
      i.2,
      read_further _ _ _ k.0 k.1 i.0 i.3 x f,
      omega arith,
      omega arith,
      omega arith,
    )

pub returns : goal.returns
returns c = let i = c.loop-at.invariant in
    record {
      closed = λ e. absurd (false≢true e);
      at_end = λ e. (end_good i.0, so_far_as (at_the_end _ _ _ _ (omega arith) i.1) i.3);
    }
