-- What is left, from where the scan stands, gives the whole, and the round keys are those of the one-time key there.
use Prim.Native.Nat.{◌+◌}
use mathlib.Core.Path.{◌≡◌, refl, sym, ap, ◌∙◌}
use native.Mathlib.Omega.{arith}
use Rattle.des.specs.Des.{schedule_of}
use Rattle.session.specs.Events.{silent}
use Rattle.session.specs.Machine.{Scan, scanned}
use Rattle.read_bytes.proofs.Scans.{left_at, goes_on, replied, all_taken, from_start}
use borrow.Author.Rules.{rules}
use Rattle.read_bytes.proofs.scan.Lts as lts
use Rattle.read_bytes.proofs.scan.Reads as reads
use Rattle.read_bytes.proofs.scan.Tie as tie
use Rattle.read_bytes.proofs.scan.Goals as goal

abbrev Else2 : Type 0
Else2 = lts.Else2 tie.the-claims reads.Pre reads.Post goal.the-invariant-loop-i goal.the-decreases-loop-i tie.handed_clauses

-- ---- the loop
pub loop-i-init : goal.loop-i-init
loop-i-init c =
    let a = c.args in
    (search rules, search rules, c.batch_key-key.ensures, c.schedule-keys.ensures, from_start a.input.now a.s a.t.now)

pub run_from-x-requires : goal.run_from-x-requires
run_from-x-requires c =
    let l = c.loop-i in (
      c.joined_table-boxes.ensures,
      l.invariant.3 ∙ ap schedule_of l.invariant.2,
      c.run_end-end.ensures,
      c.if-i-end.true,
    )

pub loop-i-smaller-then-i-end : goal.loop-i-smaller-then-i-end
loop-i-smaller-then-i-end c = omega (arith, c.run_from-x.ensures.ahead, c.run_from-x.ensures.within)

pub loop-i-preserved-then-i-end : goal.loop-i-preserved-then-i-end
loop-i-preserved-then-i-end c =
    let l = c.loop-i in
    let k = c.run_from-x.ensures in (
      k.within,
      l.invariant.1,
      l.invariant.2 ∙ k.same_key,
      l.invariant.3,
      k.same l.t ∙ l.invariant.4,
    )

pub step-x-requires : goal.step-x-requires
step-x-requires c =
    let l = c.loop-i.invariant in (c.joined_table-boxes.ensures, l.3 ∙ ap schedule_of l.2)

pub overflow_add-i : goal.overflow_add-i
overflow_add-i c = omega (
  arith,
  c.loop-i-test.true,
  c.well_formed.1.1.0.1,
)

parts : {x y : Scan} → x ≡ y → ((x.turn.out.session ≡ y.turn.out.session) × (x.turn.out.reply ≡ y.turn.out.reply)
    × (x.taken ≡ y.taken)) × (x.turn.table ≡ y.turn.table)
parts e = rw e ((refl, refl, refl), refl)

pub returns-then-x : goal.returns-then-x
unfolding silent
returns-then-x c = let l = c.loop-i in
    let all = parts (replied c.args.input.now l.i l.at l.t c.loop-i-test.true (c.step-x.ensures.value, c.step-x.ensures.t_after)
    c.if-x.true ∙ l.invariant.4) in
    record { session_value = all.0; t_after = all.1 }

-- past a byte without a reply what is left gives the whole
went_on : (c : Else2) → left_at c.args.input.now (c.loop-i.i + 1) c.step-x.result.session c.step-x.new.t
    ≡ scanned c.args.s c.args.t.now c.args.input.now
went_on c =
    let l = c.loop-i in
    goes_on c.args.input.now l.i l.at l.t c.loop-i-test.true (c.step-x.ensures.value, c.step-x.ensures.t_after) c.if-x.false
    ∙ l.invariant.4

pub loop-i-preserved-then-next-key : goal.loop-i-preserved-then-next-key
loop-i-preserved-then-next-key c = (
  omega arith,
  search rules,
  c.batch_key-next.ensures,
  c.schedule-keys-then-next-key.ensures,
  went_on c.before.before.before.before,
)

pub loop-i-preserved : goal.loop-i-preserved
loop-i-preserved c = (
  omega arith,
  search rules,
  sym c.if-next-key.false ∙ c.batch_key-next.ensures,
  c.loop-i.invariant.3,
  went_on c.before.before.before,
)

pub returns : goal.returns
unfolding silent
returns c = let l = c.loop-i in
    let e = parts (all_taken c.args.input.now l.i l.at l.t c.loop-i-test.false ∙ l.invariant.4) in
    record {
      session_value = (e.0.0, c.no_reply.ensures ∙ e.0.1, e.0.2);
      t_after = e.1;
    }
