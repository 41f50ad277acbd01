-- The record so far with the characters that are left is the record with all of them, and no more of its text is kept.
use mathlib.Core.Path.{◌≡◌, refl, sym, ap, ◌∙◌}
use native.Mathlib.Omega.{arith}
use borrow.Author.Rules.{rules}
use lib.ListN.{length}
use lib.Seq.{take_all}
use Rattle.whole_file.specs.Messages.{wanted_length}
use Rattle.read_characters.proofs.Gathering.{past_room, gathered_drop, gathered_done}
use Rattle.read_characters.proofs.pass_over.Goals as goal

pub loop-b-init : goal.loop-b-init
loop-b-init c = (c.requires, refl)

pub loop-b-preserved : goal.loop-b-preserved
loop-b-preserved c =
    let g = c.args.g in
    let e : length g.text ≡ 161 = search rules in (
      omega arith,
      gathered_drop _ _ _ c.loop-b-test.true
          (past_room _ _ _ c.loop-b.invariant.0 (c.wanted_length-wanted.ensures ∙ ap wanted_length (take_all 161 g.text (omega arith)))
          c.counted-count.ensures c.still_blank-blank.ensures refl)
          ∙ c.loop-b.invariant.1,
    )

pub returns : goal.returns
returns c = sym (gathered_done _ _ _ c.loop-b-test.false) ∙ c.loop-b.invariant.1
