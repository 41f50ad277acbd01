-- What is left of the part, from where the records stand there, gives what the whole part gives.
use Rattle.std.proofs.Common.{◌≡◌, ℕ, List, length, sym, ap, ◌∙◌, ap₂, arith}
use Rattle.std.proofs.lemmas.Grind.{common_steps}
use Rattle.des.specs.Des.{cipher_by}
use Rattle.des.specs.Tables.{boxes}
use Rattle.des.specs.Joined.{joined, joined_by}
use Rattle.des.proofs.Joined.{joined-cipher}
use Rattle.digest.specs.declared.Method.{Method}
use Rattle.ground.specs.Lists.{member}
use Rattle.bureau_records.specs.Pieces.{Heard, heard_bytes}
use Rattle.bureau_records.specs.Sofar.{heard_of}
use Rattle.bureau_records.proofs.Cuts.{up_to_without, line_heard, end_heard}
use Rattle.bureau_records.proofs.next.Goals as goal

-- by the true table, which is lent, the cipher is the standard's, and the room that is emptied leaves what was heard
begun : (t keys : List ℕ) (m : Method) (x h : Heard) (part : List ℕ) → t ≡ joined → x ≡ h
    → heard_bytes (joined_by t keys) m x part ≡ heard_bytes (cipher_by boxes keys) m h part
begun t keys m x h part e f =
    ap₂ (λ (t : List ℕ) (h : Heard). heard_bytes (joined_by t keys) m h part) e f
    ∙ ap (λ (e : ℕ → ℕ). heard_bytes e m h part) (joined-cipher keys)

pub pieced-requires : goal.pieced-requires
pieced-requires c = ap (member 10) c.first_part.ensures.part ∙ up_to_without 10 _

pub lined-requires : goal.lined-requires
lined-requires c = ap (member 10) c.first_part.ensures.part ∙ up_to_without 10 _

pub returns-in_default : goal.returns-in_default
returns-in_default c =
    let w = c.args.w in
    let part = c.args.part.now in
    let last = rw c.in_default.is at c.first_part.ensures.rest in
    c.pieced.ensures w.method
    ∙ ap (heard_bytes (joined_by c.joined_table-table.result w.keys) w.method (heard_of c.loop-left.now)) (c.first_part.ensures.part ∙ last)
    ∙ c.loop-left.invariant.1
    ∙ begun _ _ w.method _ _ part c.joined_table-table.ensures c.emptied-now.ensures.0

pub loop-left-preserved : goal.loop-left-preserved
loop-left-preserved c =
    let w = c.args.w in
    let more = rw c.in-Some.is at c.first_part.ensures.rest in (
      grind (arith, common_steps),
      line_heard _ w.method _ _ _ _ more c.first_part.ensures.part c.in_ok-now.ensures ∙ c.loop-left.invariant.1,
    )

pub returns : goal.returns
returns c =
    let w = c.args.w in
    let z : length c.loop-left.left.now ≡ 0 = grind (arith, common_steps) in
    sym (end_heard _ w.method _ _ z) ∙ c.loop-left.invariant.1
    ∙ begun _ _ w.method _ _ c.args.part.now c.joined_table-table.ensures c.emptied-now.ensures.0
