-- Below the capacity a reply has its slot and its place; past it nothing is written.
use Prim.Native.Nat.{◌+◌, ◌*◌, ◌≤◌}
use mathlib.Core.Path.{refl, sym, ◌∙◌}
use lib.ListN.{length}
use Rattle.splices.proofs.Splice.{put_fits}
use native.Mathlib.Omega.{arith}
use Rattle.receiving.proofs.Keeping.{past_room, in_room, in_slot}
use Rattle.receiving.proofs.keep.Goals as goal

pub returns-else-count-capacity_of : goal.returns-else-count-capacity_of
returns-else-count-capacity_of c = past_room _ _ _ _ c.capacity_of.ensures c.if-count-capacity_of.false

pub overflow_mul-count : goal.overflow_mul-count
overflow_mul-count c = omega (arith, (in_slot _ _ c.capacity_of.ensures c.if-count-capacity_of.true).0)

pub write_bytes-requires : goal.write_bytes-requires
write_bytes-requires c = omega (arith, (in_slot _ _ c.capacity_of.ensures c.if-count-capacity_of.true).0)

pub offset_bounds-places-count : goal.offset_bounds-places-count
offset_bounds-places-count c =
    omega (arith, (in_slot _ _ c.capacity_of.ensures c.if-count-capacity_of.true).0)

pub bounds-places-count : goal.bounds-places-count
bounds-places-count c =
    omega (arith, (in_slot _ _ c.capacity_of.ensures c.if-count-capacity_of.true).1)

pub returns-then-count-capacity_of : goal.returns-then-count-capacity_of
returns-then-count-capacity_of c =
    let a = c.args in
    let s : 317 * a.count + length a.reply.now ≤ length a.replies.now =
    omega (arith, (in_slot _ _ c.capacity_of.ensures c.if-count-capacity_of.true).0) in
    in_room _ _ _ _ c.capacity_of.ensures c.if-count-capacity_of.true (c.write_bytes.ensures ∙ sym (put_fits _ _ _ s)) refl
