-- The parts are put one after the other, and there is room for each.
use mathlib.Core.Path.{ap}
use native.Mathlib.Omega.{arith}
use lib.ListN.{length}
use Rattle.message.specs.Contents.{held_in}
use Rattle.notice.proofs.Texts.{row_room, row_text}
use Rattle.notice.proofs.said.Goals as goal

pub put-requires : goal.put-requires
put-requires c =
    omega (arith, ap length c.new-said.ensures, row_room c.args.code c.row_of-row.result c.row_of-row.ensures)

pub put_name-requires : goal.put_name-requires
put_name-requires c =
    omega (arith, ap length c.new-said.ensures, row_room c.args.code c.row_of-row.result c.row_of-row.ensures)

pub put_value-requires : goal.put_value-requires
put_value-requires c =
    omega (arith, ap length c.new-said.ensures, row_room c.args.code c.row_of-row.result c.row_of-row.ensures)

pub put-requires-2 : goal.put-requires-2
put-requires-2 c =
    omega (arith, ap length c.new-said.ensures, row_room c.args.code c.row_of-row.result c.row_of-row.ensures)

pub returns : goal.returns
returns c =
    row_text c.args.code c.row_of-row.result c.row_of-row.ensures c.args.field (held_in c.args.contents)
    c.new-said.ensures c.put.ensures.items c.put_name.ensures.items c.put_value.ensures.items c.put-2.ensures.items
