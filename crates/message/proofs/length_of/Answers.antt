-- Each kind has its own length.
use mathlib.Core.Path.{sym, ap}
use Rattle.message.specs.Layout.{layout_length, layout, total}
use Rattle.message.proofs.length_of.Goals as goal

pub returns-in-Esi : goal.returns-in-Esi
unfolding layout_length layout total
returns-in-Esi c = sym (ap layout_length c.in-Esi.is)

pub returns-in-Suo : goal.returns-in-Suo
unfolding layout_length layout total
returns-in-Suo c = sym (ap layout_length c.in-Suo.is)

pub returns-in-Var : goal.returns-in-Var
unfolding layout_length layout total
returns-in-Var c = sym (ap layout_length c.in-Var.is)
