-- Each kind has its own number of fields.
use mathlib.Core.Path.{sym, ap}
use lib.ListN.{length}
use Rattle.message.specs.Layout.{layout}
use Rattle.message.proofs.count_of.Goals as goal

pub returns-in-Esi : goal.returns-in-Esi
unfolding layout
returns-in-Esi c = sym (ap (λ k. length (layout k)) c.in-Esi.is)

pub returns-in-Suo : goal.returns-in-Suo
unfolding layout
returns-in-Suo c = sym (ap (λ k. length (layout k)) c.in-Suo.is)

pub returns-in-Var : goal.returns-in-Var
unfolding layout
returns-in-Var c = sym (ap (λ k. length (layout k)) c.in-Var.is)
