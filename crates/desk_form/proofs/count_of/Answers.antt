-- Each reply has its own number of fields.
use mathlib.Core.Path.{sym, ap}
use lib.ListN.{length}
use Rattle.desk_form.specs.Replies.{reply_layout}
use Rattle.desk_form.proofs.count_of.Goals as goal

pub returns-in-Esi : goal.returns-in-Esi
unfolding reply_layout
returns-in-Esi c = sym (ap (λ k. length (reply_layout k)) c.in-Esi.is)

pub returns-in-Pte : goal.returns-in-Pte
unfolding reply_layout
returns-in-Pte c = sym (ap (λ k. length (reply_layout k)) c.in-Pte.is)
