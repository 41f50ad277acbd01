-- Each reply has its own number of characters.
use mathlib.Core.Path.{sym, ap}
use Rattle.message.specs.Layout.{total}
use Rattle.desk_form.specs.Replies.{reply_size, reply_layout}
use Rattle.desk_form.proofs.size_of.Goals as goal

pub returns-in-Esi : goal.returns-in-Esi
unfolding reply_size reply_layout total
returns-in-Esi c = sym (ap reply_size c.in-Esi.is)

pub returns-in-Pte : goal.returns-in-Pte
unfolding reply_size reply_layout total
returns-in-Pte c = sym (ap reply_size c.in-Pte.is)
