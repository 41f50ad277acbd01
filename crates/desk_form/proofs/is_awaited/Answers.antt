-- No other field is asked, and each reply has its own identifier.
use mathlib.Core.Path.{◌≡◌, sym, ◌∙◌}
use mathlib.Core.List.{List}
use Prim.Native.Nat.{ℕ}
use borrow.Author.Tests.{eq-eqb, ne_eqb}
use lib.Dec.{eqb}
use Rattle.ground.specs.Choice.{either, fails}
use Rattle.ground.specs.Lists.{same}
use Rattle.text.specs.Letters.{letters}
use Rattle.message.specs.Rules.{only}
use Rattle.desk_form.specs.Replies.{awaited}
use Rattle.desk_form.specs.declared.Reply.{Reply}
use Rattle.desk_form.proofs.is_awaited.Goals as goal

named-one : {j : Reply} (k : Reply) (n : ℕ) (text : List ℕ) → k ≡ j → n ≡ 10 → only (eqb n 10) (same (awaited k) text)
    ≡ same (awaited j) text
unfolding either fails
named-one k n text e p = rw (e, eq-eqb n 10 p)

pub returns-then-number-ne10 : goal.returns-then-number-ne10
unfolding either fails
returns-then-number-ne10 c = rw (ne_eqb _ 10 c.if-number-ne10.true)

pub returns-in-Esi : goal.returns-in-Esi
unfolding either fails awaited letters
returns-in-Esi c =
    c.same_bytes.ensures ∙ sym (named-one _ _ _ c.in-Esi.is c.if-number-ne10.false)

pub returns-in-Pte : goal.returns-in-Pte
unfolding either fails awaited letters
returns-in-Pte c =
    c.same_bytes-in-Pte.ensures ∙ sym (named-one _ _ _ c.in-Pte.is c.if-number-ne10.false)
