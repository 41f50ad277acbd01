-- Each kind has its own methods.
use mathlib.Core.Path.{sym, ap, ◌∙◌}
use Rattle.text.specs.Letters.{letters}
use Rattle.message.specs.Rules.{methods, one_of}
use Rattle.message.specs.declared.Kind.{Kind}
use Rattle.ground.proofs.Bools.{either-false}
use Rattle.message.proofs.method_holds.Goals as goal

pub returns-in-Esi : goal.returns-in-Esi
unfolding methods one_of letters
returns-in-Esi c =
    c.same_bytes.ensures
    ∙ sym
    (ap (λ (k : Kind). one_of (methods k) c.args.text.now) c.in-Esi.is ∙ either-false _)

pub returns-in-Suo : goal.returns-in-Suo
unfolding methods letters
returns-in-Suo c =
    c.one_of.ensures
    ∙ sym
    (ap (λ (k : Kind). one_of (methods k) c.args.text.now) c.in-Suo.is)

pub returns-in-Var : goal.returns-in-Var
unfolding methods one_of letters
returns-in-Var c =
    c.same_bytes-in-Var.ensures
    ∙ sym
    (ap (λ (k : Kind). one_of (methods k) c.args.text.now) c.in-Var.is ∙ either-false _)
