-- Each kind has its own tag and length, and the two fields adjoin.
use mathlib.Core.Path.{sym, ap}
use mathlib.Core.List.{◌++◌}
use Rattle.text.specs.Letters.{letters}
use Rattle.message.specs.declared.Kind.{Kind}
use Rattle.build.specs.Messages.{tag_of, size_of}
use Rattle.build.proofs.tag_of.Goals as goal

pub returns-in-Esi : goal.returns-in-Esi
unfolding letters tag_of size_of
returns-in-Esi c = sym (ap (λ (k : Kind). tag_of k ++ size_of k) c.in-Esi.is)

pub returns-in-Suo : goal.returns-in-Suo
unfolding letters tag_of size_of
returns-in-Suo c = sym (ap (λ (k : Kind). tag_of k ++ size_of k) c.in-Suo.is)

pub returns-in-Var : goal.returns-in-Var
unfolding letters tag_of size_of
returns-in-Var c = sym (ap (λ (k : Kind). tag_of k ++ size_of k) c.in-Var.is)
