-- A place has its record stored, and without one nothing is.
use Rattle.std.specs.Prelude.{Option, ℕ}
use mathlib.Core.Path.{sym, ap, ◌∙◌}
use Rattle.verdict.specs.Outcomes.{stored_at}
use Rattle.verdict.proofs.store_record.Goals as goal

pub returns-in-Some : goal.returns-in-Some
unfolding stored_at
returns-in-Some c =
    let a = c.args in
    c.store.ensures ∙ sym (ap (λ (f : Option ℕ). stored_at a.t.now f a.c) c.in-Some.is)

pub returns-in-None : goal.returns-in-None
unfolding stored_at
returns-in-None c =
    let a = c.args in
    sym (ap (λ (f : Option ℕ). stored_at a.t.now f a.c) c.in-None.is)
