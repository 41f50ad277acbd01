-- A refused opening leaves the table, and a served one stores today's date.
use mathlib.Core.Path.{sym, ◌∙◌}
use Rattle.refusals.proofs.Found.{not_served, served}
use Rattle.calls.proofs.Opening.{refused_opening, served_opening}
use Rattle.calls.proofs.open.Goals as goal

pub returns-in-Err : goal.returns-in-Err
returns-in-Err c =
    let n = c.code.ensures in
    refused_opening _ _ (n ∙ c.opening_refusal-outcome.ensures) (λ z. not_served _ _ c.in-Err.is (sym n ∙ z)) c.no_file.ensures

pub returns : goal.returns
returns c =
    served_opening _ _ c.opening_refusal-outcome.ensures (served _ _ c.in_default.is) c.opened_file.ensures c.store_day.ensures
