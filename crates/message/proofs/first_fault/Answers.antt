-- The format decides where it is broken, else the values.
use Rattle.std.proofs.Common.{rules, ◌≡◌}
use mathlib.Core.Path.{◌∙◌}
use Rattle.message.proofs.Tests.{by_format, by_values}
use Rattle.message.proofs.first_fault.Goals as goal

pub returns-in_err-first_broken : goal.returns-in_err-first_broken
returns-in_err-first_broken c =
    let same : c.from_residual.result ≡ c.first_broken.result = search rules in
    same ∙ c.in_err-first_broken.was ∙ by_format _ _ _ _ _ c.first_broken.ensures _ _ _ c.in_err-first_broken.was

pub returns : goal.returns
returns c = by_values _ _ _ _ _ c.first_broken.ensures _ c.in_ok-first_broken.was c.first_broken-2.ensures
