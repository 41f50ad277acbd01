-- A reply that is too short is told by that; else the format decides where it is broken, else the values.
use Rattle.std.proofs.Common.{rules, sym, ◌≡◌, ◌∙◌}
use Rattle.desk_form.specs.Replies.{fails_in}
use Rattle.message.proofs.Order.{stops, goes_on}
use Rattle.desk_form.proofs.Tests.{too_short, not_short}
use Rattle.desk_form.proofs.fault_of.Goals as goal

pub returns-then-r-size_of : goal.returns-then-r-size_of
returns-then-r-size_of c = too_short _ _ _ c.size_of.ensures c.if-r-size_of.true

pub returns-in_err-first_broken : goal.returns-in_err-first_broken
unfolding fails_in
returns-in_err-first_broken c =
    let same : c.from_residual.result ≡ c.first_broken.result = search rules in
    stops _ _ c.first_broken.ensures c.in_err-first_broken.was same
    ∙ sym (not_short _ _ _ c.size_of.ensures c.if-r-size_of.false)

pub returns : goal.returns
unfolding fails_in
returns c =
    goes_on _ _ c.first_broken.ensures c.in_ok-first_broken.was c.first_broken-2.ensures
    ∙ sym (not_short _ _ _ c.size_of.ensures c.if-r-size_of.false)
