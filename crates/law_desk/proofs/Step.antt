-- A key that is enclosed becomes current on both sides; where none is, neither side's current key changes.
-- Assumes nothing.
use Prim.Native.Nat.{ℕ}
use mathlib.Core.Path.{◌≡◌, refl, sym, ap, ◌∙◌}
use mathlib.Core.Bool.{Bool, true, false}
use mathlib.Core.List.{List}
use Rattle.customer.specs.declared.Customer.{Customer}
use Rattle.desk_form.specs.Replies.{encloses}
use Rattle.desk.specs.declared.Held.{Held}
use Rattle.desk.specs.declared.Checked.{Checked}
use Rattle.law_desk.specs.Desks.{Passed, InStep, NeverPart}

pub never_part : NeverPart
never_part h c d m r x p i = by (encloses r) refl
  where
    by : (t : Bool) → encloses r ≡ t → InStep x.held d
    by true e = record { generation = (p.kept e).0; key = (p.kept e).1 }
    by false e =
        let z = p.stays e in
        record {
          generation = ap (λ (y : Held). y.working.generation) z.0 ∙ i.generation ∙ sym z.1;
          key = ap (λ (y : Held). y.working.key) z.0 ∙ i.key ∙ sym z.2;
        }
