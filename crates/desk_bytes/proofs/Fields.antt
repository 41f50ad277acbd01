-- A desk is its fields, and so is what was sent.
-- Assumes nothing.
use Rattle.std.specs.Prelude.{None, Option, Some}
use mathlib.Core.Path.{◌≡◌, refl}
use mathlib.Core.Bool.{true}
use mathlib.Core.Option.{none, some}
use Rattle.ground.specs.Choice.{both}
use Rattle.codec.specs.Layout.{perhaps, Value, scalar}
use Rattle.desk.specs.declared.Held.{Held}
use Rattle.desk_bytes.specs.Layout.{numbered_shape, keys_shape, held_shape, before_from, held_from, before_to, held_to}
use Rattle.desk.specs.declared.Numbered.{Numbered}

pub keys_scalar : scalar keys_shape ≡ true
unfolding both
keys_scalar = refl

before_there : (b : Option Numbered) → before_from (before_to b) ≡ b
before_there None = refl
before_there (Some k) = refl

before_back : (v : Value (perhaps numbered_shape)) → before_to (before_from v) ≡ v
before_back none = refl
before_back (some k) = refl

pub held_there : (h : Held) → held_from (held_to h) ≡ h
held_there h =
    let t = before_there h.transport.before in
    let w = before_there h.working.before in
    λ i. record {
      own = h.own;
      bank = h.bank;
      transport = record { generation = h.transport.generation; key = h.transport.key; before = t i };
      working = record { generation = h.working.generation; key = h.working.key; before = w i };
    }

pub fields_back : (v : Value held_shape) → held_to (held_from v) ≡ v
fields_back (own, (bank, ((g, (k, before)), (j, (l, last))))) =
    let t = before_back before in
    let w = before_back last in
    λ i. (own, (bank, ((g, (k, t i)), (j, (l, w i)))))
