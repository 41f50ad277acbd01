-- What the functions find, from what the calls in them say: lists of checks joined in the definitions' order.
-- Assumes nothing.
use Rattle.std.specs.Prelude.{Result}
use mathlib.Core.Path.{◌≡◌, refl, sym, ap, ◌∙◌}
use mathlib.Core.Bool.{true, not}
use Prim.Native.Nat.{ℕ, ◌-◌, ◌/◌, ◌%◌, ◌^◌, ◌≤◌, ◌<◌}
use native.Mathlib.Nat.{div-eq_of_lt, pow-le-pow_right, lt_of_lt_of_le}
use native.Mathlib.Omega.{arith}
use borrow.Author.Tests.{lt-ltb}
use lib.Dec.{eqb, lit<}
use Rattle.ground.specs.Choice.{both, fails}
use Rattle.ground.proofs.Choices.{decides}
use Rattle.ground.proofs.Bools.{turned}
use Rattle.calendar.specs.declared.Date.{Date}
use Rattle.customer.specs.declared.Customer.{Customer}
use Rattle.table.specs.Table.{Table}
use Rattle.table.specs.Named.{named}
use Rattle.message.specs.Order.{first_failing}
use Rattle.message.specs.Fields.{sender_of}
use Rattle.message.specs.declared.Fault.{Fault}
use Rattle.message.specs.declared.Collected.{Collected}
use Rattle.checks.specs.Checks.{type_allowed}
use Rattle.checks.specs.Checks.{esi_checks, frame_checks}
use Rattle.checks.specs.declared.Frame.{Frame}
use Rattle.checks.proofs.Parts.{esi_parts, frame_parts, esi_parts_lem, frame_parts_lem}

-- ---- the data type

pub type_zero : (types : ℕ) → true ≡ fails (type_allowed types 0)
unfolding type_allowed both fails
type_zero types = refl

type_of : (types n : ℕ) → 0 < n → type_allowed types n ≡ eqb (types / 2 ^ (n - 1) % 2) 1
unfolding type_allowed
type_of types n h = decides _ _ (lt-ltb 0 n h)

pub type_read : (types n : ℕ) → 0 < n → not (eqb (types / 2 ^ (n - 1) % 2) 1) ≡ fails (type_allowed types n)
type_read types n h = turned (sym (type_of types n h))

-- 32 bits have no more types
pub type_none : (types n : ℕ) → types < 2 ^ 32 → 32 < n → true ≡ fails (type_allowed types n)
unfolding fails
type_none types n h l =
    let k : 32 ≤ n - 1 = omega arith in
    let z : types / 2 ^ (n - 1) ≡ 0 = div-eq_of_lt (lt_of_lt_of_le h (pow-le-pow_right (lit< tt) k)) in
    sym (ap fails (type_of types n (omega arith) ∙ ap (λ (x : ℕ). eqb (x % 2) 1) z))

-- ---- the two orders, with the customer who was found

pub esi_is : (t : Table) (today : Date) (m : Collected) (c : Customer) {y : Result Unit Fault} → c ≡ named t (sender_of m.text)
    → y ≡ first_failing (esi_parts t c today m) → y ≡ first_failing (esi_checks t today m)
esi_is t today m c e p =
    p ∙ ap (λ (x : Customer). first_failing (esi_parts t x today m)) e ∙ ap first_failing (sym (esi_parts_lem t today m))

pub frame_is : (t : Table) (today : Date) (kind : ℕ) (f : Frame) (c : Customer) {y : Result Unit Fault} → c ≡ named t (sender_of f.suo.text)
    → y ≡ first_failing (frame_parts t c today kind f) → y ≡ first_failing (frame_checks t today kind f)
frame_is t today kind f c e p =
    p ∙ ap (λ (x : Customer). first_failing (frame_parts t x today kind f)) e ∙ ap first_failing (sym (frame_parts_lem t today kind f))
