-- What every layout's laws say of a customer's and the settings': widths, what is written is read back, and the test is right.
-- Assumes nothing.
use Rattle.std.specs.Prelude.{◌&&◌, None, Option, Some}
use Rattle.std.proofs.Math.Bool.{and-true, and_assoc}
use Rattle.std.proofs.Math.Nat.{add_assoc}
use mathlib.Core.Logic.{inl, inr}
use mathlib.Core.Path.{◌≡◌, refl, sym, ap, ◌∙◌}
use mathlib.Core.Bool.{Bool, true, false}
use mathlib.Core.List.{List}
use mathlib.Core.Option.{none, some}
use Prim.Native.Nat.{ℕ, ◌+◌, ◌≤◌, ◌<◌}
use native.Mathlib.Nat.{add-zero}
use native.Mathlib.Omega.{arith}
use borrow.Author.Tests.{le-leb, lt-leb}
use lib.Dec.{ltb, leb}
use lib.ListN.{length, replicate}
use Rattle.ground.specs.Choice.{both}
use Rattle.ground.specs.Lists.{part, same}
use Rattle.ground.proofs.Choices.{fails_right, picks, skips, between_below}
use Rattle.ground.proofs.Numbers.{below}
use Rattle.ground.proofs.Std.{both_is, between_is}
use Rattle.ground.proofs.Bools.{stop, later}
use Rattle.splices.specs.Bytes.{num}
use Rattle.splices.proofs.Splice.{AllBytes}
use Rattle.codec.specs.Layout.{numbers, perhaps, Value, scalar, width, enc, dec, ok, Sized}
use Rattle.codec.proofs.Laws.{wide, exact, sized, dec-part}
use Rattle.customer.specs.Customer.{sound_keys, sound_stamps, sound_customer}
use Rattle.customer.specs.Settings.{sound_who}
use Rattle.customer.specs.declared.Customer.{Customer}
use Rattle.customer.specs.declared.Settings.{Settings}
use Rattle.customer_bytes.specs.Layout.{record_width, settings_width, previous_held, pair_shape, terms_shape, customer_shape, settings_shape}
use Rattle.customer_bytes.specs.Layout.{previous_from, previous_to, pair_from, customer_from, terms_to, customer_to, settings_from, settings_to}
use Rattle.customer_bytes.specs.Layout.{customer_bytes, customer_of, settings_bytes, settings_of, raw_at, customer_at, settings_at, exact_at}
use Rattle.customer.specs.declared.Changeover.{Changeover}

-- ---- widths

pub pair_scalar : scalar pair_shape ≡ true
unfolding both
pair_scalar = refl

pub terms_scalar : scalar terms_shape ≡ true
unfolding both
terms_scalar = refl

-- a customer whose arrays have their lengths
pub customer_sized : (c : Customer) → length c.who ≡ 25 → length c.stamps ≡ 64 → length c.once ≡ 64
    → Sized customer_shape (customer_to c)
customer_sized c n m q = (n, (sized terms_shape terms_scalar (terms_to c), (m, q)))

pub customer_width : (c : Customer) → Sized customer_shape (customer_to c) → length (customer_bytes c) ≡ record_width
unfolding customer_bytes width
customer_width c h = wide customer_shape (customer_to c) h

pub settings_width_lem : (s : Settings) → Sized settings_shape (settings_to s) → length (settings_bytes s) ≡ settings_width
unfolding settings_bytes width
settings_width_lem s h = wide settings_shape (settings_to s) h

-- ---- the fields are the customer's

previous_there : (p : Option Changeover) → previous_from (previous_to p) ≡ p
previous_there None = refl
previous_there (Some p) = refl

previous_back : (v : Value (perhaps previous_held)) → previous_to (previous_from v) ≡ v
previous_back none = refl
previous_back (some v) = refl

pub customer_there : (c : Customer) → customer_from (customer_to c) ≡ c
customer_there c =
    let p = previous_there c.transport.previous in
    let q = previous_there c.working.previous in
    λ i. record {
      who = c.who;
      types = c.types;
      agreed = c.agreed;
      leave = c.leave;
      length = c.length;
      transport = record { generation = c.transport.generation; key = c.transport.key; previous = p i };
      working = record { generation = c.working.generation; key = c.working.key; previous = q i };
      count = c.count;
      stamps = c.stamps;
      once = c.once;
    }

pub customer_back : (v : Value customer_shape) → customer_to (customer_from v) ≡ v
customer_back (who, ((types, (agreed, (leave, (days, ((g, (k, p)), ((g', (k', p')), count)))))), stamps)) =
    λ i. (who, ((types, (agreed, (leave, (days, ((g, (k, previous_back p i)), ((g', (k', previous_back p' i)), count)))))), stamps))

-- ---- the test of a customer's bytes looks at the two flags and the two previous keys

pub customer_test : (at : ℕ) (l : List ℕ) → ok customer_shape at l
    ≡ (ltb (num (part (at + 27) 1 l)) 2
    && (ltb (num (part (at + 28) 1 l)) 2 && (ok (perhaps previous_held) (at + 39) l && ok (perhaps previous_held) (at + 66) l)))
unfolding ok width
customer_test at l = simp (both_is, and-true, and_assoc, add_assoc)

-- and each of its fields is tested at its place
pub sound_test : (at : ℕ) (l : List ℕ) → sound_customer (customer_from (dec customer_shape at l))
    ≡ (sound_who (part at 25 l)
    && (ltb (num (part (at + 25) 2 l)) 65536
    && (leb 1 (num (part (at + 29) 1 l))
    && (leb (num (part (at + 29) 1 l)) 60
    && (sound_keys (pair_from (dec pair_shape (at + 30) l))
    && (sound_keys (pair_from (dec pair_shape (at + 57) l))
    && (leb (num (part (at + 84) 1 l)) 64
    && sound_stamps (num (part (at + 84) 1 l)) (dec (numbers 64 8) (at + 85) l) (dec (numbers 64 8) (at + 85 + 512) l))))))))
unfolding sound_customer dec width
sound_test at l = simp (both_is, between_is, and_assoc, add_assoc)

-- ---- where there is room, and where not

module _ (w at : ℕ) (l : List ℕ) where
  raw_fits : at + w ≤ length l → raw_at w at l ≡ part at w l
  unfolding raw_at
  raw_fits h = picks (leb (at + w) (length l)) (part at w l) (replicate w 0) (le-leb (at + w) (length l) h)

  raw_past : length l < at + w → raw_at w at l ≡ replicate w 0
  unfolding raw_at
  raw_past h = skips (leb (at + w) (length l)) (part at w l) (replicate w 0) (lt-leb (at + w) (length l) h)

module _ (at : ℕ) (l : List ℕ) where
  pub customer_at_lem : at + record_width ≤ length l → customer_at at l ≡ customer_from (dec customer_shape at l)
  unfolding customer_at customer_of width
  customer_at_lem h =
      ap (λ (x : List ℕ). customer_from (dec customer_shape 0 x)) (raw_fits record_width at l h)
      ∙ ap customer_from (dec-part customer_shape at record_width 0 l (omega arith) ∙ ap (λ (k : ℕ). dec customer_shape k l) (add-zero at))

  pub customer_past : length l < at + record_width → customer_at at l ≡ customer_of (replicate record_width 0)
  unfolding customer_at
  customer_past h = ap customer_of (raw_past record_width at l h)

  pub settings_at_lem : at + settings_width ≤ length l → settings_at at l ≡ settings_from (dec settings_shape at l)
  unfolding settings_at settings_of width
  settings_at_lem h =
      ap (λ (x : List ℕ). settings_from (dec settings_shape 0 x)) (raw_fits settings_width at l h)
      ∙ ap settings_from (dec-part settings_shape at settings_width 0 l (omega arith) ∙ ap (λ (k : ℕ). dec settings_shape k l) (add-zero at))

  pub settings_past : length l < at + settings_width → settings_at at l ≡ settings_of (replicate settings_width 0)
  unfolding settings_at
  settings_past h = ap settings_of (raw_past settings_width at l h)

-- ---- the bytes are exact where they pass the layout's test

customer_exact : (at : ℕ) (l : List ℕ) → AllBytes l → at + record_width ≤ length l
    → ok customer_shape at l ≡ same (customer_bytes (customer_from (dec customer_shape at l))) (part at record_width l)
unfolding customer_bytes width
customer_exact at l b h =
    exact customer_shape at l b h
    ∙ ap (λ (v : Value customer_shape). same (enc customer_shape v) (part at record_width l)) (sym (customer_back (dec customer_shape at l)))

module _ (at : ℕ) (l : List ℕ) where
  pub exact_at_lem : AllBytes l → at + record_width ≤ length l → ok customer_shape at l ≡ exact_at at l
  unfolding exact_at
  exact_at_lem b h =
      customer_exact at l b h
      ∙ sym (λ i. same (customer_bytes (customer_at_lem at l h i)) (raw_fits record_width at l h i))

  -- and the customer that they say is sound
  sound_there : AllBytes l → at + record_width ≤ length l
      → both (exact_at at l) (sound_customer (customer_at at l))
      ≡ both (ok customer_shape at l) (sound_customer (customer_from (dec customer_shape at l)))
  sound_there b h = λ i. both (sym (exact_at_lem b h) i) (sound_customer (customer_at_lem at l h i))

-- zero bytes say no customer: a changeover has at least a day
zeros_unsound : sound_customer (customer_of (replicate record_width 0)) ≡ false
unfolding sound_customer customer_of dec width part num
zeros_unsound = sym (later _ _ (later _ _ (stop _ _ (between_below 1 60 0 (omega arith)))))

pub sound_at : (at : ℕ) (l : List ℕ) → AllBytes l → both (exact_at at l) (sound_customer (customer_at at l))
    ≡ (leb (at + 1109) (length l) && (ok customer_shape at l && sound_customer (customer_from (dec customer_shape at l))))
sound_at at l b = elim (below (length l) (at + 1109)) [
  | inl h ↦ fails_right _ _ (ap sound_customer (customer_past at l h) ∙ zeros_unsound)
      ∙ sym (ap (λ (t : Bool). t && (ok customer_shape at l && sound_customer (customer_from (dec customer_shape at l)))) (lt-leb (at + 1109) (length l) h))
  | inr h ↦ sound_there at l b h
      ∙ both_is _ _
      ∙ sym (ap (λ (t : Bool). t && (ok customer_shape at l && sound_customer (customer_from (dec customer_shape at l)))) (le-leb (at + 1109) (length l) h))
]
