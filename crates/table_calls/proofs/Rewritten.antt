-- Parts written one after the other: what is there after each is a table again, and the last one written is the whole.
-- Assumes nothing.
use Rattle.std.specs.Prelude.{Some}
use mathlib.Core.Path.{◌≡◌, refl, sym, ap, ◌∙◌}
use mathlib.Core.List.{List, [], ◌∷◌, ◌++◌}
use mathlib.Core.Bool.{true}
use Prim.Native.Nat.{ℕ, zero, suc, ◌^◌, ◌<◌}
use native.Mathlib.Nat.{not-suc-le-zero, le_of_suc-le-suc}
use borrow.Author.Tests.{eq-eqb, ne_eqb}
use lib.ListN.{length, drop, get_or}
use lib.Seq.{drop_at}
use Rattle.ground.specs.Choice.{both}
use Rattle.ground.proofs.Choices.{left, right, picks, skips}
use Rattle.calendar.specs.Dates.{real_date}
use Rattle.customer.specs.Customer.{sound_customer}
use Rattle.customer.specs.declared.Customer.{Customer}
use Rattle.table.specs.Table.{Table, customer_fits, each_sound, sound_table, place_of, nobody, customer_in, with_day, with_seed}
use Rattle.table.specs.Named.{named, with_named}
use Rattle.table.specs.Written.{encode, written}
use Rattle.table.specs.Decode.{table_of, is_table}
use Rattle.table.specs.Stored.{day_stored, seed_stored, customer_stored}
use Rattle.table.proofs.Places.{found_is, named_at, with_named_at}
use Rattle.table.proofs.Sound
use Rattle.table.proofs.Encode
use Rattle.table.proofs.Decode
use Rattle.table.proofs.Stores
use Rattle.table_calls.specs.Calls.{leaves}

-- ---- what a call leaves

pub served_leaves : (n : ℕ) (b : List ℕ) (t : Table) → n ≡ 0 → leaves n b t ≡ written b t
unfolding leaves
served_leaves n b t z = picks _ _ _ (eq-eqb n 0 z)

-- a refused call leaves every byte
pub refused_leaves : (n : ℕ) (b : List ℕ) (t : Table) → (n ≡ 0 → ⊥) → leaves n b t ≡ b
unfolding leaves
refused_leaves n b t z = skips _ _ _ (ne_eqb n 0 z)

pub refused_as : (r n : ℕ) (b : List ℕ) (t : Table) → r ≡ n → (r ≡ 0 → ⊥) → b ≡ leaves n b t
refused_as r n b t e h = sym (refused_leaves n b t (λ q. h (e ∙ q)))

-- ---- one table written over another of its length

pub written_twice : (b : List ℕ) (u v : Table) → length (encode u) ≡ length (encode v) → written (written b u) v ≡ written b v
unfolding written
written_twice b u v l =
    ap (λ (x : List ℕ). encode v ++ x)
    (ap (λ (n : ℕ). drop n (encode u ++ drop (length (encode u)) b)) (sym l)
    ∙ drop_at (encode u) _ (length (encode u)) refl
    ∙ ap (λ (n : ℕ). drop n b) l)

day_length : (u : Table) (d : ℕ) → sound_table u ≡ true → real_date d ≡ true → length (encode u) ≡ length (encode (with_day u d))
unfolding with_day
day_length u d s r =
    Encode.encode-length u (Encode.sound_fit u s)
    ∙ sym (Encode.encode-length (with_day u d) (Encode.sound_fit (with_day u d) (Sound.sound_day u d s r)))

seed_length : (u : Table) (v : ℕ) → sound_table u ≡ true → v < 2 ^ 64 → length (encode u) ≡ length (encode (with_seed u v))
unfolding with_seed
seed_length u v s h =
    Encode.encode-length u (Encode.sound_fit u s)
    ∙ sym (Encode.encode-length (with_seed u v) (Encode.sound_fit (with_seed u v) (Sound.sound_seed u v s h)))

-- b is a table and x is b with the table u written over it
module _ (b x : List ℕ) (u : Table) (e : is_table b ≡ true) (s : sound_table u ≡ true) (is : x ≡ written b u) where
  is_x : is_table x ≡ true
  is_x = ap is_table is ∙ (Decode.rewritten_is b u e s).0

  says_x : table_of x ≡ u
  says_x = ap table_of is ∙ (Decode.rewritten_is b u e s).1

  -- then another day, and another seed
  pub day_after : (d : ℕ) → real_date d ≡ true → day_stored x d ≡ written b (with_day u d)
  day_after d r =
      Stores.day_is x is_x d
      ∙ ap (λ (t : Table). written x (with_day t d)) says_x
      ∙ ap (λ (y : List ℕ). written y (with_day u d)) is
      ∙ written_twice b u (with_day u d) (day_length u d s r)

  pub seed_after : (v : ℕ) → v < 2 ^ 64 → seed_stored x v ≡ written b (with_seed u v)
  seed_after v h =
      Stores.seed_is x is_x v
      ∙ ap (λ (t : Table). written x (with_seed t v)) says_x
      ∙ ap (λ (y : List ℕ). written y (with_seed u v)) is
      ∙ written_twice b u (with_seed u v) (seed_length u v s h)

-- ---- the customer of a name

each_at : (l : List Customer) (i : ℕ) (d : Customer) → each_sound l ≡ true → i < length l
    → both (customer_fits (get_or l i d)) (sound_customer (get_or l i d)) ≡ true
unfolding each_sound
each_at [] i d e h = absurd (not-suc-le-zero h)
each_at (c ∷ l) zero d e h = left _ _ e
each_at (c ∷ l) (suc i) d e h = each_at l i d (right _ _ e) (le_of_suc-le-suc h)

module _ (t : Table) (s : sound_table t ≡ true) (who : List ℕ) (i : ℕ) (p : place_of t who ≡ Some i) where
  here : both (customer_fits (customer_in t i)) (sound_customer (customer_in t i)) ≡ true
  unfolding customer_in
  here = each_at t.customers i nobody (Sound.parts t s).each (found_is t who i p).0

  pub named_fits : customer_fits (named t who) ≡ true
  named_fits = ap customer_fits (named_at t who i p) ∙ left _ _ here

  pub named_sound : sound_customer (named t who) ≡ true
  named_sound = ap sound_customer (named_at t who i p) ∙ right _ _ here

  -- another record for the customer of the name, with the same name
  pub sound_named : (c : Customer) → customer_fits c ≡ true → sound_customer c ≡ true → c.who ≡ (named t who).who
      → sound_table (with_named t who c) ≡ true
  sound_named c f o w =
      ap sound_table (with_named_at t who i c p)
      ∙ Sound.sound_with t i c s f o (w ∙ ap (λ (d : Customer). d.who) (named_at t who i p))

pub stored_named : (b : List ℕ) → is_table b ≡ true → (who : List ℕ) (i : ℕ) → place_of (table_of b) who ≡ Some i
    → (c : Customer) → customer_fits c ≡ true → customer_stored b i c ≡ written b (with_named (table_of b) who c)
stored_named b e who i p c f =
    Stores.store_is b e i c (found_is (table_of b) who i p).0 f
    ∙ ap (written b) (sym (with_named_at (table_of b) who i c p))
