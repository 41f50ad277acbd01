-- The bytes of a table by their places: its parts stand one after the other, each of the width that its count gives.
-- Assumes nothing.
use mathlib.Core.Path.{◌≡◌, refl, sym, ap, ap₂, ◌∙◌}
use mathlib.Core.List.{List, [], ◌∷◌, ◌++◌, map}
use mathlib.Core.Bool.{true}
use Prim.Native.Nat.{ℕ, ◌≤◌}
use native.Mathlib.Omega.{arith}
use borrow.Author.Tests.{eqb-true}
use lib.ListN.{length, drop, length-append, length-drop, length-map}
use lib.Seq.{drop_at}
use Rattle.ground.proofs.Choices.{left, right}
use Rattle.ground.specs.Lists.{Each}
use Rattle.codec.specs.Layout.{number, width, Sized}
use Rattle.codec.proofs.Laws.{wide}
use Rattle.customer_bytes.specs.Layout.{customer_shape, settings_shape, customer_to, settings_to}
use Rattle.customer_bytes.proofs.Laws.{customer_sized}
use Rattle.customer.specs.declared.Customer.{Customer}
use Rattle.customer.specs.declared.Settings.{Settings}
use Rattle.table.specs.Table.{Table, customer_fits, settings_fit, each_sound, sound_table}
use Rattle.table.specs.Written.{table_size, total_length, table_shape, table_to, encode, written, WrittenAs}
use Rattle.table.proofs.Sound

-- ---- widths

pub customer_wide : (c : Customer) → customer_fits c ≡ true → Sized customer_shape (customer_to c)
unfolding customer_fits
customer_wide c e =
    let e₁ = right _ _ e in
    let e₂ = right _ _ e₁ in
    customer_sized c (eqb-true _ _ (left _ _ e)) (eqb-true _ _ (left _ _ e₁)) (eqb-true _ _ (left _ _ e₂))

settings_wide : (s : Settings) → settings_fit s ≡ true → Sized settings_shape (settings_to s)
unfolding settings_fit
settings_wide s e = (eqb-true _ _ (left _ _ e), (eqb-true _ _ (left _ _ (right _ _ e)), (tt, (tt, tt))))

-- each record has its lengths
abbrev pub Wide : List Customer → Type 0
Wide l = Each (Sized customer_shape) (map customer_to l)

each_wide : (l : List Customer) → each_sound l ≡ true → Wide l
unfolding each_sound
each_wide [] e = tt
each_wide (c ∷ l) e = (customer_wide c (left _ _ (left _ _ e)), each_wide l (right _ _ e))

pub wide_more : (l : List Customer) (c : Customer) → Wide l → Sized customer_shape (customer_to c) → Wide (l ++ (c ∷ []))
wide_more [] c w e = (e, tt)
wide_more (a ∷ l) c w e = (w.0, wide_more l c w.1 e)

pub dates_wide : (l : List ℕ) → Each (Sized (number 4)) l
dates_wide [] = tt
dates_wide (x ∷ l) = (tt, dates_wide l)

-- a table whose arrays have their lengths
abbrev pub Fit : Table → Type 0
Fit t = Sized (table_shape (length t.holidays) (length t.customers)) (table_to t)

pub fit : (t : Table) → Sized settings_shape (settings_to t.settings) → Wide t.customers → Fit t
fit t s w =
    ((tt, (tt, (tt, (tt, (tt, tt))))), (s, ((refl, dates_wide t.holidays), (length-map t.customers customer_to, w))))

pub sound_fit : (t : Table) → sound_table t ≡ true → Fit t
sound_fit t e =
    let s = Sound.parts t e in
    fit t (settings_wide t.settings s.fit) (each_wide t.customers s.each)

pub encode-length : (t : Table) → Fit t → length (encode t) ≡ total_length (length t.holidays) (length t.customers)
unfolding encode width
encode-length t f =
    omega (arith, wide (table_shape (length t.holidays) (length t.customers)) (table_to t) f)

-- a sound table fits into the bytes that are lent
pub fits : (t : Table) → sound_table t ≡ true → length (encode t) ≤ table_size
fits t e =
    let s = Sound.parts t e in
    omega (arith, encode-length t (sound_fit t e), s.holidays, s.customers)

-- ---- a table written over bytes

-- what stands past the table stays
pub rest_stays : (b : List ℕ) (u : Table) → drop (length (encode u)) (written b u) ≡ drop (length (encode u)) b
unfolding written
rest_stays b u = drop_at (encode u) _ (length (encode u)) refl

pub written_sized : (b : List ℕ) (u : Table) → length b ≡ table_size → sound_table u ≡ true → WrittenAs u (written b u)
unfolding written
written_sized b u n e =
    record {
      sound = e;
      rest = drop (length (encode u)) b;
      bytes = refl;
      size = simp (length-append, length-drop) (omega (arith, fits u e));
    }

-- a table of the same length that is there with the same rest is written
pub as_written : (b b' r : List ℕ) (t u : Table) → b ≡ encode t ++ r → b' ≡ encode u ++ r → length b' ≡ length b → b' ≡ written b u
unfolding written
as_written b b' r t u is e l =
    let q : length (encode u) ≡ length (encode t) =
    omega (arith, ap length is, length-append (encode t) r, ap length e, length-append (encode u) r) in
    e ∙ sym (ap (λ (y : List ℕ). encode u ++ y) (ap₂ drop q is ∙ drop_at (encode t) r (length (encode t)) refl))
