-- A table that is written is read back as itself, and bytes that are a table are written as the one that they say.
-- Assumes nothing.
use mathlib.Core.Path.{◌≡◌, refl, sym, ap, ap₂, ◌∙◌}
use mathlib.Core.List.{List, [], ◌∷◌, ◌++◌, map}
use mathlib.Core.Bool.{true}
use Prim.Native.Nat.{ℕ, min}
use native.Mathlib.Omega.{arith}
use borrow.Author.Tests.{eqb-true, eq-eqb, ne_eqb}
use lib.ListN.{length, take, drop, length-map, take-append-drop}
use lib.Seq.{take_at}
use Rattle.ground.specs.Lists.{all, part, same, Each}
use Rattle.ground.proofs.Choices.{left, right, join, picks, skips, same-eq, eq-same}
use Rattle.ground.proofs.Parts.{part_start}
use Rattle.calendar.specs.Dates.{real_date}
use Rattle.splices.specs.Bytes.{num}
use Rattle.codec.specs.Layout.{number, Value, width, enc, dec, Fits}
use Rattle.codec.proofs.Laws.{wide, back}
use Rattle.customer_bytes.specs.Layout.{customer_shape, settings_shape, customer_from, customer_to, settings_from, settings_at}
use Rattle.customer_bytes.proofs.Laws.{customer_there}
use Rattle.customer.specs.declared.Customer.{Customer}
use Rattle.table.specs.Table.{Table, each_sound, sound_table}
use Rattle.table.specs.Written.{table_size, settings_start, holidays_start, customers_start, header_shape, table_shape}
use Rattle.table.specs.Written.{header_to, table_to, encode, written, WrittenAs}
use Rattle.table.specs.Decode.{holidays_in, customers_in, holiday_count, customer_count, table_from, table_of, is_table}
use Rattle.table.specs.Tests.{dates_at, customers_at}
use Rattle.table.proofs.Shapes.{real_lt, customer_shaped, settings_shaped}
use Rattle.table.proofs.Sound
use Rattle.table.proofs.Encode

-- ---- the table that bytes of the right length say

-- by its parts, with the counts that the header says
abbrev pub table_at : ℕ → ℕ → List ℕ → Table
table_at h n b =
    record {
      day = num (part 4 4 b);
      settings = settings_from (dec settings_shape settings_start b);
      holidays = dates_at holidays_start h b;
      customers = customers_at (customers_start h) n b;
    }

-- that is what its fields are
pub table_parts : (h n : ℕ) (b : List ℕ) → table_from h n (dec (table_shape h n) 0 b) ≡ table_at h n b
unfolding dec width dates_at customers_at
table_parts h n b = refl

said_sized : (b : List ℕ) → length b ≡ table_size → table_of b
    ≡ table_from (holiday_count b) (customer_count b) (dec (table_shape (holiday_count b) (customer_count b)) 0 b)
unfolding table_of
said_sized b n = picks {A = Table} _ _ _ (eq-eqb (length b) table_size n)

pub table_sized : (b : List ℕ) → length b ≡ table_size → table_of b ≡ table_at (holiday_count b) (customer_count b) b
table_sized b n = said_sized b n ∙ table_parts (holiday_count b) (customer_count b) b

-- bytes of any other length say a table without holidays and customers
pub table_other : (b : List ℕ) → (length b ≡ table_size → ⊥) → table_of b
    ≡ record { day = 0; settings = settings_at 0 []; holidays = []; customers = [] }
unfolding table_of
table_other b n = skips {A = Table} _ _ _ (ne_eqb (length b) table_size n)

-- ---- a sound table's numbers fit their bytes

dates_fit : (l : List ℕ) → all real_date l ≡ true → Each (Fits (number 4)) l
unfolding all
dates_fit [] e = tt
dates_fit (d ∷ l) e = (real_lt d (left _ _ e), dates_fit l (right _ _ e))

records_fit : (l : List Customer) → each_sound l ≡ true → Each (Fits customer_shape) (map customer_to l)
unfolding each_sound
records_fit [] e = tt
records_fit (c ∷ l) e =
    let o = left _ _ e in
    (customer_shaped c (left _ _ o) (right _ _ o), records_fit l (right _ _ e))

table_fits : (t : Table) → sound_table t ≡ true → Fits (table_shape (length t.holidays) (length t.customers)) (table_to t)
table_fits t e =
    let s = Sound.parts t e in (
      (
        omega (arith, s.holidays, s.customers),
        (
          real_lt t.day s.day,
          (omega (arith, s.holidays), (omega arith, (omega (arith, s.customers), omega (arith, s.holidays)))),
        ),
      ),
      (
        settings_shaped t.settings s.fit s.settings,
        ((refl, dates_fit t.holidays s.dates), (length-map t.customers customer_to, records_fit t.customers s.each)),
      ),
    )

-- its fields are its own
records_there : (l : List Customer) → map customer_from (map customer_to l) ≡ l
records_there [] = refl
records_there (c ∷ l) = ap₂ ◌∷◌ (customer_there c) (records_there l)

-- ---- b is a sound table, written, and more

module _ (t : Table) (e : sound_table t ≡ true) (r b : List ℕ) (is : b ≡ encode t ++ r) (n : length b ≡ table_size) where
  pub part_is : part 0 (width (table_shape (length t.holidays) (length t.customers))) b
      ≡ enc (table_shape (length t.holidays) (length t.customers)) (table_to t)
  unfolding encode
  part_is =
      let s = table_shape (length t.holidays) (length t.customers) in
      part_start b (width s)
      ∙ ap (take (width s)) is
      ∙ take_at (enc s (table_to t)) r (width s) (wide s (table_to t) (Encode.sound_fit t e))

  -- its fields are read back
  pub said : dec (table_shape (length t.holidays) (length t.customers)) 0 b ≡ table_to t
  said = back (table_shape (length t.holidays) (length t.customers)) (table_to t) (table_fits t e) 0 b part_is

  pub header_is : dec header_shape 0 b ≡ header_to t.day (length t.holidays) (length t.customers)
  unfolding dec
  header_is = ap (λ (v : Value (table_shape (length t.holidays) (length t.customers))). v.0) said

  pub count_h : holiday_count b ≡ length t.holidays
  count_h =
      let k : min 200 (length t.holidays) ≡ length t.holidays = omega (arith, (Sound.parts t e).holidays) in
      ap (λ (v : Value header_shape). min 200 (holidays_in v)) header_is ∙ k

  pub count_c : customer_count b ≡ length t.customers
  count_c =
      let k : min 32 (length t.customers) ≡ length t.customers = omega (arith, (Sound.parts t e).customers) in
      ap (λ (v : Value header_shape). min 32 (customers_in v)) header_is ∙ k

  pub table_is : table_of b ≡ t
  table_is =
      let h = length t.holidays in
      let m = length t.customers in
      said_sized b n
      ∙ ap₂ (λ (x y : ℕ). table_from x y (dec (table_shape x y) 0 b)) count_h count_c
      ∙ ap (table_from h m) said
      ∙ (λ i. record { day = t.day; settings = t.settings; holidays = t.holidays; customers = records_there t.customers i })

  pub table_ok : is_table b ≡ true
  unfolding is_table
  table_ok =
      join _ _ (eq-eqb (length b) table_size n)
      (join _ _ (ap sound_table table_is ∙ e)
      (ap (λ (u : Table). same (encode u) (take (length (encode u)) b)) table_is
      ∙ eq-same _ _ (sym (ap (take (length (encode t))) is ∙ take_at (encode t) r (length (encode t)) refl))))

-- ---- refusal 2 is exact

-- bytes that a table is written as are a table, and say that one
pub written_is : (t : Table) (b : List ℕ) → WrittenAs t b → (is_table b ≡ true) × (table_of b ≡ t)
written_is t b w =
    (table_ok t w.sound w.rest b w.bytes w.size, table_is t w.sound w.rest b w.bytes w.size)

-- bytes that are a table are what the table they say is written as
pub is_written : (b : List ℕ) → is_table b ≡ true → WrittenAs (table_of b) b
unfolding is_table
is_written b e =
    let t = table_of b in
    let p : encode t ≡ take (length (encode t)) b = same-eq _ _ (right _ _ (right _ _ e)) in
    record {
      sound = left _ _ (right _ _ e);
      rest = drop (length (encode t)) b;
      bytes = sym (ap (λ (x : List ℕ). x ++ drop (length (encode t)) b) p ∙ take-append-drop (length (encode t)) b);
      size = eqb-true _ _ (left _ _ e);
    }

-- ---- a table written over another

-- a sound table may be written over a table, and is there then
pub rewritten : (b : List ℕ) (u : Table) → is_table b ≡ true → sound_table u ≡ true → WrittenAs u (written b u)
rewritten b u e s = Encode.written_sized b u (is_written b e).size s

pub rewritten_is : (b : List ℕ) (u : Table) → is_table b ≡ true → sound_table u ≡ true → (is_table (written b u) ≡ true)
    × (table_of (written b u) ≡ u)
rewritten_is b u e s = written_is u (written b u) (rewritten b u e s)
