-- Bytes are a table just when the tests that `is_table` makes hold: the header says what the counts give, and every record is exact.
-- Assumes nothing.
use Rattle.std.specs.Prelude.{◌&&◌}
use Rattle.ground.proofs.Std.{both_is}
use lib.Dec.{eqb, leb}
use mathlib.Core.Path.{◌≡◌, refl, sym, ap, ap₂, ◌∙◌}
use mathlib.Core.List.{List, [], ◌∷◌, map}
use mathlib.Core.Bool.{Bool, true}
use Prim.Native.Nat.{ℕ, zero, suc, ◌+◌, ◌*◌, ◌≤◌, min}
use native.Mathlib.Omega.{arith}
use borrow.Author.Tests.{eqb-true, eq-eqb, leb-true, le-leb}
use lib.ListN.{length, take}
use Rattle.ground.specs.Choice.{both}
use Rattle.ground.specs.Lists.{all, part, same}
use Rattle.ground.proofs.Choices.{left, right, join, same-eq, eq-same}
use Rattle.ground.proofs.Bools.{decided}
use Rattle.ground.proofs.Parts.{part_length, part_start}
use Rattle.calendar.specs.Dates.{real_date}
use Rattle.splices.specs.Bytes.{num}
use Rattle.splices.proofs.Splice.{AllBytes}
use Rattle.codec.specs.Layout.{number, many, Value, width, enc, every, dec, ok}
use Rattle.codec.proofs.Laws.{exact, dec_fits}
use Rattle.customer_bytes.specs.Layout.{record_width, customer_shape, settings_shape, customer_from, customer_to, settings_from, settings_at}
use Rattle.customer_bytes.proofs.Laws.{customer_back, customer_at_lem, exact_at_lem, settings_at_lem}
use Rattle.customer.specs.Settings.{sound_settings}
use Rattle.customer.specs.declared.Customer.{Customer}
use Rattle.table.specs.Table.{Table, customer_fits, distinct, each_sound, sound_table, rising}
use Rattle.table.specs.Written.{table_size, settings_start, holidays_start, customers_start, total_length, header_shape, table_shape}
use Rattle.table.specs.Written.{header_to, table_to, encode}
use Rattle.table.specs.Decode.{holiday_count, customer_count, table_of, is_table}
use Rattle.table.specs.Tests.{dates_at, customers_at, ok_head, ok_header, ok_dates, ok_records}
use Rattle.table.proofs.Fits.{customer_fits_lem, settings_fit_lem}
use Rattle.table.proofs.Sound
use Rattle.table.proofs.Decode
use Rattle.table.proofs.Decode.{table_at, table_sized}
use Rattle.table.proofs.Turns

-- ---- what the header says

-- the number of four bytes at p
abbrev pub four : ℕ → List ℕ → ℕ
four p b = num (part p 4 b)

pub record Header (b : List ℕ) : Type 0 where
  pub holidays : four 8 b ≤ 200
  pub customers : four 16 b ≤ 32
  pub start : four 12 b ≡ holidays_start
  pub offset : four 20 b ≡ customers_start (four 8 b)
  pub total : four 0 b ≡ total_length (four 8 b) (four 16 b)

pub head : (b : List ℕ) → ok_header b ≡ true → Header b
unfolding ok_header dec width
head b e =
    let e₁ = right _ _ e in
    let e₂ = right _ _ e₁ in
    let e₃ = right _ _ e₂ in
    record {
      holidays = leb-true _ _ (left _ _ e);
      customers = leb-true _ _ (left _ _ e₁);
      start = eqb-true _ _ (left _ _ e₂);
      offset = eqb-true _ _ (left _ _ e₃);
      total = eqb-true _ _ (right _ _ e₃);
    }

-- the counts are among them
pub counts : (b : List ℕ) → (holiday_count b ≡ min 200 (four 8 b)) × (customer_count b ≡ min 32 (four 16 b))
unfolding dec width
counts b = (refl, refl)

-- ---- the records

-- n records from p on
pub record Records (n p : ℕ) (b : List ℕ) : Type 0 where
  pub each : each_sound (customers_at p n b) ≡ true
  pub distinct : distinct (customers_at p n b) ≡ true
  pub exact : ok (many n customer_shape) p b ≡ true

-- the test of the first and of those past it
ok-suc : (n p : ℕ) (b : List ℕ) → ok (many (suc n) customer_shape) p b
    ≡ both (ok customer_shape p b) (ok (many n customer_shape) (p + record_width) b)
unfolding ok every width
ok-suc n p b = refl

ok-zero : (p : ℕ) (b : List ℕ) → ok (many 0 customer_shape) p b ≡ true
unfolding ok every
ok-zero p b = refl

-- what a record takes
room : (p : ℕ) (b : List ℕ) → p + record_width ≤ length b → p + width customer_shape ≤ length b
unfolding width
room p b h = h

module _ (b : List ℕ) (bs : AllBytes b) where
  records_ok : (n p : ℕ) → p + record_width * n ≤ length b → Records n p b → ok_records n p b ≡ true
  unfolding each_sound distinct
  records_ok zero p h r = sym (Turns.records_end p 0 b refl)
  records_ok (suc n) p h r =
      let k : p + record_width ≤ length b = omega arith in
      let c : Customer = customer_from (dec customer_shape p b) in
      let s : customers_at p (suc n) b ≡ c ∷ customers_at (p + record_width) n b = Turns.customers_suc p (suc n) n b refl in
      let e : each_sound (c ∷ customers_at (p + record_width) n b) ≡ true = ap each_sound (sym s) ∙ r.each in
      let d : distinct (c ∷ customers_at (p + record_width) n b) ≡ true = ap distinct (sym s) ∙ r.distinct in
      let x = sym (ok-suc n p b) ∙ r.exact in
      Turns.records_step c p (suc n) n b refl (sym (customer_at_lem p b k))
      ∙ join _ _ (sym (exact_at_lem p b bs k) ∙ left _ _ x)
      (join _ _ (right _ _ (left _ _ e))
      (join _ _ (left _ _ d)
      (records_ok n (p + record_width) (omega arith) (record { each = right _ _ e; distinct = right _ _ d; exact = right _ _ x }))))

  ok_records_lem : (n p : ℕ) → p + record_width * n ≤ length b → ok_records n p b ≡ true → Records n p b
  unfolding each_sound distinct
  ok_records_lem zero p h o =
      let s : customers_at p 0 b ≡ [] = Turns.customers_none p 0 b refl in
      record { each = ap each_sound s; distinct = ap distinct s; exact = ok-zero p b }
  ok_records_lem (suc n) p h o =
      let k : p + record_width ≤ length b = omega arith in
      let c : Customer = customer_from (dec customer_shape p b) in
      let s : customers_at p (suc n) b ≡ c ∷ customers_at (p + record_width) n b = Turns.customers_suc p (suc n) n b refl in
      let o₁ = sym (Turns.records_step c p (suc n) n b refl (sym (customer_at_lem p b k))) ∙ o in
      let o₂ = right _ _ o₁ in
      let o₃ = right _ _ o₂ in
      let r = ok_records_lem n (p + record_width) (omega arith) (right _ _ o₃) in
      let f : customer_fits c ≡ true = customer_fits_lem (dec customer_shape p b) (dec_fits customer_shape p b bs (room p b k)) in
      record {
        each = ap each_sound s ∙ join _ _ (join _ _ f (left _ _ o₂)) r.each;
        distinct = ap distinct s ∙ join _ _ (left _ _ o₃) r.distinct;
        exact = ok-suc n p b ∙ join _ _ (exact_at_lem p b bs k ∙ left _ _ o₁) r.exact;
      }

-- ---- the tests that are made

pub record Facts (b : List ℕ) : Type 0 where
  pub size : length b ≡ table_size
  pub head : ok_header b ≡ true
  pub day : real_date (four 4 b) ≡ true
  pub settings : sound_settings (settings_from (dec settings_shape settings_start b)) ≡ true
  pub dates : ok_dates (dates_at holidays_start (holiday_count b) b) ≡ true
  pub records : ok_records (customer_count b) (customers_start (holiday_count b)) b ≡ true

-- ---- the fields of the table that bytes say are what they say, where its header is what its counts give

records_back : (l : List (Value customer_shape)) → map customer_to (map customer_from l) ≡ l
records_back [] = refl
records_back (v ∷ l) = ap₂ ◌∷◌ (customer_back v) (records_back l)

-- numbers are exact whatever they are
dates_ok : (n p : ℕ) (b : List ℕ) → ok (many n (number 4)) p b ≡ true
unfolding ok every width
dates_ok zero p b = refl
dates_ok (suc n) p b = join _ _ refl (dates_ok n (p + 4) b)

-- the test of a table's layout is that of its records
shape_ok : (h n : ℕ) (b : List ℕ) → ok (many n customer_shape) (customers_start h) b ≡ true → ok (table_shape h n) 0 b ≡ true
unfolding ok width both
shape_ok h n b e = join _ _ (dates_ok h holidays_start b) e

ok_shape : (h n : ℕ) (b : List ℕ) → ok (table_shape h n) 0 b ≡ true → ok (many n customer_shape) (customers_start h) b ≡ true
unfolding ok width
ok_shape h n b e = right _ _ (right _ _ (right _ _ e))

shape_width : (h n : ℕ) → width (table_shape h n) ≡ total_length h n
unfolding width
shape_width h n = omega arith

pub facts : (b : List ℕ) → AllBytes b → is_table b ≡ true → Facts b
unfolding ok_dates ok_header
facts b bs e =
    let w = Decode.is_written b e in
    let t = table_of b in
    let n = w.size in
    let s = Sound.parts t w.sound in
    let is : t ≡ table_at (holiday_count b) (customer_count b) b = table_sized b n in
    let h = length t.holidays in
    let m = length t.customers in
    let x = Decode.count_h t w.sound w.rest b w.bytes n in
    let y = Decode.count_c t w.sound w.rest b w.bytes n in
    let z : width (table_shape h m) ≤ length b = omega (arith, shape_width h m, s.holidays, s.customers) in
    let cs : t.customers ≡ customers_at (customers_start (holiday_count b)) (customer_count b) b = ap (λ (u : Table). u.customers) is in
    let o : ok (table_shape h m) 0 b ≡ true =
    exact (table_shape h m) 0 b bs (omega arith)
    ∙ eq-same _ _ (ap (enc (table_shape h m)) (Decode.said t w.sound w.rest b w.bytes n)
    ∙ sym (Decode.part_is t w.sound w.rest b w.bytes n)) in
    record {
      size = n;
      head =
          ap ok_head (Decode.header_is t w.sound w.rest b w.bytes n)
          ∙ join _ _ (le-leb _ _ s.holidays)
          (join _ _ (le-leb _ _ s.customers)
          (join _ _ (eq-eqb holidays_start _ refl)
          (join _ _ (eq-eqb (customers_start h) _ refl) (eq-eqb (total_length h m) _ refl))));
      day = ap (λ (u : Table). real_date u.day) (sym is) ∙ s.day;
      settings = ap (λ (u : Table). sound_settings u.settings) (sym is) ∙ s.settings;
      dates = ap (λ (u : Table). both (all real_date u.holidays) (rising u.holidays)) (sym is) ∙ join _ _ s.dates s.rises;
      records =
          records_ok b bs (customer_count b) (customers_start (holiday_count b)) (omega (arith, s.holidays, s.customers))
          (record {
            each = ap each_sound (sym cs) ∙ s.each;
            distinct = ap distinct (sym cs) ∙ s.distinct;
            exact = ap₂ (λ (i j : ℕ). ok (many j customer_shape) (customers_start i) b) x y ∙ ok_shape h m b o;
          });
    }

-- ---- and back: what is read is written so

module _ (b : List ℕ) (bs : AllBytes b) (f : Facts b) where
  t : Table
  t = table_at (holiday_count b) (customer_count b) b

  header_is : header_to t.day (length t.holidays) (length t.customers) ≡ dec header_shape 0 b
  unfolding dec width t
  header_is =
      let h = head b f.head in
      let x : length (dates_at holidays_start (holiday_count b) b) ≡ four 8 b = Turns.dates_length holidays_start (holiday_count b) b
      ∙ omega (arith, h.holidays) in
      let y : length (customers_at (customers_start (holiday_count b)) (customer_count b) b)
      ≡ four 16 b = Turns.customers_length _ (customer_count b) b ∙ omega (arith, h.customers) in
      let u = ap₂ total_length x y ∙ sym h.total in
      let v = ap customers_start x ∙ sym h.offset in
      λ i. (u i, (four 4 b, (x i, (sym h.start i, (y i, v i)))))

  fields_are : table_to t ≡ dec (table_shape (holiday_count b) (customer_count b)) 0 b
  unfolding dec width dates_at customers_at t
  fields_are =
      let x = header_is in
      let y = records_back (dec (many (customer_count b) customer_shape) (customers_start (holiday_count b)) b) in
      λ i. (x i, (dec settings_shape settings_start b, (dec (many (holiday_count b) (number 4)) holidays_start b, y i)))

  records : Records (customer_count b) (customers_start (holiday_count b)) b
  records = ok_records_lem b bs (customer_count b) (customers_start (holiday_count b)) (omega (arith, f.size)) f.records

  encode_is : encode t ≡ part 0 (total_length (holiday_count b) (customer_count b)) b
  unfolding encode enc
  encode_is =
      let s = table_shape (holiday_count b) (customer_count b) in
      let z : 0 + width s ≤ length b = omega (arith, shape_width (holiday_count b) (customer_count b), f.size) in
      ap (enc s) fields_are
      ∙ same-eq _ _ (sym (exact s 0 b bs z) ∙ shape_ok (holiday_count b) (customer_count b) b records.exact)
      ∙ ap (λ (k : ℕ). part 0 k b) (shape_width (holiday_count b) (customer_count b))

  sound_is : sound_table t ≡ true
  unfolding ok_dates t width
  sound_is =
      let n = f.size in
      Sound.whole _
      (record {
        day = f.day;
        fit = settings_fit_lem (dec settings_shape settings_start b) (dec_fits settings_shape settings_start b bs (omega arith));
        settings = f.settings;
        holidays = omega (arith, Turns.dates_length holidays_start (holiday_count b) b);
        dates = left _ _ f.dates;
        rises = right _ _ f.dates;
        customers = omega (arith, Turns.customers_length (customers_start (holiday_count b)) (customer_count b) b);
        each = records.each;
        distinct = records.distinct;
      })

  pub table_from : is_table b ≡ true
  unfolding is_table t
  table_from =
      let T = total_length (holiday_count b) (customer_count b) in
      let l : length (encode t) ≡ T = ap length encode_is ∙ part_length b 0 T (omega (arith, f.size)) in
      let is : table_of b ≡ t = table_sized b f.size in
      join _ _ (eq-eqb (length b) table_size f.size)
      (join _ _ (ap sound_table is ∙ sound_is)
      (ap (λ (u : Table). same (encode u) (take (length (encode u)) b)) is
      ∙ eq-same _ _ (encode_is ∙ part_start b T ∙ ap (λ (k : ℕ). take k b) (sym l))))

-- ---- the tests, one after the other

pub header_test : (b : List ℕ) → ok_header b
    ≡ (leb (four 8 b) 200
    && (leb (four 16 b) 32
    && (eqb (four 12 b) 82
    && (eqb (four 20 b) (82 + 4 * four 8 b) && eqb (four 0 b) (82 + 4 * four 8 b + 1109 * four 16 b)))))
unfolding ok_header dec width
header_test b = simp both_is

pub table_test : (b : List ℕ) → AllBytes b → is_table b
    ≡ (eqb (length b) 49152
    && (ok_header b
    && (real_date (four 4 b)
    && (sound_settings (settings_at 24 b)
    && (ok_dates (dates_at holidays_start (holiday_count b) b) && ok_records (customer_count b) (customers_start (holiday_count b)) b)))))
table_test b bs = decided (is_table b) (both (eqb (length b) 49152) rest) there back ∙ simp both_is
  where
    rest : Bool
    rest =
        both (ok_header b)
        (both (real_date (four 4 b))
        (both (sound_settings (settings_at 24 b))
        (both (ok_dates (dates_at holidays_start (holiday_count b) b)) (ok_records (customer_count b) (customers_start (holiday_count b)) b))))

    there : is_table b ≡ true → both (eqb (length b) 49152) rest ≡ true
    there e =
        let f = facts b bs e in
        join _ _ (eq-eqb (length b) 49152 f.size)
        (join _ _ f.head
        (join _ _ f.day
        (join _ _ (ap sound_settings (settings_at_lem 24 b (omega (arith, f.size))) ∙ f.settings) (join _ _ f.dates f.records))))

    back : both (eqb (length b) 49152) rest ≡ true → is_table b ≡ true
    back e =
        let n : length b ≡ 49152 = eqb-true (length b) 49152 (left _ _ e) in
        let e₁ = right _ _ e in
        let e₂ = right _ _ e₁ in
        let e₃ = right _ _ e₂ in
        let e₄ = right _ _ e₃ in
        table_from b bs
        (record {
          size = n;
          head = left _ _ e₁;
          day = left _ _ e₂;
          settings = ap sound_settings (sym (settings_at_lem 24 b (omega (arith, n)))) ∙ left _ _ e₃;
          dates = left _ _ e₄;
          records = right _ _ e₄;
        })
