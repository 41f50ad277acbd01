-- What the functions that write leave on a table: each writes the one field in which the table before and the table after differ.
-- Assumes nothing.
use mathlib.Core.Path.{◌≡◌, refl, sym, ap, ap₂, ◌∙◌}
use mathlib.Core.List.{List, [], ◌∷◌, ◌++◌, map, append_assoc, append-nil}
use mathlib.Core.Bool.{true}
use Prim.Native.Nat.{ℕ, zero, suc, ◌+◌, ◌*◌, ◌≤◌, ◌<◌}
use native.Mathlib.Omega.{arith}
use borrow.Author.Tests.{eq-eqb, lt-ltb, le-leb}
use lib.Dec.{eqb}
use lib.ListN.{length, take, drop, set, length-append, length-set, length-map, take-append-drop}
use lib.Seq.{drop_at, length-take-le}
use Rattle.ground.proofs.Choices.{join, picks}
use Rattle.splices.specs.Bytes.{bytes_of, bytes_of_all, flat, splice, put}
use Rattle.splices.proofs.Splice
use Rattle.splices.proofs.Chunks
use Rattle.codec.specs.Layout.{number, many, Value, width, enc, Sized, laid}
use Rattle.codec.specs.Field.{In, here, first, later, inside, offset}
use Rattle.codec.proofs.Laws.{wide, laid_is}
use Rattle.codec.proofs.Field.{within_over, field_over, set_written}
use Rattle.customer_bytes.specs.Layout.{record_width, customer_shape, settings_shape, customer_to, settings_to, customer_bytes, settings_bytes}
use Rattle.customer_bytes.proofs.Laws.{customer_width, settings_width_lem}
use Rattle.customer.specs.declared.Customer.{Customer}
use Rattle.customer.specs.declared.Settings.{Settings}
use Rattle.table.specs.Table.{Table, customer_fits, with_customer, with_added, with_day, with_seed}
use Rattle.table.specs.Written.{table_size, settings_start, holidays_start, customers_start, total_length, header_shape, table_shape}
use Rattle.table.specs.Written.{header_to, table_to, encode, written, WrittenAs}
use Rattle.table.specs.Decode.{holiday_count, customer_count, table_of, is_table}
use Rattle.table.specs.Stored.{day_stored, seed_stored, customer_stored, customer_added, table_set_up}
use Rattle.table.proofs.Sound
use Rattle.table.proofs.Encode
use Rattle.table.proofs.Encode.{as_written}
use Rattle.table.proofs.Decode

-- ---- the ways to a table's fields

module _ {h n : ℕ} where
  abbrev total_in : In (number 4) (table_shape h n)
  total_in = first (inside (first here))

  abbrev day_in : In (number 4) (table_shape h n)
  day_in = first (inside (later (first here)))

  abbrev count_in : In (number 4) (table_shape h n)
  count_in = first (inside (later (later (later (later (first here))))))

  abbrev seed_in : In (number 8) (table_shape h n)
  seed_in = later (first (inside (later (later (later (later here))))))

  abbrev records_in : In (many n customer_shape) (table_shape h n)
  records_in = later (later (later here))

map-set : (l : List Customer) (i : ℕ) (c : Customer) → map customer_to (set l i c) ≡ set (map customer_to l) i (customer_to c)
map-set [] i c = refl
map-set (a ∷ l) zero c = refl
map-set (a ∷ l) (suc i) c = ap (λ (x : List (Value customer_shape)). customer_to a ∷ x) (map-set l i c)

map_more : (l : List Customer) (c : Customer) → map customer_to (l ++ (c ∷ [])) ≡ map customer_to l ++ (customer_to c ∷ [])
map_more [] c = refl
map_more (a ∷ l) c = ap (λ (x : List (Value customer_shape)). customer_to a ∷ x) (map_more l c)

last_apart : (v w x y z : List ℕ) → v ++ (w ++ (x ++ (y ++ (z ++ [])))) ≡ (v ++ (w ++ (x ++ y))) ++ z
last_apart v w x y z = simp (append_assoc, append-nil)

-- numbers that are written where they fit
pub splice-put : (k p x : ℕ) (b : List ℕ) → p + k ≤ length b → splice p (bytes_of k x) b ≡ put p (bytes_of k x) b
splice-put k p x b h = sym (Splice.put_fits p (bytes_of k x) b (omega (arith, Chunks.bytes_of-length k x)))

-- ---- what is known of bytes that are a table

module _ (b : List ℕ) (e : is_table b ≡ true) where
  at_b : WrittenAs (table_of b) b
  at_b = Decode.is_written b e

  sized : eqb (length b) table_size ≡ true
  sized = eq-eqb (length b) table_size at_b.size

  pub count_h : holiday_count b ≡ length (table_of b).holidays
  count_h = Decode.count_h (table_of b) at_b.sound at_b.rest b at_b.bytes at_b.size

  pub count_c : customer_count b ≡ length (table_of b).customers
  count_c = Decode.count_c (table_of b) at_b.sound at_b.rest b at_b.bytes at_b.size

  fit : Encode.Fit (table_of b)
  fit = Encode.sound_fit (table_of b) at_b.sound

  -- bytes put where they fit, after which there is another table with the same rest, are that table written
  put_written : (p : ℕ) (w : List ℕ) (u : Table) → p + length w ≤ length b → splice p w (encode (table_of b) ++ at_b.rest)
      ≡ encode u ++ at_b.rest → put p w b ≡ written b u
  put_written p w u h q =
      as_written b (put p w b) at_b.rest (table_of b) u at_b.bytes
      (Splice.put_fits p w b h ∙ ap (splice p w) at_b.bytes ∙ q)
      (Splice.put-length p w b)

  -- another day is written where the day stands
  pub day_is : (d : ℕ) → day_stored b d ≡ written b (with_day (table_of b) d)
  unfolding day_stored with_day encode enc offset width
  day_is d =
      picks _ _ _ sized
      ∙ put_written 4 (bytes_of 4 d) (with_day (table_of b) d) (omega (arith, Chunks.bytes_of-length 4 d, at_b.size))
      (field_over day_in d (table_to (table_of b)) at_b.rest tt fit)

  -- another seed is written where the seed stands
  pub seed_is : (v : ℕ) → seed_stored b v ≡ written b (with_seed (table_of b) v)
  unfolding seed_stored with_seed encode enc offset width
  seed_is v =
      picks _ _ _ sized
      ∙ put_written 74 (bytes_of 8 v) (with_seed (table_of b) v) (omega (arith, Chunks.bytes_of-length 8 v, at_b.size))
      (field_over seed_in v (table_to (table_of b)) at_b.rest tt fit)

  -- another record is written where the customer's record stands
  record_over : (i : ℕ) (c : Customer) → i < length (table_of b).customers → customer_fits c ≡ true
      → splice (customers_start (length (table_of b).holidays) + record_width * i) (customer_bytes c) (encode (table_of b) ++ at_b.rest)
      ≡ encode (with_customer (table_of b) i c) ++ at_b.rest
  unfolding encode with_customer enc offset width customer_bytes
  record_over i c k o =
      let t = table_of b in
      let l = t.customers in
      let h = length t.holidays in
      let n = length l in
      let z = Encode.customer_wide c o in
      let q : customers_start h + record_width * i ≡ 24 + (58 + (4 * h + 0)) + record_width * i = omega arith in
      let m = length-map l customer_to in
      let is = set_written (Sized customer_shape) (enc customer_shape) record_width (wide customer_shape) (map customer_to l) i (customer_to c)
      fit.1.1.1.1 z (omega arith) in
      let u = length-set l i c in
      let v = map-set l i c in
      ap (λ (x : ℕ). splice x (enc customer_shape (customer_to c)) (enc (table_shape h n) (table_to t) ++ at_b.rest)) q
      ∙ within_over records_in (record_width * i) (enc customer_shape (customer_to c)) (set (map customer_to l) i (customer_to c)) (table_to t)
      at_b.rest fit (omega (arith, wide customer_shape (customer_to c) z)) is
      ∙ sym (λ j. enc (table_shape h n) (header_to t.day h (u j), (settings_to t.settings, (t.holidays, v j))) ++ at_b.rest)

  pub store_is : (i : ℕ) (c : Customer) → i < length (table_of b).customers → customer_fits c ≡ true → customer_stored b i c
      ≡ written b (with_customer (table_of b) i c)
  unfolding customer_stored
  store_is i c k o =
      let t = table_of b in
      let s = Sound.parts t at_b.sound in
      picks _ _ _ (join _ _ sized (lt-ltb i (customer_count b) (omega (arith, count_c))))
      ∙ ap (λ (x : ℕ). put (customers_start x + record_width * i) (customer_bytes c) b) count_h
      ∙ put_written (customers_start (length t.holidays) + record_width * i) (customer_bytes c) (with_customer t i c)
      (omega (arith, customer_width c (Encode.customer_wide c o), s.holidays, s.customers, at_b.size)) (record_over i c k o)

  -- one more record is written past the last, and the header says so
  module _ (c : Customer) (k : length (table_of b).customers < 32) (o : customer_fits c ≡ true) where
    -- the fields with the record, before the header says so
    abbrev more : Value (table_shape (length (table_of b).holidays) (length (table_of b).customers + 1))
    more = (
      header_to (table_of b).day (length (table_of b).holidays) (length (table_of b).customers),
      (settings_to (table_of b).settings, ((table_of b).holidays, map customer_to ((table_of b).customers ++ (c ∷ [])))),
    )

    more_sized : Sized (table_shape (length (table_of b).holidays) (length (table_of b).customers + 1)) more
    more_sized =
        let l = (table_of b).customers in (
          fit.0,
          (
            fit.1.0,
            (
              fit.1.1.0,
              (
                length-map (l ++ (c ∷ [])) customer_to ∙ length-append l (c ∷ []),
                Encode.wide_more l c fit.1.1.1.1 (Encode.customer_wide c o),
              ),
            ),
          ),
        )

    more_is : enc (table_shape (length (table_of b).holidays) (length (table_of b).customers + 1)) more ≡ encode (table_of b)
        ++ customer_bytes c
    unfolding encode enc customer_bytes flat
    more_is =
        let t = table_of b in
        ap (λ (x : List (Value customer_shape)). enc header_shape (header_to t.day (length t.holidays) (length t.customers))
        ++ (enc settings_shape (settings_to t.settings) ++ (flat (enc (number 4)) t.holidays ++ flat (enc customer_shape) x)))
        (map_more t.customers c)
        ∙ ap (λ (x : List ℕ). enc header_shape (header_to t.day (length t.holidays) (length t.customers))
        ++ (enc settings_shape (settings_to t.settings) ++ (flat (enc (number 4)) t.holidays ++ x)))
        (Chunks.flat_append (enc customer_shape) (map customer_to t.customers) (customer_to c ∷ []))
        ∙ last_apart (enc header_shape (header_to t.day (length t.holidays) (length t.customers)))
        (enc settings_shape (settings_to t.settings)) (flat (enc (number 4)) t.holidays)
        (flat (enc customer_shape) (map customer_to t.customers)) (enc customer_shape (customer_to c))

    header_over : (r : List ℕ) → splice 0 (bytes_of 4 (total_length (length (table_of b).holidays) (length (table_of b).customers + 1)))
        (splice 16 (bytes_of 4 (length (table_of b).customers + 1))
        (enc (table_shape (length (table_of b).holidays) (length (table_of b).customers + 1)) more ++ r))
        ≡ encode (with_added (table_of b) c) ++ r
    unfolding encode with_added enc offset width
    header_over r =
        let t = table_of b in
        let h = length t.holidays in
        let n = length t.customers in
        let x : Value (table_shape h (n + 1)) = ((total_length h n, (t.day, (h, (holidays_start, (n + 1, customers_start h))))), more.1) in
        let u : n + 1 ≡ length (t.customers ++ (c ∷ [])) = sym (length-append t.customers (c ∷ [])) in
        ap (splice 0 (bytes_of 4 (total_length h (n + 1)))) (field_over count_in (n + 1) more r tt more_sized)
        ∙ field_over total_in (total_length h (n + 1)) x r tt more_sized
        ∙ (λ j. enc (table_shape h (n + 1)) (header_to t.day h (u j), more.1) ++ r)

  pub add_is : (c : Customer) → length (table_of b).customers < 32 → customer_fits c ≡ true → customer_added b c
      ≡ written b (with_added (table_of b) c)
  unfolding customer_added written
  add_is c k o =
      let t = table_of b in
      let h = length t.holidays in
      let n = length t.customers in
      let v = customer_bytes c in
      let s = Sound.parts t at_b.sound in
      let l = Encode.encode-length t fit in
      let q = customer_width c (Encode.customer_wide c o) in
      let m : length (encode t ++ at_b.rest) ≡ table_size = sym (ap length at_b.bytes) ∙ at_b.size in
      let z : record_width ≤ length at_b.rest = omega (arith, length-append (encode t) at_b.rest, s.holidays) in
      let y = take record_width at_b.rest in
      let x = drop record_width at_b.rest in
      let f : length y ≡ length v = length-take-le record_width at_b.rest z ∙ sym q in
      let is : b ≡ encode t ++ (y ++ x) = at_b.bytes
      ∙ ap (λ (r : List ℕ). encode t ++ r) (sym (take-append-drop record_width at_b.rest)) in
      let M = enc (table_shape h (n + 1)) (more c k o) in
      -- the record
      let s₁ : put (total_length h n) v b ≡ M ++ x =
      Splice.put_fits (total_length h n) v b (omega (arith, s.holidays, at_b.size))
      ∙ ap (splice (total_length h n) v) is
      ∙ Splice.splice_left (encode t) v (y ++ x) 0 (total_length h n) (omega arith)
      ∙ ap (λ (r : List ℕ). encode t ++ r) (Splice.splice-zero v (y ++ x) ∙ ap (λ (r : List ℕ). v ++ r) (drop_at y x (length v) f))
      ∙ sym (append_assoc (encode t) v x)
      ∙ ap (λ (r : List ℕ). r ++ x) (sym (more_is c k o)) in
      let j : length (M ++ x) ≡ table_size = sym (ap length s₁) ∙ Splice.put-length (total_length h n) v b ∙ at_b.size in
      let i : length M ≡ length (encode t ++ y) = ap length (more_is c k o) ∙ length-append (encode t) v
      ∙ ap (λ (a : ℕ). length (encode t) + a) (sym f)
      ∙ sym (length-append (encode t) y) in
      -- the count, and the total length
      let w₁ = Chunks.bytes_of-length 4 (n + 1) in
      let w₂ = Chunks.bytes_of-length 4 (total_length h (n + 1)) in
      let p : put 0 (bytes_of 4 (total_length h (n + 1))) (put 16 (bytes_of 4 (n + 1)) (M ++ x)) ≡ encode (with_added t c) ++ x =
      Splice.put_fits 0 _ (put 16 (bytes_of 4 (n + 1)) (M ++ x)) (omega (arith, Splice.put-length 16 (bytes_of 4 (n + 1)) (M ++ x)))
      ∙ ap (splice 0 (bytes_of 4 (total_length h (n + 1)))) (Splice.put_fits 16 (bytes_of 4 (n + 1)) (M ++ x) (omega arith))
      ∙ header_over c k o x in
      -- the table after
      let g : length (encode (with_added t c)) ≡ length (encode t ++ y) =
      omega (
        arith,
        ap length p,
        length-append (encode (with_added t c)) x,
        Splice.put-length 0 (bytes_of 4 (total_length h (n + 1))) (put 16 (bytes_of 4 (n + 1)) (M ++ x)),
        Splice.put-length 16 (bytes_of 4 (n + 1)) (M ++ x),
        length-append M x,
      ) in
      let d : drop (length (encode (with_added t c))) b ≡ x = ap₂ drop g (is ∙ sym (append_assoc (encode t) y x))
      ∙ drop_at (encode t ++ y) x (length (encode t ++ y)) refl in
      picks _ _ _ (join _ _ sized (lt-ltb (customer_count b) 32 (omega (arith, count_c))))
      ∙ ap₂ (λ (i a : ℕ). put 0 (bytes_of 4 (total_length i (a + 1))) (put 16 (bytes_of 4 (a + 1)) (put (total_length i a) v b))) count_h
      count_c
      ∙ ap (λ (r : List ℕ). put 0 (bytes_of 4 (total_length h (n + 1))) (put 16 (bytes_of 4 (n + 1)) r)) s₁
      ∙ p
      ∙ sym (ap (λ (r : List ℕ). encode (with_added t c) ++ r) d)

-- what is written for one customer more
pub add_writes : (b t₁ t₂ t₃ v : List ℕ) (p m q : ℕ) → length b ≡ table_size → t₁ ≡ put p v b → t₂ ≡ splice 16 (bytes_of 4 m) t₁
    → t₃ ≡ splice 0 (bytes_of 4 q) t₂ → t₃ ≡ put 0 (bytes_of 4 q) (put 16 (bytes_of 4 m) (put p v b))
add_writes b t₁ t₂ t₃ v p m q n e₁ e₂ e₃ =
    let k₁ : length t₁ ≡ table_size = ap length e₁ ∙ Splice.put-length p v b ∙ n in
    let f : t₂ ≡ put 16 (bytes_of 4 m) t₁ = e₂ ∙ splice-put 4 16 m t₁ (omega arith) in
    let k₂ : length t₂ ≡ table_size = ap length f ∙ Splice.put-length 16 (bytes_of 4 m) t₁ ∙ k₁ in
    e₃ ∙ splice-put 4 0 q t₂ (omega arith) ∙ ap (put 0 (bytes_of 4 q)) (f ∙ ap (put 16 (bytes_of 4 m)) e₁)

-- ---- a new table

-- where the length is right and the holidays have room, the new table is written
pub set_up_is : (b : List ℕ) (day : ℕ) (s : Settings) (holidays : List ℕ) → length b ≡ table_size → length holidays ≤ 200
    → table_set_up b day s holidays ≡ written b (record { day = day; settings = s; holidays = holidays; customers = [] })
unfolding table_set_up
set_up_is b day s holidays n h = picks _ _ _ (join _ _ (eq-eqb (length b) table_size n) (le-leb (length holidays) 200 h))

-- the three runs that are written are the new table
pub set_up_writes : (b : List ℕ) (day : ℕ) (s : Settings) (hs t₁ t₂ t₃ : List ℕ) → length b ≡ table_size → length hs ≤ 200
    → Sized settings_shape (settings_to s)
    → t₁ ≡ splice 0 (enc header_shape (header_to day (length hs) 0)) b
    → t₂ ≡ put settings_start (settings_bytes s) t₁
    → t₃ ≡ splice holidays_start (bytes_of_all 4 hs) t₂
    → t₃ ≡ table_set_up b day s hs
unfolding written encode laid enc width settings_bytes flat
set_up_writes b day s hs t₁ t₂ t₃ n h w e₁ e₂ e₃ =
    let u : Table = record { day = day; settings = s; holidays = hs; customers = [] } in
    let S = table_shape (length hs) 0 in
    let z : Sized S (table_to u) = Encode.fit u w tt in
    let a : length t₁ ≡ length b = ap length e₁
    ∙ Splice.splice-length 0 (enc header_shape (header_to day (length hs) 0)) b
    (omega (arith, wide header_shape (header_to day (length hs) 0) z.0)) in
    let p : t₂ ≡ splice settings_start (enc settings_shape (settings_to s)) t₁ =
    e₂ ∙ Splice.put_fits settings_start (settings_bytes s) t₁ (omega (arith, settings_width_lem s w)) in
    e₃
    ∙ ap (splice holidays_start (bytes_of_all 4 hs)) (p ∙ ap (splice settings_start (enc settings_shape (settings_to s))) e₁)
    ∙ Splice.splice_none (customers_start (length hs)) _
    ∙ laid_is S (table_to u) z 0 b (omega arith)
    ∙ Splice.splice-zero (enc S (table_to u)) b
    ∙ sym (set_up_is b day s hs n h)
