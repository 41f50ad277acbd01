-- Runs of dates and of records: the first of a run and the run past it, and each by its place.
-- Assumes nothing.
use Rattle.std.specs.Prelude.{◌&&◌, ◌||◌, not, find, if◌then◌else◌, Option, None, Some}
use Rattle.std.specs.List.{list_all, list_any, range_with_len}
use Rattle.std.proofs.lemmas.List.Folds.{list_all-map}
use mathlib.Core.Path.{◌≡◌, refl, sym, ap, ap₂, ◌∙◌}
use mathlib.Core.List.{List, [], ◌∷◌, map}
use mathlib.Core.Bool.{Bool, true, false}
use Prim.Native.Nat.{ℕ, zero, suc, ◌+◌, ◌*◌, ◌-◌, ◌<◌, ◌≤◌}
use native.Mathlib.Nat.{add-zero, not-suc-le-zero, le_of_suc-le-suc}
use native.Mathlib.Omega.{arith}
use lib.ListN.{length, get_or, length-map}
use Rattle.ground.specs.Choice.{both, pick}
use Rattle.ground.specs.Lists.{all, part, same}
use Rattle.ground.proofs.Bools.{both_assoc}
use Rattle.ground.proofs.Lists.{same_turned}
use Rattle.ground.proofs.Std.{all_is, both_is, pick_is}
use Rattle.calendar.specs.Dates.{earlier}
use Rattle.splices.specs.Bytes.{num}
use Rattle.codec.specs.Layout.{number, many, width, repeated, dec}
use Rattle.codec.proofs.Laws.{repeated-length}
use Rattle.customer_bytes.specs.Layout.{record_width, customer_shape, customer_from, customer_at, exact_at}
use Rattle.customer_bytes.proofs.Laws.{customer_at_lem}
use Rattle.customer.specs.Customer.{sound_customer}
use Rattle.customer.specs.declared.Customer.{Customer}
use Rattle.table.specs.Table.{rising, place_from, is_unknown}
use Rattle.table.specs.Tests.{dates_at, customers_at, ok_record, ok_records}

-- ---- n from p on, where n is m + 1

pub dates_suc : (p n m : ℕ) (b : List ℕ) → n ≡ suc m → dates_at p n b ≡ num (part p 4 b) ∷ dates_at (p + 4) m b
unfolding dates_at dec repeated width
dates_suc p n m b e = rw e

pub customers_suc : (p n m : ℕ) (b : List ℕ) → n ≡ suc m → customers_at p n b ≡ customer_from (dec customer_shape p b)
    ∷ customers_at (p + record_width) m b
unfolding customers_at dec repeated width
customers_suc p n m b e = rw e

pub dates_none : (p n : ℕ) (b : List ℕ) → n ≡ 0 → dates_at p n b ≡ []
unfolding dates_at dec repeated
dates_none p n b e = rw e

pub customers_none : (p n : ℕ) (b : List ℕ) → n ≡ 0 → customers_at p n b ≡ []
unfolding customers_at dec repeated
customers_none p n b e = rw e

pub dates_length : (p n : ℕ) (b : List ℕ) → length (dates_at p n b) ≡ n
unfolding dates_at dec
dates_length p n b = repeated-length _ (width (number 4)) n p

pub customers_length : (p n : ℕ) (b : List ℕ) → length (customers_at p n b) ≡ n
unfolding customers_at dec
customers_length p n b = length-map (dec (many n customer_shape) p b) customer_from ∙ repeated-length _ (width customer_shape) n p

pub who_at : (p : ℕ) (b : List ℕ) → (customer_from (dec customer_shape p b)).who ≡ part p 25 b
unfolding dec
who_at p b = refl

-- dates and customers by their places
pub get_or_dates : (n p : ℕ) (b : List ℕ) (k : ℕ) → k < n → num (part (p + 4 * k) 4 b) ≡ get_or (dates_at p n b) k 0
get_or_dates zero p b k h = absurd (not-suc-le-zero h)
get_or_dates (suc n) p b zero h =
    rw (dates_suc p (suc n) n b refl) (ap (λ (j : ℕ). num (part j 4 b)) (add-zero p))
get_or_dates (suc n) p b (suc k) h =
    let e : p + 4 * suc k ≡ p + 4 + 4 * k = omega arith in
    rw (dates_suc p (suc n) n b refl)
    (ap (λ (j : ℕ). num (part j 4 b)) e ∙ get_or_dates n (p + 4) b k (le_of_suc-le-suc h))

pub get_or_customers : (n p : ℕ) (b : List ℕ) (i : ℕ) (d : Customer) → i < n → get_or (customers_at p n b) i d
    ≡ customer_from (dec customer_shape (p + record_width * i) b)
get_or_customers zero p b i d h = absurd (not-suc-le-zero h)
get_or_customers (suc n) p b zero d h =
    rw (customers_suc p (suc n) n b refl) (ap (λ (k : ℕ). customer_from (dec customer_shape k b)) (sym (add-zero p)))
get_or_customers (suc n) p b (suc i) d h =
    let e : p + record_width + record_width * i ≡ p + record_width * suc i = omega arith in
    rw (customers_suc p (suc n) n b refl)
    (get_or_customers n (p + record_width) b i d (le_of_suc-le-suc h) ∙ ap (λ (k : ℕ). customer_from (dec customer_shape k b)) e)

-- ---- what a turn tells of the definitions

pub place_step : (i : ℕ) (x : List ℕ) (p n m : ℕ) (b : List ℕ) → n ≡ suc m
    → place_from i x (customers_at p n b) ≡ pick (same x (part p 25 b)) (Some i) (place_from (i + 1) x (customers_at (p + record_width) m b))
unfolding place_from
place_step i x p n m b e =
    ap (place_from i x) (customers_suc p n m b e)
    ∙ ap (λ (t : Bool). pick t (Some i) (place_from (i + 1) x (customers_at (p + record_width) m b)))
    (ap (λ (y : List ℕ). same y x) (who_at p b) ∙ same_turned (part p 25 b) x)

pub place_end : (i : ℕ) (x : List ℕ) (p n : ℕ) (b : List ℕ) → n ≡ 0 → place_from i x (customers_at p n b) ≡ None
unfolding place_from
place_end i x p n b e = rw (customers_none p n b e)

pub records_step : (c : Customer) (p n m : ℕ) (b : List ℕ) → n ≡ suc m → c ≡ customer_at p b
    → ok_records n p b
    ≡ both (exact_at p b) (both (sound_customer c)
    (both (is_unknown (place_from 0 c.who (customers_at (p + record_width) m b))) (ok_records m (p + record_width) b)))
unfolding ok_records
records_step c p n m b e f = rw (e, f)

-- the first record by itself, then its name among those after it
pub records_turn : (p n m : ℕ) (b : List ℕ) → n ≡ suc m → p + record_width ≤ length b
    → ok_records n p b
    ≡ both (both (exact_at p b) (sound_customer (customer_at p b)))
    (both (is_unknown (place_from 0 (part p 25 b) (customers_at (p + record_width) m b))) (ok_records m (p + record_width) b))
records_turn p n m b e h =
    records_step (customer_at p b) p n m b e refl
    ∙ sym (both_assoc _ _ _)
    ∙ ap (λ (x : List ℕ). both (both (exact_at p b) (sound_customer (customer_at p b)))
    (both (is_unknown (place_from 0 x (customers_at (p + record_width) m b))) (ok_records m (p + record_width) b)))
    (ap (λ (c : Customer). c.who) (customer_at_lem p b h) ∙ who_at p b)

pub records_end : (p n : ℕ) (b : List ℕ) → n ≡ 0 → true ≡ ok_records n p b
unfolding ok_records
records_end p n b e = rw e

-- ---- runs by their places

dates_run : (p a n : ℕ) (b : List ℕ) → dates_at (p + 4 * a) n b ≡ map (λ (i : ℕ). num (part (p + 4 * i) 4 b)) (range_with_len a n)
dates_run p a zero b = dates_none (p + 4 * a) 0 b refl
dates_run p a (suc n) b =
    let e : p + 4 * a + 4 ≡ p + 4 * (a + 1) = omega arith in
    dates_suc (p + 4 * a) (suc n) n b refl
    ∙ ap (λ (l : List ℕ). num (part (p + 4 * a) 4 b) ∷ l) (ap (λ (k : ℕ). dates_at k n b) e ∙ dates_run p (a + 1) n b)

pub all_dates : (f : ℕ → Bool) (p n : ℕ) (b : List ℕ) → all f (dates_at p n b)
    ≡ list_all (λ (i : ℕ). f (num (part (p + 4 * i) 4 b))) (range_with_len 0 n)
all_dates f p n b =
    let e : p ≡ p + 4 * 0 = omega arith in
    all_is f (dates_at p n b)
    ∙ ap (list_all f) (ap (λ (k : ℕ). dates_at k n b) e ∙ dates_run p 0 n b)
    ∙ list_all-map f (λ (i : ℕ). num (part (p + 4 * i) 4 b)) (range_with_len 0 n)

-- each date from the second on, beside the one before it
abbrev pub rises_at : ℕ → List ℕ → ℕ → Bool
rises_at p b i = earlier (num (part (p + 4 * (i - 1)) 4 b)) (num (part (p + 4 * i) 4 b))

rising_run : (p a n : ℕ) (b : List ℕ) → rising (dates_at (p + 4 * a) (suc n) b) ≡ list_all (rises_at p b) (range_with_len (a + 1) n)
unfolding rising
rising_run p a zero b =
    ap rising (dates_suc (p + 4 * a) 1 0 b refl ∙ ap (λ (l : List ℕ). num (part (p + 4 * a) 4 b) ∷ l) (dates_none (p + 4 * a + 4) 0 b refl))
rising_run p a (suc n) b =
    let x = num (part (p + 4 * a) 4 b) in
    let q = p + 4 * a + 4 in
    let e : q ≡ p + 4 * (a + 1) = omega arith in
    let g : p + 4 * a ≡ p + 4 * (a + 1 - 1) = omega arith in
    let s = dates_suc q (suc n) n b refl in
    ap rising (dates_suc (p + 4 * a) (suc (suc n)) (suc n) b refl ∙ ap (λ (l : List ℕ). x ∷ l) s)
    ∙ both_is (earlier x (num (part q 4 b))) (rising (num (part q 4 b) ∷ dates_at (q + 4) n b))
    ∙ ap₂ ◌&&◌ (ap₂ (λ (i j : ℕ). earlier (num (part i 4 b)) (num (part j 4 b))) g e)
    (ap rising (sym s) ∙ ap (λ (k : ℕ). rising (dates_at k (suc n) b)) e ∙ rising_run p (a + 1) n b)

pub dates_rise : (p n : ℕ) (b : List ℕ) → rising (dates_at p n b) ≡ list_all (rises_at p b) (range_with_len 1 (n - 1))
unfolding rising
dates_rise p zero b = ap rising (dates_none p 0 b refl)
dates_rise p (suc n) b =
    let e : p ≡ p + 4 * 0 = omega arith in
    let g : n ≡ suc n - 1 = omega arith in
    ap (λ (k : ℕ). rising (dates_at k (suc n) b)) e
    ∙ rising_run p 0 n b
    ∙ ap (λ (k : ℕ). list_all (rises_at p b) (range_with_len 1 k)) g

module _ (x : List ℕ) (p : ℕ) (b : List ℕ) where
  -- the record at place i has that name
  abbrev pub named_at : ℕ → Bool
  named_at i = same x (part (p + 1109 * i) 25 b)

  pub place_run : (a n : ℕ) → find named_at (range_with_len a n) ≡ place_from a x (customers_at (p + 1109 * a) n b)
  place_run a zero = sym (place_end a x (p + 1109 * a) 0 b refl)
  place_run a (suc n) =
      let e : p + 1109 * a + 1109 ≡ p + 1109 * (a + 1) = omega arith in
      sym (place_step a x (p + 1109 * a) (suc n) n b refl
      ∙ pick_is (named_at a) (Some a) (place_from (a + 1) x (customers_at (p + 1109 * a + 1109) n b))
      ∙ ap (λ (r : Option ℕ). if named_at a then Some a else r)
      (ap (λ (k : ℕ). place_from (a + 1) x (customers_at k n b)) e ∙ sym (place_run (a + 1) n)))

  unknown_pick : (s t : Bool) (i : ℕ) (r : Option ℕ) → not t ≡ is_unknown r → not (s || t) ≡ is_unknown (pick s (Some i) r)
  unfolding pick is_unknown
  unknown_pick true t i r e = refl
  unknown_pick false t i r e = e

  pub unknown_run : (a n i : ℕ) → not (list_any named_at (range_with_len a n)) ≡ is_unknown (place_from i x (customers_at (p + 1109 * a) n b))
  unfolding is_unknown
  unknown_run a zero i = sym (ap is_unknown (place_end i x (p + 1109 * a) 0 b refl))
  unknown_run a (suc n) i =
      let e : p + 1109 * (a + 1) ≡ p + 1109 * a + 1109 = omega arith in
      unknown_pick (named_at a) (list_any named_at (range_with_len (a + 1) n)) i
      (place_from (i + 1) x (customers_at (p + 1109 * a + 1109) n b))
      (unknown_run (a + 1) n (i + 1) ∙ ap (λ (k : ℕ). is_unknown (place_from (i + 1) x (customers_at k n b))) e)
      ∙ sym (ap is_unknown (place_step i x (p + 1109 * a) (suc n) n b refl))

pub records_run : (p a n m : ℕ) (b : List ℕ) → m ≡ a + n → p + 1109 * m ≤ length b
    → ok_records n (p + 1109 * a) b ≡ list_all (λ (i : ℕ). ok_record (m - 1 - i) (p + 1109 * i) b) (range_with_len a n)
unfolding ok_record
records_run p a zero m b g h = sym (records_end (p + 1109 * a) 0 b refl)
records_run p a (suc n) m b g h =
    let e : p + 1109 * a + 1109 ≡ p + 1109 * (a + 1) = omega arith in
    let k : n ≡ m - 1 - a = omega arith in
    records_turn (p + 1109 * a) (suc n) n b refl (omega arith)
    ∙ sym (both_assoc _ _ _)
    ∙ both_is _ _
    ∙ ap₂ ◌&&◌ (ap (λ (j : ℕ). ok_record j (p + 1109 * a) b) k)
    (ap (λ (j : ℕ). ok_records n j b) e ∙ records_run p (a + 1) n m b (omega arith) h)
