-- What the calls promise: which refusal is given, what a refused call leaves, and what a served one keeps.
-- Assumes nothing.
use Rattle.std.specs.Prelude.{None, Option, Some}
use mathlib.Core.Path.{◌≡◌, refl, sym, ap, ◌∙◌}
use mathlib.Core.List.{List, [], ◌∷◌}
use mathlib.Core.Bool.{Bool, true, false}
use Prim.Native.Nat.{ℕ, zero, suc, ◌^◌, ◌<◌}
use native.Mathlib.Nat.{not-suc-le-zero, le_of_suc-le-suc}
use native.Mathlib.Omega.{arith}
use borrow.Author.Tests.{ltb-true}
use lib.Dec.{ltb}
use lib.ListN.{length, get_or, get_or-append}
use Rattle.ground.specs.Choice.{both}
use Rattle.ground.specs.First.{first_that}
use Rattle.ground.proofs.Choices.{left, right}
use Rattle.calendar.specs.Dates.{earlier}
use Rattle.keys.specs.Maker.{next_seed}
use Rattle.customer.specs.declared.Customer.{Customer}
use Rattle.customer.specs.declared.Settings.{Settings}
use Rattle.table.specs.Table.{Table, place_of, nobody, customer_in, with_customer, with_added, with_day, with_seed}
use Rattle.table.specs.Named.{replaced_at, with_named}
use Rattle.table.specs.Written.{WrittenAs}
use Rattle.table.specs.Decode.{table_of, is_table}
use Rattle.table.proofs.Places.{others_stay, with_named_at, day_in, seed_in}
use Rattle.refusals.specs.Refusals.{Refusal, refusal, lowest}
use Rattle.table_calls.specs.Calls.{leaves, new_customer, new_table, added_to, entered_in, ordered_in, setting_up_refusals, setting_up_answer}
use Rattle.table_calls.specs.Calls.{setting_up_leaves, adding_refusals, adding_answer, adding_leaves, entering_refusals, entering_answer}
use Rattle.table_calls.specs.Calls.{entering_leaves, ordering_refusals, ordering_answer, ordering_leaves}
use Rattle.table_calls.specs.declared.Setting.{Setting}
use Rattle.table_calls.specs.declared.Adding.{Adding}
use Rattle.table_calls.specs.declared.Entering.{Entering}
use Rattle.table_calls.specs.declared.Ordering.{Ordering}
use Rattle.refusals.proofs.Refused.{lowest_first, lowest_next}
use Rattle.table_calls.proofs.Rewritten
use Rattle.table_calls.proofs.Served

-- ---- which refusal is given

-- the numbers rise strictly, from above n on
unfoldable pub rises : ℕ → List Refusal → Bool
rises n [] = true
rises n (r ∷ rs) = both (ltb n r.number) (rises r.number rs)

abbrev pub none : Refusal
none = refusal 0 false

-- the entry at place i holds, and none with a lower number does
pub record Lowest (rs : List Refusal) (i : ℕ) : Type 0 where
  pub there : i < length rs
  pub holds : (get_or rs i none).holds ≡ true
  pub lower : (j : ℕ) → j < length rs → (get_or rs j none).number < (get_or rs i none).number → (get_or rs j none).holds ≡ false

-- every number is above the one that they rise from
above : (n : ℕ) (rs : List Refusal) → rises n rs ≡ true → (j : ℕ) → j < length rs → n < (get_or rs j none).number
unfolding rises
above n [] e j h = absurd (not-suc-le-zero h)
above n (r ∷ rs) e zero h = ltb-true n r.number (left _ _ e)
above n (r ∷ rs) e (suc j) h =
    let p = ltb-true n r.number (left _ _ e) in
    let q = above r.number rs (right _ _ e) j (le_of_suc-le-suc h) in
    omega arith

-- the refusal that is given is the lowest that holds
pub lowest_is : (n : ℕ) (rs : List Refusal) (i : ℕ) → rises n rs ≡ true → Lowest rs i → lowest rs ≡ (get_or rs i none).number
unfolding rises
lowest_is n [] i e l = absurd (not-suc-le-zero l.there)
lowest_is n (r ∷ rs) zero e l = lowest_first r rs l.holds
lowest_is n (r ∷ rs) (suc i) e l =
    let h = le_of_suc-le-suc l.there in
    let u = right _ _ e in
    lowest_next r rs (l.lower 0 (omega arith) (above r.number rs u i h))
    ∙ lowest_is r.number rs i u
    (record { there = h; holds = l.holds; lower = λ j k m. l.lower (suc j) (omega arith) m })

none_below : (r : Refusal) (rs : List Refusal) → rises r.number rs ≡ true → (j : ℕ) → j < length (r ∷ rs)
    → (get_or (r ∷ rs) j none).number < r.number → ⊥
none_below r rs e zero k m = omega arith
none_below r rs e (suc j) k m = let p = above r.number rs e j (le_of_suc-le-suc k) in omega arith

first_lowest : (r : Refusal) (rs : List Refusal) → rises r.number rs ≡ true → r.holds ≡ true → Lowest (r ∷ rs) 0
first_lowest r rs e h =
    record { there = omega arith; holds = h; lower = λ j k m. absurd (none_below r rs e j k m) }

later_lower : (r : Refusal) (rs : List Refusal) (i : ℕ) → r.holds ≡ false → Lowest rs i
    → (j : ℕ) → j < length (r ∷ rs) → (get_or (r ∷ rs) j none).number < (get_or rs i none).number → (get_or (r ∷ rs) j none).holds ≡ false
later_lower r rs i h l zero k m = h
later_lower r rs i h l (suc j) k m = l.lower j (le_of_suc-le-suc k) m

later_lowest : (r : Refusal) (rs : List Refusal) (i : ℕ) → r.holds ≡ false → Lowest rs i → Lowest (r ∷ rs) (suc i)
later_lowest r rs i h l =
    record { there = let k = l.there in omega arith; holds = l.holds; lower = later_lower r rs i h l }

-- and where one is given, it is that of an entry that holds, and none with a lower number does
pub lowest_holds : (n : ℕ) (rs : List Refusal) → rises n rs ≡ true → (lowest rs ≡ 0 → ⊥) → (i : ℕ) × (Lowest rs i)
    × ((get_or rs i none).number ≡ lowest rs)
unfolding rises lowest first_that
lowest_holds n [] e z = absurd (z refl)
lowest_holds n (r ∷ rs) e z = by r.holds refl (lowest_holds r.number rs (right _ _ e))
  where
    by : (v : Bool) → r.holds ≡ v → ((lowest rs ≡ 0 → ⊥) → (i : ℕ) × (Lowest rs i) × ((get_or rs i none).number ≡ lowest rs))
        → (i : ℕ) × (Lowest (r ∷ rs) i) × ((get_or (r ∷ rs) i none).number ≡ lowest (r ∷ rs))
    by true h w = (0, first_lowest r rs (right _ _ e) h, sym (lowest_first r rs h))
    by false h w =
        let next = lowest_next r rs h in
        let v = w (λ (q : lowest rs ≡ 0). z (next ∙ q)) in
        (suc v.0, later_lowest r rs v.0 h v.1, v.2 ∙ sym next)

-- the numbers of each call's refusals rise
pub setting_up_rises : (b : List ℕ) (s : Setting) (holidays : List ℕ) → rises 0 (setting_up_refusals b s holidays) ≡ true
unfolding rises both setting_up_refusals
setting_up_rises b s holidays = refl

pub adding_rises : (b : List ℕ) (a : Adding) → rises 0 (adding_refusals b a) ≡ true
unfolding rises both adding_refusals
adding_rises b a = refl

pub entering_rises : (b : List ℕ) (e : Entering) → rises 0 (entering_refusals b e) ≡ true
unfolding rises both entering_refusals
entering_rises b e = refl

pub ordering_rises : (b : List ℕ) (o : Ordering) → rises 0 (ordering_refusals b o) ≡ true
unfolding rises both ordering_refusals
ordering_rises b o = refl

-- ---- what a call leaves

-- a refused call leaves every byte
pub refused_leaves : (n : ℕ) (b : List ℕ) (t : Table) → (n ≡ 0 → ⊥) → leaves n b t ≡ b
refused_leaves = Rewritten.refused_leaves

-- a served call leaves a table, and that is the table changed as the call says
pub adding_table : (b : List ℕ) (a : Adding) → adding_answer b a ≡ 0 → length a.who ≡ 25
    → (is_table (adding_leaves b a) ≡ true) × (table_of (adding_leaves b a) ≡ added_to (table_of b) a)
adding_table = Served.add_table

pub entering_table : (b : List ℕ) (e : Entering) → entering_answer b e ≡ 0
    → (is_table (entering_leaves b e) ≡ true) × (table_of (entering_leaves b e) ≡ entered_in (table_of b) e)
entering_table = Served.enter_table

pub ordering_table : (b : List ℕ) (o : Ordering) → ordering_answer b o ≡ 0
    → (is_table (ordering_leaves b o) ≡ true) × (table_of (ordering_leaves b o) ≡ ordered_in (table_of b) o)
ordering_table = Served.order_table

pub setting_up_table : (b : List ℕ) (s : Setting) (holidays : List ℕ) → setting_up_answer b s holidays ≡ 0
    → length s.bank ≡ 25 → length s.software ≡ 16 → s.key < 2 ^ 64 → s.seed < 2 ^ 64
    → WrittenAs (new_table s holidays) (setting_up_leaves b s holidays)
setting_up_table = Served.set_up_written

-- ---- what stays

-- the customers that were there are as before
pub added_others : (t : Table) (a : Adding) (i : ℕ) → i < length t.customers → customer_in (added_to t a) i ≡ customer_in t i
unfolding customer_in added_to with_day with_added
added_others t a i h = get_or-append t.customers (new_customer a ∷ []) nobody i h

named_others : (t : Table) (who : List ℕ) (i j : ℕ) (c : Customer) → place_of t who ≡ Some i → (i ≡ j → ⊥)
    → customer_in (with_named t who c) j ≡ customer_in t j
named_others t who i j c p n = ap (λ (u : Table). customer_in u j) (with_named_at t who i c p) ∙ others_stay t i j c n

-- every customer but the one named is as before
pub entered_others : (t : Table) (e : Entering) (i j : ℕ) → place_of t e.who ≡ Some i → (i ≡ j → ⊥) → customer_in (entered_in t e) j
    ≡ customer_in t j
unfolding entered_in
entered_others t e i j p n = day_in _ _ j ∙ named_others t e.who i j _ p n

pub ordered_others : (t : Table) (o : Ordering) (i j : ℕ) → place_of t o.who ≡ Some i → (i ≡ j → ⊥) → customer_in (ordered_in t o) j
    ≡ customer_in t j
unfolding ordered_in
ordered_others t o i j p n = day_in _ _ j ∙ seed_in _ _ j ∙ named_others t o.who i j _ p n

-- what stands in two tables alike: all settings but the seed, and the holidays
pub record Kept (t u : Table) : Type 0 where
  pub bank : u.settings.bank ≡ t.settings.bank
  pub software : u.settings.software ≡ t.settings.software
  pub floor : u.settings.floor ≡ t.settings.floor
  pub key : u.settings.maker.key ≡ t.settings.maker.key
  pub holidays : u.holidays ≡ t.holidays

-- adding keeps them, and the seed
pub added_keeps : (t : Table) (a : Adding) → (Kept t (added_to t a)) × ((added_to t a).settings ≡ t.settings)
unfolding added_to with_day with_added
added_keeps t a = (record { bank = refl; software = refl; floor = refl; key = refl; holidays = refl }, refl)

replaced_keeps : (t : Table) (f : Option ℕ) (c : Customer) → ((replaced_at t f c).settings ≡ t.settings)
    × ((replaced_at t f c).holidays ≡ t.holidays)
unfolding replaced_at with_customer
replaced_keeps t (Some i) c = (refl, refl)
replaced_keeps t None c = (refl, refl)

named_keeps : (t : Table) (who : List ℕ) (c : Customer) → ((with_named t who c).settings ≡ t.settings)
    × ((with_named t who c).holidays ≡ t.holidays)
unfolding with_named
named_keeps t who c = replaced_keeps t (place_of t who) c

-- entering keeps them, and the seed
pub entered_keeps : (t : Table) (e : Entering) → (Kept t (entered_in t e)) × ((entered_in t e).settings ≡ t.settings)
unfolding entered_in with_day
entered_keeps t e =
    let k = named_keeps t e.who _ in (
      record {
        bank = ap (λ (s : Settings). s.bank) k.0;
        software = ap (λ (s : Settings). s.software) k.0;
        floor = ap (λ (s : Settings). s.floor) k.0;
        key = ap (λ (s : Settings). s.maker.key) k.0;
        holidays = k.1;
      },
      k.0,
    )

-- ordering keeps them, and moves the seed on
pub ordered_keeps : (t : Table) (o : Ordering) → (Kept t (ordered_in t o))
    × ((ordered_in t o).settings.maker.seed ≡ next_seed t.settings.maker.key t.settings.maker.seed o.clock)
unfolding ordered_in with_day with_seed
ordered_keeps t o =
    let k = named_keeps t o.who _ in (
      record {
        bank = ap (λ (s : Settings). s.bank) k.0;
        software = ap (λ (s : Settings). s.software) k.0;
        floor = ap (λ (s : Settings). s.floor) k.0;
        key = ap (λ (s : Settings). s.maker.key) k.0;
        holidays = k.1;
      },
      refl,
    )

-- ---- the day never goes back

pub added_day : (b : List ℕ) (a : Adding) → adding_answer b a ≡ 0 → earlier (added_to (table_of b) a).day (table_of b).day ≡ false
unfolding added_to with_day
added_day b a z = (Served.adding_served b a z).day

pub entered_day : (b : List ℕ) (e : Entering) → entering_answer b e ≡ 0 → earlier (entered_in (table_of b) e).day (table_of b).day ≡ false
unfolding entered_in with_day
entered_day b e z = (Served.entering_served b e z).day

pub ordered_day : (b : List ℕ) (o : Ordering) → ordering_answer b o ≡ 0 → earlier (ordered_in (table_of b) o).day (table_of b).day ≡ false
unfolding ordered_in with_day
ordered_day b o z = (Served.ordering_served b o z).day
