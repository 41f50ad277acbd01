-- A call changes the record of one place at most, that of the customer whom it names, keeps its name and moves nobody: so every other
-- stands as it was.
-- Assumes nothing.
use Rattle.std.specs.Prelude.{Some}
use Prim.Native.Nat.{ℕ, ◌+◌, ◌<◌}
use mathlib.Core.Path.{◌≡◌, refl, sym, ap, ◌∙◌, subst}
use mathlib.Core.List.{List, [], ◌∷◌, ◌++◌}
use mathlib.Core.Bool.{Bool, true, false, false≢true}
use lib.ListN.{length, length-append}
use Rattle.ground.specs.Choice.{pick}
use Rattle.ground.specs.Lists.{same}
use Rattle.ground.proofs.Choices.{left, join, either_left, eq-same, fails-true}
use Rattle.customer.specs.declared.Customer.{Customer}
use Rattle.table.specs.Table.{Table, place_from, place_of, is_unknown, customer_in, with_added, with_day, with_seed}
use Rattle.table.specs.Named.{named, with_named}
use Rattle.table.specs.Decode.{table_of}
use Rattle.table.proofs.Decode.{written_is}
use Rattle.table.proofs.Places.{same_place, found_is, named_at, with_named_at}
use Rattle.table_calls.specs.Calls.{new_table, new_customer, added_to, entered_in, ordered_in}
use Rattle.table_calls.specs.declared.Adding.{Adding}
use Rattle.table_calls.specs.declared.Entering.{Entering}
use Rattle.table_calls.specs.declared.Ordering.{Ordering}
use Rattle.table_calls.proofs.Customers.{transport_who, working_who}
use Rattle.table_calls.proofs.Served.{entering_served, ordering_served}
use Rattle.table_calls.proofs.Laws.{Kept, setting_up_table, adding_table, entering_table, ordering_table, added_others, entered_others}
use Rattle.table_calls.proofs.Laws.{ordered_others, added_keeps, entered_keeps, ordered_keeps}
use Rattle.message.specs.Fields.{receiver_of}
use Rattle.verdict.proofs.Laws.{named_stays}
use Rattle.calls.specs.Calls.{Call, setting_up, adding, entering, ordering, opening, reading, ending, Typed, refusal_of, left_by, reply_by}
use Rattle.law_history.specs.History.{is_k, is_setting_up, is_hearing}
use Rattle.law_history.proofs.Stays.{by_refusal, refused_stays, hearing_spares, hearing_e, opening_table, call_table}
use Rattle.law_demands.specs.Demands.{no_k, NoKNoChange, OpeningKeepsRecords, is_named, names, Stays, OthersStay, TablesStay, day_after}
use Rattle.law_demands.specs.Demands.{count_after, DayAndCount}

-- ---- without a reply with K

no_k_lem : (rs : List (List ℕ)) (r : List ℕ) → no_k rs ≡ true → rs ≡ r ∷ [] → is_k r ≡ true → ⊥
unfolding no_k
no_k_lem rs r n e k = false≢true (sym (fails-true _ (left _ _ (sym (ap no_k e) ∙ n))) ∙ k)

pub no_k_no_change : NoKNoChange
no_k_no_change b c t h n = hearing_e b c h t (λ r e k. no_k_lem (reply_by b c) r n e k)

pub opening_keeps_records : OpeningKeepsRecords
unfolding refusal_of left_by with_day
opening_keeps_records b o =
    by_refusal b (opening o) (λ z. ap (λ (t : Table). t.customers) (opening_table b o z).1)
    (λ z. ap (λ (w : List ℕ). (table_of w).customers) (refused_stays b (opening o) z))

-- ---- what stays, from what the calls' laws say

stays_by : (t u : Table) (to : List ℕ → Bool) → ((who : List ℕ) → is_unknown (place_of t who) ≡ false → place_of u who ≡ place_of t who)
    → ((i : ℕ) → i < length t.customers → to (customer_in t i).who ≡ false → customer_in u i ≡ customer_in t i) → Kept t u → Stays t u to
stays_by t u to p r k =
    record {
      places = p;
      records = r;
      bank = k.bank;
      software = k.software;
      floor = k.floor;
      maker_key = k.key;
      holidays = k.holidays;
    }

-- the place found for a name is no place of another name
apart : (t : Table) (who : List ℕ) (i j : ℕ) → place_of t who ≡ Some i → same who (customer_in t j).who ≡ false → i ≡ j → ⊥
apart t who i j p n q =
    false≢true
    (sym n ∙ eq-same _ _ (sym (found_is t who i p).1 ∙ ap (λ (k : ℕ). (customer_in t k).who) q))

-- ---- open a file

dated_stays : (t : Table) (d : ℕ) (to : List ℕ → Bool) → Stays t (with_day t d) to
unfolding with_day place_of customer_in
dated_stays t d to =
    stays_by t (with_day t d) to (λ who e. refl) (λ i h n. refl)
    (record { bank = refl; software = refl; floor = refl; key = refl; holidays = refl })

-- ---- add a customer: whoever was found is found first

place_more : (l m : List Customer) (k : ℕ) (who : List ℕ) → is_unknown (place_from k who l) ≡ false → place_from k who (l ++ m)
    ≡ place_from k who l
unfolding place_from is_unknown pick
place_more [] m k who e = absurd (false≢true (sym e))
place_more (c ∷ l) m k who e = by (same c.who who) e (place_more l m (k + 1) who)
  where
    by : (v : Bool) → is_unknown (pick v (Some k) (place_from (k + 1) who l)) ≡ false
        → (is_unknown (place_from (k + 1) who l) ≡ false → place_from (k + 1) who (l ++ m) ≡ place_from (k + 1) who l)
        → pick v (Some k) (place_from (k + 1) who (l ++ m)) ≡ pick v (Some k) (place_from (k + 1) who l)
    by true p r = refl
    by false p r = r p

added_place : (t : Table) (a : Adding) (who : List ℕ) → is_unknown (place_of t who) ≡ false → place_of (added_to t a) who ≡ place_of t who
unfolding place_of added_to with_day with_added
added_place t a who e = place_more t.customers _ 0 who e

added_stays : (t : Table) (a : Adding) (to : List ℕ → Bool) → Stays t (added_to t a) to
added_stays t a to = stays_by t (added_to t a) to (added_place t a) (λ i h n. added_others t a i h) (added_keeps t a).0

-- ---- a new key: the record in the named one's place has its name

renamed_place : (t : Table) (who : List ℕ) (i : ℕ) (c : Customer) → place_of t who ≡ Some i → c.who ≡ (named t who).who
    → (x : List ℕ) → place_of (with_named t who c) x ≡ place_of t x
renamed_place t who i c p w x =
    ap (λ (u : Table). place_of u x) (with_named_at t who i c p)
    ∙ same_place t i c x (w ∙ ap (λ (d : Customer). d.who) (named_at t who i p))

module _ (t : Table) (e : Entering) (i : ℕ) (p : place_of t e.who ≡ Some i) where
  entered_place : (who : List ℕ) → place_of (entered_in t e) who ≡ place_of t who
  unfolding entered_in place_of with_day
  entered_place who = renamed_place t e.who i _ p (transport_who _ _ _ _) who

  entered_stays : Stays t (entered_in t e) (same e.who)
  entered_stays =
      stays_by t (entered_in t e) (same e.who) (λ who k. entered_place who)
      (λ j h n. entered_others t e i j p (apart t e.who i j p n))
      (entered_keeps t e).0

module _ (t : Table) (o : Ordering) (i : ℕ) (p : place_of t o.who ≡ Some i) where
  ordered_place : (who : List ℕ) → place_of (ordered_in t o) who ≡ place_of t who
  unfolding ordered_in place_of with_day with_seed
  ordered_place who = renamed_place t o.who i _ p (working_who _ _ _) who

  ordered_stays : Stays t (ordered_in t o) (same o.who)
  ordered_stays =
      stays_by t (ordered_in t o) (same o.who) (λ who k. ordered_place who)
      (λ j h n. ordered_others t o i j p (apart t o.who i j p n))
      (ordered_keeps t o).0

-- ---- a read and an end: a reply with K names its sender

k_names : (t : Table) (j : ℕ) (rs : List (List ℕ)) (r : List ℕ) → is_named (customer_in t j).who rs ≡ false → rs ≡ r ∷ [] → is_k r ≡ true
    → place_of t (receiver_of r) ≡ Some j → ⊥
unfolding is_named
k_names t j rs r n e k p =
    false≢true
    (sym n
    ∙ ap (is_named (customer_in t j).who) e
    ∙ either_left _ _ (join _ _ k (eq-same _ _ (sym (found_is t (receiver_of r) j p).1))))

hearing_stays : (b : List ℕ) (c : Call) → is_hearing c ≡ true → Typed c
    → Stays (table_of b) (table_of (left_by b c)) (λ who. is_named who (reply_by b c))
hearing_stays b c h t =
    let s = hearing_spares b c h t in
    stays_by (table_of b) (table_of (left_by b c)) _ (λ who e. s.places who)
    (λ j l n. s.others j (λ r e k p. k_names (table_of b) j (reply_by b c) r n e k p))
    s.kept

-- ---- any call

as_left : (t u v : Table) (to : List ℕ → Bool) → u ≡ v → Stays t v to → Stays t u to
as_left t u v to e s = subst (λ (x : Table). Stays t x to) (sym e) s

pub others_stay : OthersStay
unfolding Typed is_setting_up refusal_of left_by names is_hearing
others_stay b (setting_up s holidays) t n z = absurd (false≢true (sym n))
others_stay b (adding a) t n z = as_left _ _ _ _ (adding_table b a z t).1 (added_stays (table_of b) a (λ who. false))
others_stay b (entering e) t n z =
    let i = (entering_served b e z).place in as_left _ _ _ _ (entering_table b e z).1 (entered_stays (table_of b) e i.0 i.1)
others_stay b (ordering o) t n z =
    let i = (ordering_served b o z).place in as_left _ _ _ _ (ordering_table b o z).1 (ordered_stays (table_of b) o i.0 i.1)
others_stay b (opening o) t n z = as_left _ _ _ _ (opening_table b o z).1 (dated_stays (table_of b) o.today.yymmdd (λ who. false))
others_stay b (reading s input room) t n z = hearing_stays b (reading s input room) refl t
others_stay b (ending s room) t n z = hearing_stays b (ending s room) refl t

pub tables_stay : TablesStay
tables_stay = call_table

-- ---- the day and the number of customers

-- of the table u, as a call leaves it
abbrev Counted : ℕ → ℕ → Table → Type 0
Counted day count u = (u.day ≡ day) × (length u.customers ≡ count)

added_counted : (t : Table) (a : Adding) → Counted a.today.yymmdd (length t.customers + 1) (added_to t a)
unfolding added_to with_day with_added
added_counted t a = (refl, length-append t.customers (new_customer a ∷ []))

entered_counted : (t : Table) (e : Entering) → Counted e.today.yymmdd (length t.customers) (entered_in t e)
unfolding entered_in with_day
entered_counted t e = (refl, (named_stays t e.who _).3)

ordered_counted : (t : Table) (o : Ordering) → Counted o.today.yymmdd (length t.customers) (ordered_in t o)
unfolding ordered_in with_day with_seed
ordered_counted t o = (refl, (named_stays t o.who _).3)

counted_as : (day count : ℕ) (u v : Table) → u ≡ v → Counted day count v → Counted day count u
counted_as day count u v e k = subst (Counted day count) (sym e) k

hearing_counted : (b : List ℕ) (c : Call) → is_hearing c ≡ true → Typed c
    → Counted (table_of b).day (length (table_of b).customers) (table_of (left_by b c))
hearing_counted b c h t = let s = hearing_spares b c h t in (s.day, s.count)

pub day_and_count : DayAndCount
unfolding Typed refusal_of left_by day_after count_after is_hearing new_table with_day
day_and_count b (setting_up s holidays) t z =
    counted_as _ _ _ _ (written_is _ _ (setting_up_table b s holidays z t.0 t.1 t.2 t.3)).1 (refl, refl)
day_and_count b (adding a) t z = counted_as _ _ _ _ (adding_table b a z t).1 (added_counted (table_of b) a)
day_and_count b (entering e) t z = counted_as _ _ _ _ (entering_table b e z).1 (entered_counted (table_of b) e)
day_and_count b (ordering o) t z = counted_as _ _ _ _ (ordering_table b o z).1 (ordered_counted (table_of b) o)
day_and_count b (opening o) t z = counted_as _ _ _ _ (opening_table b o z).1 (refl, refl)
day_and_count b (reading s input room) t z = hearing_counted b (reading s input room) refl t
day_and_count b (ending s room) t z = hearing_counted b (ending s room) refl t
