-- What each call leaves: a refused one every byte, a served one a table; a read or an end changes nothing but with K, and then the sender's
-- record and V alone.
-- Assumes nothing.
use Rattle.std.specs.Prelude.{Some}
use Prim.Native.Nat.{ℕ}
use mathlib.Core.Path.{◌≡◌, refl, ap, ◌∙◌}
use mathlib.Core.List.{List, [], ◌∷◌}
use mathlib.Core.Bool.{Bool, true, false, false≢true}
use borrow.Author.Tests.{eqb-true, eqb-false}
use lib.Dec.{eqb}
use lib.ListN.{length}
use Rattle.ground.proofs.Choices.{fails-false}
use Rattle.ground.proofs.Bools.{neither}
use Rattle.calendar.specs.Dates.{real_date, earlier}
use Rattle.table.specs.Table.{Table, place_of, customer_in, with_day}
use Rattle.table.specs.Decode.{table_of, is_table}
use Rattle.table.proofs.Sound.{sound_day}
use Rattle.table.proofs.Decode.{is_written, rewritten_is, written_is}
use Rattle.refusals.specs.Refusals.{no_table, bad_day}
use Rattle.table_calls.specs.Calls.{setting_up_leaves, adding_leaves, entering_leaves, ordering_leaves}
use Rattle.refusals.proofs.Refused.{served}
use Rattle.table_calls.proofs.Rewritten.{served_leaves}
use Rattle.table_calls.proofs.Laws.{Kept, refused_leaves, setting_up_table, adding_table, entering_table, ordering_table}
use Rattle.message.specs.Fields.{receiver_of, sender_of}
use Rattle.opening.specs.declared.Opening.{Opening}
use Rattle.calls.specs.Reading.{opening_refusals, opening_answer, opening_leaves}
use Rattle.calls.specs.Calls.{Call, setting_up, adding, entering, ordering, opening, reading, ending, Typed, refusal_of, left_by, reply_by}
use Rattle.law_history.specs.History.{is_k, is_hearing}
use Rattle.law_history.proofs.Accepts.{Took}
use Rattle.law_history.proofs.Hearing.{Heard, nothing, with_e, with_k, read_refused_lem, read_hears, end_refused_lem, end_hears}

-- ---- open a file

pub record OpeningServed (b : List ℕ) (o : Opening) : Type 0 where
  pub table : is_table b ≡ true
  pub real : real_date o.today.yymmdd ≡ true
  pub day : earlier o.today.yymmdd (table_of b).day ≡ false

pub opening_served : (b : List ℕ) (o : Opening) → opening_answer b o ≡ 0 → OpeningServed b o
unfolding opening_answer opening_refusals no_table bad_day
opening_served b o z =
    let p = served 2 _ _ refl z in
    let d = neither _ _ (neither _ _ (served 4 _ _ refl p.1).0).0 in
    record { table = fails-false _ p.0; real = fails-false _ d.0; day = d.1 }

-- opening a file changes the day, and nothing else
pub opening_table : (b : List ℕ) (o : Opening) → opening_answer b o ≡ 0
    → (is_table (opening_leaves b o) ≡ true) × (table_of (opening_leaves b o) ≡ with_day (table_of b) o.today.yymmdd)
unfolding opening_leaves
opening_table b o z =
    let s = opening_served b o z in
    let u = with_day (table_of b) o.today.yymmdd in
    let k = served_leaves (opening_answer b o) b u z in
    let r = rewritten_is b u s.table (sound_day (table_of b) o.today.yymmdd (is_written b s.table).sound s.real) in
    (ap is_table k ∙ r.0, ap table_of k ∙ r.1)

-- ---- a refused call

-- leaves every byte of the table
pub refused_stays : (b : List ℕ) (c : Call) → (refusal_of b c ≡ 0 → ⊥) → left_by b c ≡ b
unfolding refusal_of left_by setting_up_leaves adding_leaves entering_leaves ordering_leaves opening_leaves
refused_stays b (setting_up s holidays) z = refused_leaves _ b _ z
refused_stays b (adding a) z = refused_leaves _ b _ z
refused_stays b (entering e) z = refused_leaves _ b _ z
refused_stays b (ordering o) z = refused_leaves _ b _ z
refused_stays b (opening o) z = refused_leaves _ b _ z
refused_stays b (reading s input room) z = (read_refused_lem s b input room z).0
refused_stays b (ending s room) z = (end_refused_lem s b room z).0

-- and shows no reply
pub refused_silent : (b : List ℕ) (c : Call) → (refusal_of b c ≡ 0 → ⊥) → reply_by b c ≡ []
unfolding refusal_of reply_by
refused_silent b (setting_up s holidays) z = refl
refused_silent b (adding a) z = refl
refused_silent b (entering e) z = refl
refused_silent b (ordering o) z = refl
refused_silent b (opening o) z = refl
refused_silent b (reading s input room) z = (read_refused_lem s b input room z).1
refused_silent b (ending s room) z = (end_refused_lem s b room z).1

-- a call is served or refused
pub by_refusal : {P : Type 0} (b : List ℕ) (c : Call) → (refusal_of b c ≡ 0 → P) → ((refusal_of b c ≡ 0 → ⊥) → P) → P
by_refusal {P} b c p q = by (eqb (refusal_of b c) 0) refl
  where
    by : (v : Bool) → eqb (refusal_of b c) 0 ≡ v → P
    by true e = p (eqb-true _ 0 e)
    by false e = q (eqb-false _ 0 e)

-- ---- a read and an end

pub call_heard : (b : List ℕ) (c : Call) → is_hearing c ≡ true → Typed c → refusal_of b c ≡ 0
    → (is_table b ≡ true) × Heard b (left_by b c) (reply_by b c)
unfolding is_hearing Typed refusal_of left_by reply_by
call_heard b (setting_up s holidays) h t z = absurd (false≢true h)
call_heard b (adding a) h t z = absurd (false≢true h)
call_heard b (entering e) h t z = absurd (false≢true h)
call_heard b (ordering o) h t z = absurd (false≢true h)
call_heard b (opening o) h t z = absurd (false≢true h)
call_heard b (reading s input room) h t z = read_hears s b input room t z
call_heard b (ending s room) h t z = end_hears s b room t z

-- what a call that shows the replies rs keeps of the table: day, holidays and settings but V;
-- every customer's place; every record but that of the sender whom a reply with K names
pub record Spared (t u : Table) (rs : List (List ℕ)) : Type 0 where
  pub day : u.day ≡ t.day
  pub kept : Kept t u
  pub count : length u.customers ≡ length t.customers
  pub places : (who : List ℕ) → place_of u who ≡ place_of t who
  pub others : (j : ℕ) → ((r : List ℕ) → rs ≡ r ∷ [] → is_k r ≡ true → place_of t (receiver_of r) ≡ Some j → ⊥) → customer_in u j ≡ customer_in t j

spared_same : (t u : Table) (rs : List (List ℕ)) → u ≡ t → Spared t u rs
spared_same t u rs e =
    record {
      day = ap (λ (x : Table). x.day) e;
      kept =
          record {
            bank = ap (λ (x : Table). x.settings.bank) e;
            software = ap (λ (x : Table). x.settings.software) e;
            floor = ap (λ (x : Table). x.settings.floor) e;
            key = ap (λ (x : Table). x.settings.maker.key) e;
            holidays = ap (λ (x : Table). x.holidays) e;
          };
      count = ap (λ (x : Table). length x.customers) e;
      places = λ who. ap (λ (x : Table). place_of x who) e;
      others = λ j n. ap (λ (x : Table). customer_in x j) e;
    }

spared_taken : (t u : Table) (rs : List (List ℕ)) (r m : List ℕ) → rs ≡ r ∷ [] → is_k r ≡ true → receiver_of r ≡ sender_of m → Took t u m
    → Spared t u rs
spared_taken t u rs r m e k w o =
    record {
      day = o.day;
      kept = o.kept;
      count = o.count;
      places = o.places;
      others = λ j n. o.others j (λ q. n r e k (ap (place_of t) w ∙ q));
    }

heard_spares : (b u : List ℕ) (rs : List (List ℕ)) → Heard b u rs → Spared (table_of b) (table_of u) rs
heard_spares b u rs (nothing e q) = spared_same _ _ rs (ap table_of q)
heard_spares b u rs (with_e r e n q) = spared_same _ _ rs (ap table_of q)
heard_spares b u rs (with_k r m e k w s i o) = spared_taken _ _ rs r m e k w o

-- a read and an end, served or not, spare all but the accepted message's sender
pub hearing_spares : (b : List ℕ) (c : Call) → is_hearing c ≡ true → Typed c → Spared (table_of b) (table_of (left_by b c)) (reply_by b c)
hearing_spares b c h t =
    by_refusal b c (λ z. heard_spares b (left_by b c) (reply_by b c) (call_heard b c h t z).1)
    (λ z. spared_same _ _ (reply_by b c) (ap table_of (refused_stays b c z)))

heard_e : (b u : List ℕ) (rs : List (List ℕ)) → Heard b u rs → ((r : List ℕ) → rs ≡ r ∷ [] → is_k r ≡ true → ⊥) → u ≡ b
heard_e b u rs (nothing e q) n = q
heard_e b u rs (with_e r e f q) n = q
heard_e b u rs (with_k r m e k w s i o) n = absurd (n r e k)

-- without a reply with K a read and an end leave every byte of the table
pub hearing_e : (b : List ℕ) (c : Call) → is_hearing c ≡ true → Typed c → ((r : List ℕ) → reply_by b c ≡ r ∷ [] → is_k r ≡ true → ⊥)
    → left_by b c ≡ b
hearing_e b c h t n =
    by_refusal b c (λ z. heard_e b (left_by b c) (reply_by b c) (call_heard b c h t z).1 n) (λ z. refused_stays b c z)

-- ---- every table that a served call leaves is a table

pub heard_table : (b u : List ℕ) (rs : List (List ℕ)) → is_table b ≡ true → Heard b u rs → is_table u ≡ true
heard_table b u rs e (nothing p q) = ap is_table q ∙ e
heard_table b u rs e (with_e r p n q) = ap is_table q ∙ e
heard_table b u rs e (with_k r m p k w s i o) = i

hearing_table : (b : List ℕ) (c : Call) → is_hearing c ≡ true → Typed c → refusal_of b c ≡ 0 → is_table (left_by b c) ≡ true
hearing_table b c h t z =
    let k = call_heard b c h t z in heard_table b (left_by b c) (reply_by b c) k.0 k.1

pub call_table : (b : List ℕ) (c : Call) → Typed c → refusal_of b c ≡ 0 → is_table (left_by b c) ≡ true
unfolding is_hearing Typed refusal_of left_by
call_table b (setting_up s holidays) t z = (written_is _ _ (setting_up_table b s holidays z t.0 t.1 t.2 t.3)).0
call_table b (adding a) t z = (adding_table b a z t).0
call_table b (entering e) t z = (entering_table b e z).0
call_table b (ordering o) t z = (ordering_table b o z).0
call_table b (opening o) t z = (opening_table b o z).0
call_table b (reading s input room) t z = hearing_table b (reading s input room) refl t z
call_table b (ending s room) t z = hearing_table b (ending s room) refl t z
