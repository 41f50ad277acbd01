-- What an accepted message passed and what it leaves: its stamp was neither held nor too old;
-- then it is held, and all but the sender's record and the key maker's seed is as it was.
-- Assumes nothing.
use Rattle.std.specs.Prelude.{Some, Ok}
use Prim.Native.Nat.{ℕ}
use mathlib.Core.Path.{◌≡◌, refl, sym, ap, ◌∙◌, subst}
use mathlib.Core.List.{List, ◌++◌}
use mathlib.Core.Bool.{false}
use lib.ListN.{length}
use Rattle.calendar.specs.Banking.{too_old}
use Rattle.calendar.specs.Dates.{dated}
use Rattle.calendar.specs.declared.Date.{Date}
use Rattle.customer.specs.declared.Customer.{Customer}
use Rattle.customer.specs.declared.Settings.{Settings}
use Rattle.acceptance.specs.Stamps.{holds_stamp, stamp_old}
use Rattle.table.specs.Table.{Table, place_of, customer_in, with_seed}
use Rattle.table.specs.Named.{named}
use Rattle.table.proofs.Places.{same_place, with_named_at}
use Rattle.table_calls.proofs.Laws.{Kept}
use Rattle.message.specs.Fields.{sender_of, stamp_of}
use Rattle.message.specs.declared.Kind.TheVariants.{Esi, Suo, Var}
use Rattle.message.proofs.Stamps.{stamp_date}
use Rattle.message.specs.Order.{first_failing}
use Rattle.message.specs.Rules.{form_of, form_checks}
use Rattle.message.specs.declared.About.TheVariants.{Answered, Closing}
use Rattle.checks.specs.Checks.{party_checks, stamp_checks, room_checks, esi_key_checks, type_checks, pair_checks, key_checks, esi_checks}
use Rattle.checks.specs.Checks.{frame_checks, key_or0}
use Rattle.verdict.specs.Outcomes.{record_after, table_after, esi_table, frame_table}
use Rattle.message.specs.declared.Collected.{Collected}
use Rattle.checks.specs.declared.Frame.{Frame}
use Rattle.checks.specs.declared.Occasion.{Occasion}
use Rattle.message.proofs.Order.{NoneFails, accepted, none_left, none_right}
use Rattle.checks.proofs.Parts.{esi_parts, frame_parts, esi_parts_lem, frame_parts_lem}
use Rattle.verdict.proofs.Laws.{Accepted, Marked, esi_accepted, frame_accepted, esi_marked, frame_marked, esi_others, frame_others, esi_is}
use Rattle.verdict.proofs.Laws.{frame_is, who_is, record_who, named_stays, after_day}

-- the message m was accepted on the table t, and u is the table after it
pub record Took (t u : Table) (m : List ℕ) : Type 0 where
  pub passed : Accepted t (dated t.day) m
  pub unused : holds_stamp (named t (sender_of m)) (stamp_of m) ≡ false
  pub recent : stamp_old t.holidays (dated t.day) (stamp_of m) ≡ false
  pub marked : Marked t u (dated t.day) m
  pub others : (j : ℕ) → (place_of t (sender_of m) ≡ Some j → ⊥) → customer_in u j ≡ customer_in t j
  pub places : (who : List ℕ) → place_of u who ≡ place_of t who
  pub count : length u.customers ≡ length t.customers
  pub day : u.day ≡ t.day
  pub kept : Kept t u

-- ---- the stamp

esi_stamps : (t : Table) (today : Date) (m : Collected) → first_failing (esi_checks t today m) ≡ Ok tt
    → NoneFails (stamp_checks t (named t (sender_of m.text)) today m.text)
esi_stamps t today m e =
    let c = named t (sender_of m.text) in
    let l₃ = esi_key_checks c m.text ++ room_checks t c today in
    let l₂ = stamp_checks t c today m.text ++ l₃ in
    let l₁ = party_checks t m.text ++ l₂ in
    let n = accepted (esi_parts t c today m) (ap first_failing (sym (esi_parts_lem t today m)) ∙ e) in
    none_left (stamp_checks t c today m.text) l₃
    (none_right (party_checks t m.text) l₂ (none_right (form_checks (form_of Esi) Answered m) l₁ n))

frame_stamps : (t : Table) (today : Date) (kind : ℕ) (f : Frame) → first_failing (frame_checks t today kind f) ≡ Ok tt
    → NoneFails (stamp_checks t (named t (sender_of f.suo.text)) today f.suo.text)
frame_stamps t today kind f e =
    let c = named t (sender_of f.suo.text) in
    let l₆ = key_checks t c today f ++ room_checks t c today in
    let l₅ = stamp_checks t c today f.suo.text ++ l₆ in
    let l₄ = pair_checks f.suo.text f.var.text ++ l₅ in
    let l₃ = type_checks c kind ++ l₄ in
    let l₂ = party_checks t f.suo.text ++ l₃ in
    let l₁ = form_checks (form_of Var) Closing f.var ++ l₂ in
    let n = accepted (frame_parts t c today kind f) (ap first_failing (sym (frame_parts_lem t today kind f)) ∙ e) in
    let p = none_right (form_checks (form_of Var) Closing f.var) l₂ (none_right (form_checks (form_of Suo) Answered f.suo) l₁ n) in
    let b = none_right (type_checks c kind) l₄ (none_right (party_checks t f.suo.text) l₃ p) in
    none_left (stamp_checks t c today f.suo.text) l₆ (none_right (pair_checks f.suo.text f.var.text) l₅ b)

-- neither too old nor held
stamp_passed : (t : Table) (c : Customer) (today : Date) (m : List ℕ) → length m ≡ 161 → NoneFails (stamp_checks t c today m)
    → (stamp_old t.holidays today (stamp_of m) ≡ false) × (holds_stamp c (stamp_of m) ≡ false)
unfolding stamp_checks
stamp_passed t c today m l n =
    (ap (λ (d : Date). too_old t.holidays d today) (sym (stamp_date m l)) ∙ n.0, n.1.1.0)

-- ---- what stays

seed_place : (t : Table) (v : ℕ) (who : List ℕ) → place_of (with_seed t v) who ≡ place_of t who
unfolding place_of with_seed
seed_place t v who = refl

module _ (t : Table) (o : Occasion) (m closing : List ℕ) (once : ℕ) where
  after_count : length (table_after t o m closing once).customers ≡ length t.customers
  unfolding table_after with_seed
  after_count = (named_stays t (sender_of m) (record_after t o m closing once)).3

  after_kept : Kept t (table_after t o m closing once)
  unfolding table_after with_seed
  after_kept =
      let k = named_stays t (sender_of m) (record_after t o m closing once) in
      record {
        bank = ap (λ (s : Settings). s.bank) k.1;
        software = ap (λ (s : Settings). s.software) k.1;
        floor = ap (λ (s : Settings). s.floor) k.1;
        key = ap (λ (s : Settings). s.maker.key) k.1;
        holidays = k.2;
      }

  after_places : Accepted t o.today m → (who : List ℕ) → place_of (table_after t o m closing once) who ≡ place_of t who
  unfolding table_after
  after_places a who =
      let c = record_after t o m closing once in
      seed_place _ _ who
      ∙ ap (λ (u : Table). place_of u who) (with_named_at t (sender_of m) a.place c a.known)
      ∙ same_place t a.place c who (who_is t (sender_of m) a.place a.known c (record_who t o m closing once) 0)

-- ---- both kinds

took : (t u : Table) (o : Occasion) (m closing : List ℕ) (once : ℕ) → o.today.yymmdd ≡ t.day → length m ≡ 161
    → u ≡ table_after t o m closing once → Accepted t o.today m
    → NoneFails (stamp_checks t (named t (sender_of m)) o.today m)
    → Marked t u o.today m → ((j : ℕ) → (place_of t (sender_of m) ≡ Some j → ⊥) → customer_in u j ≡ customer_in t j)
    → Took t u m
took t u o m closing once d l e a n k x =
    let s = stamp_passed t (named t (sender_of m)) o.today m l n in
    record {
      passed = subst (λ (y : ℕ). Accepted t (dated y) m) d a;
      unused = s.1;
      recent = ap (λ (y : ℕ). stamp_old t.holidays (dated y) (stamp_of m)) (sym d) ∙ s.0;
      marked = subst (λ (y : ℕ). Marked t u (dated y) m) d k;
      others = x;
      places = λ who. ap (λ (v : Table). place_of v who) e ∙ after_places t o m closing once a who;
      count = ap (λ (v : Table). length v.customers) e ∙ after_count t o m closing once;
      day = ap (λ (v : Table). v.day) e ∙ after_day t o m closing once;
      kept = subst (λ (v : Table). Kept t v) (sym e) (after_kept t o m closing once);
    }

pub esi_took : (t : Table) (o : Occasion) (m : Collected) → o.today.yymmdd ≡ t.day → length m.text ≡ 161
    → first_failing (esi_checks t o.today m) ≡ Ok tt → Took t (esi_table t o m) m.text
esi_took t o m d l e =
    took t (esi_table t o m) o m.text m.text 0 d l (esi_is t o m e) (esi_accepted t o.today m e)
    (esi_stamps t o.today m e) (esi_marked t o m e) (esi_others t o m)

pub frame_took : (t : Table) (o : Occasion) (f : Frame) → o.today.yymmdd ≡ t.day → length f.suo.text ≡ 161
    → first_failing (frame_checks t o.today o.kind f) ≡ Ok tt → Took t (frame_table t o f) f.suo.text
frame_took t o f d l e =
    took t (frame_table t o f) o f.suo.text f.var.text (key_or0 f.once) d l (frame_is t o f e)
    (frame_accepted t o.today o.kind f e) (frame_stamps t o.today o.kind f e) (frame_marked t o f e)
    (frame_others t o f)
