-- What a verdict means: with E nothing changes; with K the sender's record holds the new stamp, and all that it must keep stays.
-- Assumes nothing.
use Rattle.std.specs.Prelude.{None, Option, Some, Err, Ok, Result}
use mathlib.Core.Path.{◌≡◌, refl, sym, ap, ap₂, ◌∙◌, subst}
use mathlib.Core.Bool.{true, false}
use mathlib.Core.List.{List, ◌++◌}
use Prim.Native.Nat.{ℕ, ◌≤◌, ◌<◌}
use native.Mathlib.Omega.{arith}
use borrow.Author.Tests.{leb-false, lt-ltb}
use lib.ListN.{length, take, length-set}
use Rattle.ground.specs.Lists.{member}
use Rattle.ground.proofs.Choices.{join}
use Rattle.calendar.specs.declared.Date.{Date}
use Rattle.customer.specs.Customer.{real_stamp}
use Rattle.customer.specs.declared.Customer.{Customer}
use Rattle.acceptance.specs.Stamps.{holds_stamp, stamp_old, held_stamps, live_of, live_stamps, with_stamp}
use Rattle.acceptance.proofs.Grants.{grant_who, grant_stamps}
use Rattle.acceptance.proofs.Purge.{stamp_new, stamp_kept}
use Rattle.table.specs.Table.{Table, place_of, customer_in, with_customer, with_seed}
use Rattle.table.specs.Named.{customer_at, replaced_at, named, with_named}
use Rattle.table.specs.Decode.{table_of}
use Rattle.table.proofs.Places.{others_stay, stored_is, same_place, found_is, named_at, with_named_at, seed_in, known_at}
use Rattle.message.specs.Order.{first_failing, fault_at}
use Rattle.message.specs.Rules.{form_of, form_checks}
use Rattle.message.specs.Fields.{sender_of, stamp_of}
use Rattle.message.specs.declared.About.{About}
use Rattle.message.specs.declared.About.TheVariants.{Answered, Closing}
use Rattle.message.specs.declared.Kind.{Kind}
use Rattle.message.specs.declared.Kind.TheVariants.{Esi, Suo, Var}
use Rattle.message.specs.declared.Fault.{Fault}
use Rattle.message.proofs.Laws.{sound_stamp}
use Rattle.checks.specs.Checks.{party_checks, stamp_checks, room_checks, esi_key_checks, type_checks, pair_checks, key_checks, esi_checks}
use Rattle.checks.specs.Checks.{frame_checks, key_or0}
use Rattle.verdict.specs.Outcomes.{grant_to, record_after, table_after, table_by, bytes_by, esi_table, frame_table, esi_leaves, frame_leaves}
use Rattle.message.specs.declared.Collected.{Collected}
use Rattle.checks.specs.declared.Frame.{Frame}
use Rattle.checks.specs.declared.Occasion.{Occasion}
use Rattle.verdict.proofs.Keeps.{Kept, grant_kept, stamp_keeps}
use Rattle.message.proofs.Order.{NoneFails, accepted, none_fails_lem, none_left, none_right}
use Rattle.checks.proofs.Parts.{esi_parts, frame_parts, esi_parts_lem, frame_parts_lem}

-- ---- with E nothing changes

by_found : (f : Result Unit Fault) (c n : ℕ) (a : About) (before after : Table) → f ≡ fault_at c n a → table_by f before after ≡ before
unfolding table_by
by_found f c n a before after e = ap (λ (x : Result Unit Fault). table_by x before after) e

bytes_found : (f : Result Unit Fault) (c n : ℕ) (a : About) (before after : List ℕ) → f ≡ fault_at c n a → bytes_by f before after ≡ before
unfolding bytes_by
bytes_found f c n a before after e = ap (λ (x : Result Unit Fault). bytes_by x before after) e

pub esi_e_changes_nothing : (t : Table) (o : Occasion) (m : Collected) (c n : ℕ) (a : About)
    → first_failing (esi_checks t o.today m) ≡ fault_at c n a → esi_table t o m ≡ t
unfolding esi_table
esi_e_changes_nothing t o m c n a e = by_found _ c n a _ _ e

pub frame_e_changes_nothing : (t : Table) (o : Occasion) (f : Frame) (c n : ℕ) (a : About)
    → first_failing (frame_checks t o.today o.kind f) ≡ fault_at c n a → frame_table t o f ≡ t
unfolding frame_table
frame_e_changes_nothing t o f c n a e = by_found _ c n a _ _ e

pub esi_e_leaves : (b : List ℕ) (o : Occasion) (m : Collected) (c n : ℕ) (a : About)
    → first_failing (esi_checks (table_of b) o.today m) ≡ fault_at c n a → esi_leaves b o m ≡ b
unfolding esi_leaves
esi_e_leaves b o m c n a e = bytes_found _ c n a _ _ e

pub frame_e_leaves : (b : List ℕ) (o : Occasion) (f : Frame) (c n : ℕ) (a : About)
    → first_failing (frame_checks (table_of b) o.today o.kind f) ≡ fault_at c n a → frame_leaves b o f ≡ b
unfolding frame_leaves
frame_e_leaves b o f c n a e = bytes_found _ c n a _ _ e

-- ---- the customer who is named

seed_at : (t : Table) (v : ℕ) (f : Option ℕ) → customer_at (with_seed t v) f ≡ customer_at t f
unfolding customer_at customer_in with_seed
seed_at t v (Some i) = refl
seed_at t v None = refl

seed_named : (t : Table) (v : ℕ) (who : List ℕ) → named (with_seed t v) who ≡ named t who
unfolding named place_of with_seed
seed_named t v who = seed_at t v (place_of t who)

replaced_others : (t : Table) (f : Option ℕ) (c : Customer) (j : ℕ) → (f ≡ Some j → ⊥) → customer_in (replaced_at t f c) j ≡ customer_in t j
unfolding replaced_at
replaced_others t (Some i) c j n = others_stay t i j c (λ q. n (ap Some q))
replaced_others t None c j n = refl

named_others : (t : Table) (who : List ℕ) (c : Customer) (j : ℕ) → (place_of t who ≡ Some j → ⊥) → customer_in (with_named t who c) j
    ≡ customer_in t j
unfolding with_named
named_others t who c j n = replaced_others t (place_of t who) c j n

-- another record with the same name, and another seed
module _ (t : Table) (who : List ℕ) (i : ℕ) (e : place_of t who ≡ Some i) (c : Customer) (w : c.who ≡ (named t who).who) (v : ℕ) where
  pub who_is : c.who ≡ (customer_in t i).who
  who_is = w ∙ ap (λ (d : Customer). d.who) (named_at t who i e)

  pub named_after : named (with_seed (with_named t who c) v) who ≡ c
  named_after =
      seed_named (with_named t who c) v who
      ∙ ap (λ (u : Table). named u who) (with_named_at t who i c e)
      ∙ named_at (with_customer t i c) who i (same_place t i c who who_is ∙ e)
      ∙ stored_is t i c (found_is t who i e).0

-- ---- what an accepted message is known by

-- the sender is in the table, there is room for a stamp, and the stamp is real
pub record Accepted (t : Table) (today : Date) (m : List ℕ) : Type 0 where
  pub place : ℕ
  pub known : place_of t (sender_of m) ≡ Some place
  pub room : length (live_stamps t.holidays today (named t (sender_of m))) < 64
  pub real : length m ≡ 161 → real_stamp (stamp_of m) ≡ true

party_known : (t : Table) (m : List ℕ) → NoneFails (party_checks t m) → (i : ℕ) × (place_of t (sender_of m) ≡ Some i)
unfolding party_checks
party_known t m n = known_at (place_of t (sender_of m)) n.1.1.0

room_left : (t : Table) (c : Customer) (today : Date) → NoneFails (room_checks t c today) → length (live_stamps t.holidays today c) < 64
unfolding room_checks
room_left t c today n = leb-false 64 _ n.0

form_real : (k : Kind) (about : About) (m : Collected) → NoneFails (form_checks (form_of k) about m) → length m.text ≡ 161
    → real_stamp (stamp_of m.text) ≡ true
unfolding real_stamp
form_real k about m n l =
    let s = sound_stamp k about m (none_fails_lem (form_checks (form_of k) about m) n) l in
    join _ _ (lt-ltb (stamp_of m.text) 1000000000000000 s.0) (join _ _ s.1 s.2)

given : (k : Kind) (t : Table) (today : Date) (m : Collected) → NoneFails (form_checks (form_of k) Answered m)
    → NoneFails (party_checks t m.text)
    → NoneFails (room_checks t (named t (sender_of m.text)) today) → Accepted t today m.text
given k t today m f p r =
    let i = party_known t m.text p in
    record { place = i.0; known = i.1; room = room_left t _ today r; real = form_real k Answered m f }

pub esi_accepted : (t : Table) (today : Date) (m : Collected) → first_failing (esi_checks t today m) ≡ Ok tt → Accepted t today m.text
esi_accepted t today m e =
    let c = named t (sender_of m.text) in
    let l₃ = esi_key_checks c m.text ++ room_checks t c today in
    let l₂ = stamp_checks t c today m.text ++ l₃ in
    let l₁ = party_checks t m.text ++ l₂ in
    let n = accepted (esi_parts t c today m) (ap first_failing (sym (esi_parts_lem t today m)) ∙ e) in
    let p = none_right (form_checks (form_of Esi) Answered m) l₁ n in
    let s = none_right (party_checks t m.text) l₂ p in
    let k = none_right (stamp_checks t c today m.text) l₃ s in
    given Esi t today m (none_left (form_checks (form_of Esi) Answered m) l₁ n) (none_left (party_checks t m.text) l₂ p)
    (none_right (esi_key_checks c m.text) (room_checks t c today) k)

-- and of a frame also that its one-time key has passed
pub frame_passed : (t : Table) (today : Date) (kind : ℕ) (f : Frame) → first_failing (frame_checks t today kind f) ≡ Ok tt
    → Accepted t today f.suo.text × NoneFails (key_checks t (named t (sender_of f.suo.text)) today f)
frame_passed t today kind f e =
    let c = named t (sender_of f.suo.text) in
    let l₆ = key_checks t c today f ++ room_checks t c today in
    let l₅ = stamp_checks t c today f.suo.text ++ l₆ in
    let l₄ = pair_checks f.suo.text f.var.text ++ l₅ in
    let l₃ = type_checks c kind ++ l₄ in
    let l₂ = party_checks t f.suo.text ++ l₃ in
    let l₁ = form_checks (form_of Var) Closing f.var ++ l₂ in
    let n = accepted (frame_parts t c today kind f) (ap first_failing (sym (frame_parts_lem t today kind f)) ∙ e) in
    let p = none_right (form_checks (form_of Var) Closing f.var) l₂ (none_right (form_checks (form_of Suo) Answered f.suo) l₁ n) in
    let b = none_right (type_checks c kind) l₄ (none_right (party_checks t f.suo.text) l₃ p) in
    let s = none_right (pair_checks f.suo.text f.var.text) l₅ b in
    let k = none_right (stamp_checks t c today f.suo.text) l₆ s in (
      given Suo t today f.suo (none_left (form_checks (form_of Suo) Answered f.suo) l₁ n)
          (none_left (party_checks t f.suo.text) l₃ p)
          (none_right (key_checks t c today f) (room_checks t c today) k),
      none_left (key_checks t c today f) (room_checks t c today) k,
    )

pub frame_accepted : (t : Table) (today : Date) (kind : ℕ) (f : Frame) → first_failing (frame_checks t today kind f) ≡ Ok tt
    → Accepted t today f.suo.text
frame_accepted t today kind f e = (frame_passed t today kind f e).0

-- ---- what acceptance leaves

module _ (t : Table) (o : Occasion) (m closing : List ℕ) (once : ℕ) where
  granted_who : (grant_to t o m closing).customer.who ≡ (named t (sender_of m)).who
  unfolding grant_to
  granted_who = grant_who _ _ _ _ _ _

  pub record_who : (record_after t o m closing once).who ≡ (named t (sender_of m)).who
  unfolding record_after with_stamp
  record_who = granted_who

  pub granted_stamps : ((grant_to t o m closing).customer.count ≡ (named t (sender_of m)).count)
      × ((grant_to t o m closing).customer.stamps ≡ (named t (sender_of m)).stamps)
      × ((grant_to t o m closing).customer.once ≡ (named t (sender_of m)).once)
  unfolding grant_to
  granted_stamps = grant_stamps _ _ _ _ _ _

  held_same : held_stamps (grant_to t o m closing).customer ≡ held_stamps (named t (sender_of m))
  held_same = ap₂ (λ (n : ℕ) (l : List ℕ). take n l) granted_stamps.0 granted_stamps.1

  module _ (a : Accepted t o.today m) where
    pub room_after : length (live_stamps t.holidays o.today (grant_to t o m closing).customer) < 64
    room_after =
        omega (arith, ap (λ (l : List ℕ). length (live_of t.holidays o.today l l)) held_same, a.room)

    pub after_is : named (table_after t o m closing once) (sender_of m) ≡ record_after t o m closing once
    unfolding table_after
    after_is =
        named_after t (sender_of m) a.place a.known (record_after t o m closing once) record_who (grant_to t o m closing).seed

    after_holds : holds_stamp (named (table_after t o m closing once) (sender_of m)) (stamp_of m) ≡ true
    unfolding holds_stamp record_after
    after_holds =
        ap (λ (c : Customer). holds_stamp c (stamp_of m)) after_is
        ∙ stamp_new t.holidays o.today (grant_to t o m closing).customer (stamp_of m) once room_after

    after_kept : (s : ℕ) → holds_stamp (named t (sender_of m)) s ≡ true → stamp_old t.holidays o.today s ≡ false
        → holds_stamp (named (table_after t o m closing once) (sender_of m)) s ≡ true
    unfolding holds_stamp record_after
    after_kept s h q =
        ap (λ (c : Customer). holds_stamp c s) after_is
        ∙ stamp_kept t.holidays o.today (grant_to t o m closing).customer (stamp_of m) once s
        (ap (member s) held_same ∙ h) q room_after

    after_few : (named (table_after t o m closing once) (sender_of m)).count ≤ 64
    unfolding record_after with_stamp
    after_few = omega (arith, ap (λ (c : Customer). c.count) after_is, room_after)

    after_keeps : Kept (named t (sender_of m)) (named (table_after t o m closing once) (sender_of m))
    unfolding record_after grant_to
    after_keeps =
        subst (λ (c : Customer). Kept (named t (sender_of m)) c) (sym after_is)
        (stamp_keeps t.holidays o.today _ _ (stamp_of m) once (grant_kept _ _ _ _ _ _))

  after_others : (j : ℕ) → (place_of t (sender_of m) ≡ Some j → ⊥) → customer_in (table_after t o m closing once) j ≡ customer_in t j
  unfolding table_after
  after_others j n = seed_in _ _ j ∙ named_others t (sender_of m) _ j n

-- the table u after a message was accepted on the table t: its stamp is held, none that is not too old is lost, there are never
-- more than 64, and the sender's record keeps all but its working keys
pub record Marked (t u : Table) (today : Date) (m : List ℕ) : Type 0 where
  pub new : holds_stamp (named u (sender_of m)) (stamp_of m) ≡ true
  pub kept : (s : ℕ) → holds_stamp (named t (sender_of m)) s ≡ true → stamp_old t.holidays today s ≡ false
      → holds_stamp (named u (sender_of m)) s ≡ true
  pub few : (named u (sender_of m)).count ≤ 64
  pub keeps : Kept (named t (sender_of m)) (named u (sender_of m))

after_marked : (t u : Table) (o : Occasion) (m closing : List ℕ) (once : ℕ) → Accepted t o.today m
    → u ≡ table_after t o m closing once → Marked t u o.today m
after_marked t u o m closing once a e =
    subst (λ (x : Table). Marked t x o.today m) (sym e)
    (record {
      new = after_holds t o m closing once a;
      kept = after_kept t o m closing once a;
      few = after_few t o m closing once a;
      keeps = after_keeps t o m closing once a;
    })

by_sound : (f : Result Unit Fault) (before after : Table) → f ≡ Ok tt → table_by f before after ≡ after
unfolding table_by
by_sound f before after e = ap (λ (x : Result Unit Fault). table_by x before after) e

pub esi_is : (t : Table) (o : Occasion) (m : Collected) → first_failing (esi_checks t o.today m) ≡ Ok tt
    → esi_table t o m ≡ table_after t o m.text m.text 0
unfolding esi_table
esi_is t o m e = by_sound _ _ _ e

pub frame_is : (t : Table) (o : Occasion) (f : Frame) → first_failing (frame_checks t o.today o.kind f) ≡ Ok tt
    → frame_table t o f ≡ table_after t o f.suo.text f.var.text (key_or0 f.once)
unfolding frame_table
frame_is t o f e = by_sound _ _ _ e

-- after an accepted ESI the sender's record is marked by its stamp
pub esi_marked : (t : Table) (o : Occasion) (m : Collected) → first_failing (esi_checks t o.today m) ≡ Ok tt
    → Marked t (esi_table t o m) o.today m.text
esi_marked t o m e =
    after_marked t (esi_table t o m) o m.text m.text 0 (esi_accepted t o.today m e) (esi_is t o m e)

-- and after an accepted frame
pub frame_marked : (t : Table) (o : Occasion) (f : Frame) → first_failing (frame_checks t o.today o.kind f) ≡ Ok tt
    → Marked t (frame_table t o f) o.today f.suo.text
frame_marked t o f e =
    after_marked t (frame_table t o f) o f.suo.text f.var.text (key_or0 f.once)
    (frame_accepted t o.today o.kind f e) (frame_is t o f e)

-- after acceptance the record holds the new stamp
pub esi_stamp : (t : Table) (o : Occasion) (m : Collected) → first_failing (esi_checks t o.today m) ≡ Ok tt
    → holds_stamp (named (esi_table t o m) (sender_of m.text)) (stamp_of m.text) ≡ true
esi_stamp t o m e = (esi_marked t o m e).new

pub frame_stamp : (t : Table) (o : Occasion) (f : Frame) → first_failing (frame_checks t o.today o.kind f) ≡ Ok tt
    → holds_stamp (named (frame_table t o f) (sender_of f.suo.text)) (stamp_of f.suo.text) ≡ true
frame_stamp t o f e = (frame_marked t o f e).new

-- ---- every other customer is as before, whatever the verdict

by_others : (f : Result Unit Fault) (t u : Table) (j : ℕ) → customer_in u j ≡ customer_in t j → customer_in (table_by f t u) j ≡ customer_in t j
unfolding table_by
by_others (Ok _) t u j e = e
by_others (Err fault) t u j e = refl

pub esi_others : (t : Table) (o : Occasion) (m : Collected) (j : ℕ) → (place_of t (sender_of m.text) ≡ Some j → ⊥)
    → customer_in (esi_table t o m) j ≡ customer_in t j
unfolding esi_table
esi_others t o m j n = by_others _ t _ j (after_others t o m.text m.text 0 j n)

pub frame_others : (t : Table) (o : Occasion) (f : Frame) (j : ℕ) → (place_of t (sender_of f.suo.text) ≡ Some j → ⊥)
    → customer_in (frame_table t o f) j ≡ customer_in t j
unfolding frame_table
frame_others t o f j n = by_others _ t _ j (after_others t o f.suo.text f.var.text (key_or0 f.once) j n)

-- ---- what an accepted message leaves as it was

replaced_day : (t : Table) (f : Option ℕ) (c : Customer)
    → ((replaced_at t f c).day ≡ t.day) × ((replaced_at t f c).settings ≡ t.settings) × ((replaced_at t f c).holidays ≡ t.holidays)
    × (length (replaced_at t f c).customers ≡ length t.customers)
unfolding replaced_at with_customer
replaced_day t (Some i) c = (refl, refl, refl, length-set t.customers i c)
replaced_day t None c = (refl, refl, refl, refl)

pub named_stays : (t : Table) (who : List ℕ) (c : Customer)
    → ((with_named t who c).day ≡ t.day) × ((with_named t who c).settings ≡ t.settings) × ((with_named t who c).holidays ≡ t.holidays)
    × (length (with_named t who c).customers ≡ length t.customers)
unfolding with_named
named_stays t who c = replaced_day t (place_of t who) c

pub after_day : (t : Table) (o : Occasion) (m closing : List ℕ) (once : ℕ) → (table_after t o m closing once).day ≡ t.day
unfolding table_after with_seed
after_day t o m closing once = (named_stays t (sender_of m) (record_after t o m closing once)).0
