-- What a verdict leaves in the bytes that a table is written as: the table afterwards, which is sound.
-- Assumes nothing.
use Rattle.std.specs.Prelude.{Option, Err, Ok, Result}
use mathlib.Core.Path.{◌≡◌, refl, sym, ap, ◌∙◌}
use mathlib.Core.Bool.{Bool, true, false}
use mathlib.Core.List.{List, [], ◌∷◌, ◌++◌}
use Prim.Native.Nat.{ℕ, zero, suc, ◌^◌, ◌<◌}
use native.Mathlib.Nat.{not-suc-le-zero, le_of_suc-le-suc}
use native.Mathlib.Omega.{arith}
use borrow.Author.Tests.{ltb-true, eqb-true}
use lib.ListN.{length, drop, get_or}
use lib.Seq.{drop_at}
use Rattle.ground.specs.Choice.{either, fails}
use Rattle.ground.proofs.Choices.{left, right, either_right}
use Rattle.calendar.specs.Dates.{real_date}
use Rattle.calendar.specs.declared.Date.{Date}
use Rattle.keys.specs.Parity.{odd_parity}
use Rattle.customer.specs.Customer.{sound_once, sound_customer}
use Rattle.customer.specs.declared.Customer.{Customer}
use Rattle.acceptance.proofs.Grants.{grant_sound}
use Rattle.acceptance.proofs.Purge.{with_stamp_sound}
use Rattle.table.specs.Table.{Table, customer_fits, settings_fit, each_sound, sound_table, place_of, nobody, customer_in, with_customer, with_seed}
use Rattle.table.specs.Named.{named}
use Rattle.table.specs.Written.{encode, written}
use Rattle.table.specs.Decode.{table_of, is_table}
use Rattle.table.specs.Stored.{seed_stored}
use Rattle.table.proofs.Places.{found_is, named_at, with_named_at}
use Rattle.table.proofs.Sound.{parts, sound_with, sound_seed}
use Rattle.table.proofs.Encode.{encode-length, sound_fit}
use Rattle.table.proofs.Decode.{is_written, rewritten_is}
use Rattle.table.proofs.Stores.{store_is, seed_is}
use Rattle.message.specs.Fields.{sender_of}
use Rattle.message.specs.declared.Fault.{Fault}
use Rattle.message.specs.Order.{first_failing}
use Rattle.message.proofs.Order.{NoneFails}
use Rattle.checks.specs.Checks.{key_or0, key_checks, frame_checks}
use Rattle.verdict.specs.Outcomes.{grant_to, record_after, table_after, table_by, stored_at, bytes_after, bytes_by, esi_table, frame_table}
use Rattle.verdict.specs.Outcomes.{esi_leaves, frame_leaves}
use Rattle.message.specs.declared.Collected.{Collected}
use Rattle.checks.specs.declared.Frame.{Frame}
use Rattle.checks.specs.declared.Occasion.{Occasion}
use Rattle.verdict.proofs.Keeps.{grant_fits, grant_seed_lt, stamp_fits}
use Rattle.verdict.proofs.Laws.{Accepted, esi_accepted, frame_accepted, frame_passed, who_is, record_who, room_after}

-- ---- a table written over bytes

written_same : (b : List ℕ) → is_table b ≡ true → written b (table_of b) ≡ b
unfolding written
written_same b e =
    let w = is_written b e in
    let n = length (encode (table_of b)) in
    ap (λ (l : List ℕ). encode (table_of b) ++ l) (ap (drop n) w.bytes ∙ drop_at (encode (table_of b)) w.rest n refl) ∙ sym w.bytes

written_again : (b : List ℕ) (u w : Table) → length (encode w) ≡ length (encode u) → written (written b u) w ≡ written b w
unfolding written
written_again b u w e =
    ap (λ (l : List ℕ). encode w ++ l)
    (drop_at (encode u) (drop (length (encode u)) b) (length (encode w)) (sym e) ∙ ap (λ (n : ℕ). drop n b) (sym e))

seed_length : (u : Table) (v : ℕ) → sound_table u ≡ true → sound_table (with_seed u v) ≡ true → length (encode (with_seed u v))
    ≡ length (encode u)
unfolding with_seed
seed_length u v e f = encode-length (with_seed u v) (sound_fit (with_seed u v) f) ∙ sym (encode-length u (sound_fit u e))

-- ---- the sender's record in a sound table

each_at : (l : List Customer) (i : ℕ) (d : Customer) → each_sound l ≡ true → i < length l
    → (customer_fits (get_or l i d) ≡ true) × (sound_customer (get_or l i d) ≡ true)
unfolding each_sound
each_at [] i d e h = absurd (not-suc-le-zero h)
each_at (c ∷ l) zero d e h = (left _ _ (left _ _ e), right _ _ (left _ _ e))
each_at (c ∷ l) (suc i) d e h = each_at l i d (right _ _ e) (le_of_suc-le-suc h)

sound_in : (t : Table) (i : ℕ) → sound_table t ≡ true → i < length t.customers
    → (customer_fits (customer_in t i) ≡ true) × (sound_customer (customer_in t i) ≡ true)
unfolding customer_in
sound_in t i e h = each_at t.customers i nobody (parts t e).each h

fits_stamps : (c : Customer) → customer_fits c ≡ true → (length c.stamps ≡ 64) × (length c.once ≡ 64)
unfolding customer_fits
fits_stamps c e = (eqb-true _ _ (left _ _ (right _ _ e)), eqb-true _ _ (left _ _ (right _ _ (right _ _ e))))

seed_fits : (t : Table) → sound_table t ≡ true → t.settings.maker.seed < 2 ^ 64
unfolding settings_fit
seed_fits t e = ltb-true _ _ (right _ _ (right _ _ (right _ _ (parts t e).fit)))

-- ---- an accepted message

module _ (b : List ℕ) (e : is_table b ≡ true) (o : Occasion) (m closing : List ℕ) (once : ℕ) (l : length m ≡ 161)
    (d : real_date o.today.yymmdd ≡ true) (w : once < 2 ^ 64) (k : sound_once once ≡ true)
    (a : Accepted (table_of b) o.today m) where
  sound_before : sound_table (table_of b) ≡ true
  sound_before = (is_written b e).sound

  within : a.place < length (table_of b).customers
  within = (found_is (table_of b) (sender_of m) a.place a.known).0

  sender_sound : (customer_fits (named (table_of b) (sender_of m)) ≡ true) × (sound_customer (named (table_of b) (sender_of m)) ≡ true)
  sender_sound =
      let n = named_at (table_of b) (sender_of m) a.place a.known in
      let s = sound_in (table_of b) a.place sound_before within in
      (ap customer_fits n ∙ s.0, ap sound_customer n ∙ s.1)

  granted_fits : customer_fits (grant_to (table_of b) o m closing).customer ≡ true
  unfolding grant_to
  granted_fits = grant_fits _ _ _ _ _ _ sender_sound.0

  granted_sound : sound_customer (grant_to (table_of b) o m closing).customer ≡ true
  unfolding grant_to
  granted_sound = grant_sound _ _ _ _ _ _ sender_sound.1 d

  granted_seed : (grant_to (table_of b) o m closing).seed < 2 ^ 64
  unfolding grant_to
  granted_seed = grant_seed_lt _ _ _ _ _ _ (seed_fits (table_of b) sound_before)

  record_fits : customer_fits (record_after (table_of b) o m closing once) ≡ true
  unfolding record_after
  record_fits = stamp_fits _ _ _ _ once granted_fits w

  record_sound : sound_customer (record_after (table_of b) o m closing once) ≡ true
  unfolding record_after
  record_sound =
      let f = fits_stamps (grant_to (table_of b) o m closing).customer granted_fits in
      with_stamp_sound _ _ _ _ once granted_sound f.0 f.1 (room_after (table_of b) o m closing once a) (a.real l) k

  -- the table with the record, and then with the seed
  abbrev stored : Table
  stored = with_customer (table_of b) a.place (record_after (table_of b) o m closing once)

  stored_sound : sound_table stored ≡ true
  stored_sound =
      sound_with (table_of b) a.place (record_after (table_of b) o m closing once) sound_before record_fits record_sound
      (who_is (table_of b) (sender_of m) a.place a.known (record_after (table_of b) o m closing once)
      (record_who (table_of b) o m closing once) 0)

  after_is : table_after (table_of b) o m closing once ≡ with_seed stored (grant_to (table_of b) o m closing).seed
  unfolding table_after
  after_is =
      ap (λ (u : Table). with_seed u (grant_to (table_of b) o m closing).seed)
      (with_named_at (table_of b) (sender_of m) a.place (record_after (table_of b) o m closing once) a.known)

  seeded_sound : sound_table (with_seed stored (grant_to (table_of b) o m closing).seed) ≡ true
  seeded_sound = sound_seed stored _ stored_sound granted_seed

  record_stored : stored_at b (place_of (table_of b) (sender_of m)) (record_after (table_of b) o m closing once) ≡ written b stored
  unfolding stored_at
  record_stored =
      ap (λ (f : Option ℕ). stored_at b f (record_after (table_of b) o m closing once)) a.known
      ∙ store_is b e a.place (record_after (table_of b) o m closing once) within record_fits

  after_bytes : bytes_after b o m closing once ≡ written b (table_after (table_of b) o m closing once)
  unfolding bytes_after
  after_bytes =
      let v = (grant_to (table_of b) o m closing).seed in
      let r = rewritten_is b stored e stored_sound in
      ap (λ (x : List ℕ). seed_stored x v) record_stored
      ∙ seed_is (written b stored) r.0 v
      ∙ ap (λ (x : Table). written (written b stored) (with_seed x v)) r.1
      ∙ written_again b stored (with_seed stored v) (seed_length stored v stored_sound seeded_sound)
      ∙ ap (written b) (sym after_is)

  after_sound : sound_table (table_after (table_of b) o m closing once) ≡ true
  after_sound = ap sound_table after_is ∙ seeded_sound

-- ---- whatever the verdict

by_fault : (f : Result Unit Fault) (b : List ℕ) (x : List ℕ) (u : Table) → is_table b ≡ true
    → (f ≡ Ok tt → (x ≡ written b u) × (sound_table u ≡ true))
    → (bytes_by f b x ≡ written b (table_by f (table_of b) u)) × (sound_table (table_by f (table_of b) u) ≡ true)
unfolding bytes_by table_by
by_fault (Ok _) b x u e h = h refl
by_fault (Err fault) b x u e h = (sym (written_same b e), (is_written b e).sound)

none_once : sound_once 0 ≡ true
unfolding sound_once either
none_once = refl

once_odd : (f : Bool) (k : ℕ) → odd_parity k ≡ f → fails f ≡ false → sound_once k ≡ true
unfolding sound_once fails
once_odd true k p q = either_right _ _ p
once_odd false k p q = absurd (let z : ◌≡◌ {A = ℕ} 0 1 = cc in omega arith)

keys_odd : (t : Table) (c : Customer) (today : Date) (f : Frame) → NoneFails (key_checks t c today f) → sound_once (key_or0 f.once) ≡ true
unfolding key_checks
keys_odd t c today f n = once_odd _ (key_or0 f.once) refl n.1.1.1.0

frame_odd : (t : Table) (today : Date) (kind : ℕ) (f : Frame) → first_failing (frame_checks t today kind f) ≡ Ok tt
    → sound_once (key_or0 f.once)
    ≡ true
frame_odd t today kind f e = keys_odd t (named t (sender_of f.suo.text)) today f (frame_passed t today kind f e).1

-- after a verdict on an ESI the bytes are what the table afterwards is written as, and it is sound
pub esi_leaves_table : (b : List ℕ) (o : Occasion) (m : Collected) → is_table b ≡ true → real_date o.today.yymmdd ≡ true
    → length m.text ≡ 161
    → (esi_leaves b o m ≡ written b (esi_table (table_of b) o m)) × (sound_table (esi_table (table_of b) o m) ≡ true)
unfolding esi_leaves esi_table
esi_leaves_table b o m e d l =
    by_fault _ b _ _ e
    (λ s.
    let a = esi_accepted (table_of b) o.today m s in (
      after_bytes b e o m.text m.text 0 l d (omega arith) none_once a,
      after_sound b e o m.text m.text 0 l d (omega arith) none_once a,
    ))

-- and likewise after a verdict on a frame
pub frame_leaves_table : (b : List ℕ) (o : Occasion) (f : Frame) → is_table b ≡ true → real_date o.today.yymmdd ≡ true
    → length f.suo.text ≡ 161 → key_or0 f.once < 2 ^ 64
    → (frame_leaves b o f ≡ written b (frame_table (table_of b) o f)) × (sound_table (frame_table (table_of b) o f) ≡ true)
unfolding frame_leaves frame_table
frame_leaves_table b o f e d l w =
    by_fault _ b _ _ e
    (λ s.
    let a = frame_accepted (table_of b) o.today o.kind f s in
    let k = frame_odd (table_of b) o.today o.kind f s in (
      after_bytes b e o f.suo.text f.var.text (key_or0 f.once) l d w k a,
      after_sound b e o f.suo.text f.var.text (key_or0 f.once) l d w k a,
    ))
