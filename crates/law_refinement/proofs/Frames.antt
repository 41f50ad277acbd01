-- The batch on its way is that of the frame's data records:
-- its digest goes over the characters as they come, and at a VAR over the records before it.
-- Assumes nothing.
use Rattle.std.specs.Prelude.{None, Option, Some}
use Prim.Native.Nat.{ℕ, ◌+◌, ◌≤◌, ◌<◌, ◌^◌}
use mathlib.Core.Path.{◌≡◌, refl, sym, ap, ◌∙◌}
use mathlib.Core.Bool.{Bool, true, false}
use mathlib.Core.List.{List, [], ◌∷◌, ◌++◌}
use native.Mathlib.Omega.{arith}
use lib.ListN.{length, length-append, length-map}
use Rattle.ground.specs.Choice.{pick}
use Rattle.ground.proofs.Bools.{picked}
use Rattle.text.specs.Characters.{internal}
use Rattle.des.specs.Des.{enciphered}
use Rattle.des.proofs.Inverse.{deciphered-lt}
use Rattle.digest.specs.Kept.{stripped, kept_of, kept}
use Rattle.digest.specs.Running.{begun, alike, took_byte, took_bytes, ended, answered, took_records}
use Rattle.digest.specs.declared.Method.{Method}
use Rattle.digest.specs.declared.Method.TheVariants.{Skh, Ske}
use Rattle.digest.specs.declared.State.{State}
use Rattle.digest.specs.declared.Running.{Running}
use Rattle.digest.proofs.Folds.{took_append}
use Rattle.digest.proofs.Batches.{batch_is}
use Rattle.table.specs.Table.{Table, place_of}
use Rattle.message.specs.Fields.{sender_of, method_of}
use Rattle.checks.specs.Checks.{key_or0}
use Rattle.message.specs.declared.Collected.{Collected}
use Rattle.whole_file.specs.Messages.{one_time, transport_held, one_time_of, once_of}
use Rattle.whole_file.specs.WholeFile.{Opened, with_record, frame_of}
use Rattle.session.specs.Events.{batch_with, is_data, cipher_of, frame_by}
use Rattle.session.specs.declared.Place.TheVariants.{InData}
use Rattle.session.specs.declared.Batch.{Batch}
use Rattle.session.specs.declared.Session.{Session}
use Rattle.law_refinement.specs.Stands.{records_of, batch_of, Kept, size_of}

-- ---- the running digest

records_more : (e : ℕ → ℕ) (m : Method) (r : Running) (ps : List (List ℕ)) (p : List ℕ)
    → took_records e m r (ps ++ (p ∷ [])) ≡ ended m (took_bytes e (took_records e m r ps) p)
unfolding took_records
records_more e m r [] p = refl
records_more e m r (q ∷ ps) p = records_more e m (ended m (took_bytes e r q)) ps p

-- a record on its way leaves the state at its start
start_stays : (e : ℕ → ℕ) (r : Running) (l : List ℕ) → (took_bytes e r l).start ≡ r.start
unfolding took_bytes took_byte
start_stays e r [] = refl
start_stays e r (b ∷ l) = start_stays e (took_byte e r b) l

-- ---- the batch

batch_eq : (f : Opened) (r q : Running) → r ≡ q
    → ◌≡◌ {A = Batch} (record { suo = f.suo; once = f.once; running = r }) (record { suo = f.suo; once = f.once; running = q })
batch_eq f r q e = ap (λ (x : Running). record { suo = f.suo; once = f.once; running = x }) e

pub batch_heard : (f : Opened) (chars l : List ℕ) (b : Batch) → b ≡ batch_of f chars
    → batch_with (enciphered (key_or0 b.once)) InData b l ≡ batch_of f (chars ++ l)
unfolding batch_with batch_of is_data pick
batch_heard f chars l b e =
    ap (λ (x : Batch). batch_with (enciphered (key_or0 x.once)) InData x l) e
    ∙ batch_eq f _ _ (sym (took_append (enciphered (key_or0 f.once)) (records_of f) chars l))

-- a data record's end
pub batch_taken : (f : Opened) (chars : List ℕ) (b : Batch) → b ≡ batch_of f chars
    → ◌≡◌ {A = Batch} (record { suo = b.suo; once = b.once; running = ended (method_of b.suo.text) b.running })
    (batch_of (with_record f chars) [])
unfolding batch_of records_of with_record took_bytes
batch_taken f chars b e =
    ap (λ (x : Batch). record { suo = x.suo; once = x.once; running = ended (method_of x.suo.text) x.running }) e
    ∙ batch_eq f _ _ (sym (records_more (enciphered (key_or0 f.once)) (method_of f.suo.text) (alike begun) f.records chars))

-- a SUO's end: no record yet
pub batch_begun : (suo : Collected) (a b : Option ℕ) → a ≡ b
    → ◌≡◌ {A = Batch} (record { suo = suo; once = a; running = alike begun }) (batch_of (record { suo = suo; once = b; records = [] }) [])
unfolding batch_of records_of took_bytes took_records
batch_begun suo a b e = ap (λ (k : Option ℕ). record { suo = suo; once = k; running = alike begun }) e

pub batch_keeps : (f : Opened) (chars : List ℕ) (b : Batch) → b ≡ batch_of f chars → Kept f b
unfolding batch_of
batch_keeps f chars b e =
    record {
      suo = ap (λ (x : Batch). x.suo) e;
      once = ap (λ (x : Batch). x.once) e;
      start = ap (λ (x : Batch). x.running.start) e ∙ start_stays (enciphered (key_or0 f.once)) (records_of f) chars;
    }

-- ---- what is kept is no longer than the records

shorter : (t : Bool) (x : ℕ) (k l : List ℕ) → length k ≤ length l → length (pick t [] (x ∷ k)) ≤ length (x ∷ l)
unfolding pick
shorter true x k l h = omega arith
shorter false x k l h = omega arith

stripped-length : (l : List ℕ) → length (stripped l) ≤ length l
unfolding stripped
stripped-length [] = omega arith
stripped-length (x ∷ l) = shorter _ x (stripped l) l (stripped-length l)

kept_one : (m : Method) (r : List ℕ) → length (kept_of m r) ≤ length r
unfolding kept_of
kept_one Skh r = omega (arith, length-map (stripped r) internal, stripped-length r)
kept_one Ske r = omega (arith, length-map r internal)

pub kept-length : (m : Method) (rs : List (List ℕ)) → length (kept m rs) ≤ size_of rs
unfolding kept size_of
kept-length m [] = omega arith
kept-length m (r ∷ rs) = omega (arith, length-append (kept_of m r) (kept m rs), kept_one m r, kept-length m rs)

pub size_more : (rs : List (List ℕ)) (r : List ℕ) → size_of (rs ++ (r ∷ [])) ≡ size_of rs + length r
unfolding size_of
size_more [] r = omega arith
size_more (q ∷ rs) r = omega (arith, size_more rs r)

-- ---- the frame as it is judged

frame_eq : (f : Opened) (m : Collected) (suo : Collected) (once : Option ℕ) (start : State) → suo ≡ f.suo → once ≡ f.once → start
    ≡ (records_of f).start
    → size_of f.records < 2 ^ 64
    → record { suo = suo; var = m; once = once; digest = answered (enciphered (key_or0 once)) start } ≡ frame_of f m
unfolding frame_of records_of
frame_eq f m suo once start p q r h =
    rw (
      p,
      q,
      r,
      batch_is (enciphered (key_or0 f.once)) (method_of f.suo.text) f.records
          (omega (arith, kept-length (method_of f.suo.text) f.records)),
    )

pub frame_is : (f : Opened) (m c : Collected) (s : Session) → Kept f s.batch → c ≡ m → size_of f.records < 2 ^ 64 → frame_by s c
    ≡ frame_of f m
unfolding frame_by cipher_of
frame_is f m c s k e h = ap (frame_by s) e ∙ frame_eq f m _ _ _ k.suo k.once k.start h

-- ---- the one-time key

once_lt : (k : Option ℕ) (suo : List ℕ) → key_or0 (one_time k suo) < 2 ^ 64
unfolding one_time key_or0
once_lt None suo = omega arith
once_lt (Some transport) suo = deciphered-lt transport _

pub once_of-lt : (t : Table) (m : Collected) → key_or0 (once_of t m) < 2 ^ 64
unfolding once_of one_time_of key_or0
once_of-lt t m =
    picked (λ (k : Option ℕ). key_or0 k < 2 ^ 64) _ _ _
    (λ e. once_lt (transport_held t (place_of t (sender_of m.text)) m.text) m.text)
    (λ e. omega arith)
