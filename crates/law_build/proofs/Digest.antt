-- The digest that grows record by record is that of the records together: a record is fed at the place where the one before it ended.
-- Assumes nothing.
use Rattle.std.specs.Prelude.{Some}
use mathlib.Core.Path.{◌≡◌, refl, sym, ap, ◌∙◌}
use mathlib.Core.Bool.{Bool, true, false}
use mathlib.Core.List.{List, [], ◌∷◌}
use Prim.Native.Nat.{ℕ, ◌≤◌}
use native.Mathlib.Omega.{arith}
use Rattle.des.specs.Des.{enciphered}
use Rattle.digest.specs.Mac.{mac}
use Rattle.digest.specs.Kept.{is_empty, kept_of, kept, answer_of, digest_of}
use Rattle.digest.specs.Running.{begun, fed_bytes, answered, alike}
use Rattle.digest.specs.declared.Method.{Method}
use Rattle.digest.specs.declared.State.{State}
use Rattle.digest.specs.declared.Running.{Running}
use Rattle.digest.proofs.Folds.{fed_append}
use Rattle.digest.proofs.Batches.{ended_stands, records_stand, batch_is}
use Rattle.message.specs.Fields.{method_of}
use Rattle.whole_file.specs.Records.{size_limit}
use Rattle.law_refinement.specs.Stands.{size_of}
use Rattle.law_refinement.proofs.Frames.{kept-length}
use Rattle.build.specs.Building.{record_added, digest_number}
use Rattle.build.specs.declared.Batch.{Batch}
use Rattle.law_build.proofs.ByValue.{all_added}

-- ---- a batch with its records

-- a batch with that state
abbrev pub with_state : Batch → State → Batch
with_state b s = record { suo = b.suo; once = b.once; working = b.working; state = s }

abbrev pub fed_all : Batch → (records : List (List ℕ)) → State
fed_all b records = fed_bytes (enciphered b.once) b.state (kept (method_of b.suo) records)

added_is : (b : Batch) (r : List ℕ) → record_added b r ≡ with_state b (fed_bytes (enciphered b.once) b.state (kept_of (method_of b.suo) r))
unfolding record_added alike
added_is b r =
    ap (λ (x : Running). with_state b x.last) (ended_stands (enciphered b.once) b.state r (method_of b.suo))

pub all_added_lem : (b : Batch) (records : List (List ℕ)) → all_added b records ≡ with_state b (fed_all b records)
unfolding all_added kept fed_bytes
all_added_lem b [] = refl
all_added_lem b (r ∷ rs) =
    let e = enciphered b.once in
    let m = method_of b.suo in
    ap (λ (c : Batch). all_added c rs) (added_is b r)
    ∙ all_added_lem (with_state b (fed_bytes e b.state (kept_of m r))) rs
    ∙ ap (with_state b) (sym (fed_append e b.state (kept_of m r) (kept m rs)))

-- ---- the digest

some_digest : (e : ℕ → ℕ) (l : List ℕ) → is_empty l ≡ false → answer_of e l ≡ Some (mac e l)
unfolding is_empty answer_of
some_digest e [] n = let z : ◌≡◌ {A = Bool} true false = n in cc
some_digest e (x ∷ l) n = refl

module _ (e : ℕ → ℕ) (m : Method) (records : List (List ℕ)) (some : is_empty (kept m records) ≡ false)
    (few : size_of records ≤ size_limit) where
  pub digest_is : digest_of e m records ≡ Some (mac e (kept m records))
  unfolding digest_of
  digest_is = some_digest e (kept m records) some

  pub fed_digest : digest_number (answered e (fed_bytes e begun (kept m records))) ≡ mac e (kept m records)
  unfolding digest_number alike
  fed_digest =
      ap digest_number
      (ap (λ (r : Running). answered e r.start) (sym (records_stand e m begun records))
      ∙ batch_is e m records (omega (arith, kept-length m records))
      ∙ digest_is)
