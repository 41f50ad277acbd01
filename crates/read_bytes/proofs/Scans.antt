-- What is left, from where the scan stands, gives the whole: a run goes through it at once, a byte by its step, and a reply ends it.
-- Assumes nothing.
use Prim.Native.Nat.{ℕ, ◌+◌, ◌-◌, ◌<◌, ◌≤◌}
use mathlib.Core.Path.{◌≡◌, sym, ap, ap₂, ◌∙◌}
use mathlib.Core.Bool.{true, false}
use mathlib.Core.List.{List, ◌∷◌, ◌++◌}
use native.Mathlib.Omega.{arith}
use native.Mathlib.Numerals.{add-one}
use lib.ListN.{length, get_or, drop, length-drop, take-append-drop, drop_of_length-le}
use lib.Seq.{drop-cons, drop-drop, length-take-le}
use Rattle.ground.proofs.Choices.{picks, skips}
use Rattle.checks.specs.Checks.{key_or0}
use Rattle.session.specs.Events.{silent, cipher_of, heard_by, heard}
use Rattle.session.specs.Machine.{Scan, scan_on, scanned, stepped, with_line}
use Rattle.session.specs.declared.Session.{Session}
use Rattle.session.specs.declared.Stepped.{Stepped}
use Rattle.law_cutting.proofs.Cuts.{further, further_none}
use Rattle.law_cutting.proofs.Plain.{after_plain, plain_run, batch_once}
use Rattle.read_bytes.specs.Runs.{Runs}
use Rattle.read_bytes.proofs.Plainly.{between}
use Rattle.read_bytes.proofs.Steps.{Makes}

pub further_twice : (m n : ℕ) (r : Scan) → further m (further n r) ≡ further (n + m) r
further_twice m n r =
    let k : r.taken + n + m ≡ r.taken + (n + m) = omega arith in ap (λ (t : ℕ). record { turn = r.turn; taken = t }) k

-- a run leaves the one-time key
pub run_key : (s u : Session) (l : List ℕ) → u ≡ after_plain s l → key_or0 s.batch.once ≡ key_or0 u.batch.once
unfolding with_line heard heard_by
run_key s u l e =
    ap key_or0 (sym (batch_once (cipher_of s) s.place s.batch l)) ∙ ap (λ (v : Session). key_or0 v.batch.once) (sym e)

-- what is left from the place i, with the session s and the table w there
abbrev pub left_at : List ℕ → ℕ → Session → List ℕ → Scan
left_at input i s w = further i (scanned s w (drop i input))

module _ (input : List ℕ) (i : ℕ) (s : Session) (w : List ℕ) where
  -- ---- a run

  module _ (to : ℕ) (run : Runs input i s.line to) (h : i < to) where
    split : drop i input ≡ between input i to ++ drop to input
    split =
        let k : i + (to - i) ≡ to = omega (arith, run.starts) in
        sym (take-append-drop (to - i) (drop i input))
        ∙ ap (λ (l : List ℕ). between input i to ++ l) (drop-drop (to - i) i input ∙ ap (λ (n : ℕ). drop n input) k)

    pub run_length : length (between input i to) ≡ to - i
    run_length = length-take-le (to - i) (drop i input) (omega (arith, length-drop i input, run.within))

    pub runs_through : {u : Session} → u ≡ after_plain s (between input i to) → left_at input to u w ≡ left_at input i s w
    runs_through e =
        let f : s.line.size + length (between input i to) ≤ 4294967295 = rw run_length run.fits in
        let k : length (between input i to) + i ≡ to = omega (arith, run_length, run.starts) in
        sym
        (ap (λ (l : List ℕ). further i (scanned s w l)) split
        ∙ ap (further i) (plain_run (between input i to) (drop to input) s w run.characters (run.none_waits h) f)
        ∙ further_twice i (length (between input i to)) (scanned (after_plain s (between input i to)) w (drop to input))
        ∙ ap₂ (λ (n : ℕ) (u : Session). further n (scanned u w (drop to input))) k (sym e))

  -- ---- a byte

  module _ (h : i < length input) {x : Stepped} {v : List ℕ} (m : Makes (stepped s w (get_or input i 0)) x v) where
    one_by_one : scanned s w (drop i input) ≡ scan_on (record { out = x; table = v }) (scanned x.session v (drop (i + 1) input))
    unfolding scanned
    one_by_one =
        ap (scanned s w) (drop-cons input i 0 h ∙ ap (λ (n : ℕ). get_or input i 0 ∷ drop n input) (sym (add-one i)))
        ∙ ap₂ (λ (o : Stepped) (t : List ℕ). scan_on (record { out = o; table = t }) (scanned o.session t (drop (i + 1) input)))
        (sym m.0) (sym m.1)

    pub goes_on : x.reply.given ≡ false → left_at input (i + 1) x.session v ≡ left_at input i s w
    unfolding scan_on
    goes_on q =
        let k : 1 + i ≡ i + 1 = omega arith in
        let r = scanned x.session v (drop (i + 1) input) in
        sym (ap (further i) (one_by_one ∙ skips {A = Scan} _ _ _ q) ∙ further_twice i 1 r ∙ ap (λ (n : ℕ). further n r) k)

    pub replied : x.reply.given ≡ true → record { turn = record { out = x; table = v }; taken = i + 1 } ≡ left_at input i s w
    unfolding scan_on
    replied q =
        let k : i + 1 ≡ 1 + i = omega arith in
        ap (λ (n : ℕ). record { turn = record { out = x; table = v }; taken = n }) k
        ∙ sym (ap (further i) (one_by_one ∙ picks {A = Scan} _ _ _ q))

  -- ---- the end

  pub all_taken : length input ≤ i → record { turn = silent s w; taken = i } ≡ left_at input i s w
  unfolding scanned
  all_taken h =
      let k : i ≡ 0 + i = omega arith in
      ap (λ (n : ℕ). record { turn = silent s w; taken = n }) k
      ∙ sym (ap (λ (l : List ℕ). further i (scanned s w l)) (drop_of_length-le input {i = i} h))

-- from the start all is left
pub from_start : (input : List ℕ) (s : Session) (w : List ℕ) → left_at input 0 s w ≡ scanned s w input
from_start input s w = sym (further_none (scanned s w input))
