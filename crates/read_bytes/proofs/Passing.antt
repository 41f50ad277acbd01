-- A whole data record leaves what its characters and its LF leave one by one: no message begins with it, so its end takes it into the digest.
-- Assumes nothing.
use Prim.Native.Nat.{ℕ, zero, suc, ◌+◌, ◌-◌, ◌<◌, ◌≤◌}
use mathlib.Core.Path.{◌≡◌, refl, sym, ap, ap₂, ◌∙◌, subst}
use mathlib.Core.Bool.{Bool, true, false, false≢true}
use mathlib.Core.List.{List, [], ◌∷◌, ◌++◌}
use mathlib.Core.Logic.{◌⊎◌, inl, inr, ⊎_elim}
use native.Mathlib.Numerals.{add-one}
use native.Mathlib.Omega.{arith}
use borrow.Author.Tests.{eq-eqb, ne_eqb, lt-leb, lt-ltb}
use lib.Dec.{eqb, ltb}
use lib.ListN.{length, get_or, set, take, drop, length-drop, take-append-drop}
use lib.Seq.{drop-cons, drop-drop, length-take-le, get_or-drop, get_or-take}
use Rattle.ground.specs.Choice.{fails, pick}
use Rattle.ground.specs.Lists.{all, same}
use Rattle.ground.proofs.Choices.{picks, skips, fails_left, fails-true}
use Rattle.ground.proofs.Bools.{clash, picked, fails_of}
use Rattle.text.specs.Letters.{letters}
use Rattle.digest.specs.Running.{took_bytes, ended}
use Rattle.digest.specs.declared.Method.{Method}
use Rattle.digest.specs.declared.Running.{Running}
use Rattle.message.specs.Fields.{method_of}
use Rattle.checks.specs.Checks.{key_or0}
use Rattle.whole_file.specs.Messages.{begins}
use Rattle.whole_file.specs.Records.{lf, cr, size_limit}
use Rattle.session.specs.Lines.{Event, record_ends, waited, event_of, line_after}
use Rattle.session.specs.Events.{onward, Turn, silent, nothing, held, placed, with_batch, gathered_with, gathered_all, is_data, batch_with, cipher_of}
use Rattle.session.specs.Events.{heard_by, heard, data_taken, frame_ends, ends_in, record_ended}
use Rattle.session.specs.Machine.{scanned, stepped, on_event, with_line}
use Rattle.session.specs.declared.Line.{Line}
use Rattle.session.specs.declared.Place.{Place}
use Rattle.session.specs.declared.Place.TheVariants.{BeforeEsi, Outside, Collecting, InData, Closed}
use Rattle.session.specs.declared.Gathered.{Gathered}
use Rattle.session.specs.declared.Session.{Session}
use Rattle.law_cutting.specs.Plain.{plain}
use Rattle.law_cutting.proofs.Cuts.{further}
use Rattle.law_cutting.proofs.Plain.{after_plain, plain_run, scan_silent, heard_none}
use Rattle.read_bytes.specs.Runs.{Runs}
use Rattle.read_bytes.specs.Passes.{LineEnd, Whole, Passes, none, more, passed_to, left_at, Skims}
use Rattle.read_bytes.proofs.Plainly.{between}
use Rattle.read_bytes.proofs.Scans.{further_twice, run_key, runs_through}

-- ---- no message begins with it

-- the first is not `>`, if there is one
unfoldable apart : List ℕ → Bool
apart [] = true
apart (x ∷ l) = fails (eqb x 0x3E)

apart-take : (n : ℕ) (l : List ℕ) → apart l ≡ true → apart (take n l) ≡ true
unfolding apart
apart-take zero l h = refl
apart-take (suc n) [] h = refl
apart-take (suc n) (x ∷ l) h = h

apart_first : (l : List ℕ) (c : ℕ) → (c ≡ 0x3E → ⊥) → apart (set l 0 c) ≡ true
unfolding apart
apart_first [] c h = refl
apart_first (x ∷ l) c h = fails_of _ (ne_eqb c 0x3E h)

apart_later : (l : List ℕ) (n c : ℕ) → 0 < n → apart l ≡ true → apart (set l n c) ≡ true
unfolding apart
apart_later l zero c k h = absurd (omega arith)
apart_later [] (suc n) c k h = refl
apart_later (x ∷ l) (suc n) c k h = h

-- what is gathered keeps its first character
abbrev Keeps : Gathered → Type 0
Keeps g = (0 < g.count) × (apart g.text ≡ true)

keeps_one : (g : Gathered) (c : ℕ) → Keeps g → Keeps (gathered_with g c)
unfolding gathered_with
keeps_one g c k =
    picked Keeps (ltb g.count 161) _ _
    (λ h. (omega arith, apart_later g.text g.count c k.0 k.1))
    (λ h. (omega arith, k.1))

keeps_all : (g : Gathered) (l : List ℕ) → Keeps g → Keeps (gathered_all g l)
unfolding gathered_all
keeps_all g [] k = k
keeps_all g (c ∷ l) k = keeps_all (gathered_with g c) l (keeps_one g c k)

starts : (g : Gathered) (c : ℕ) → g.count ≡ 0 → (c ≡ 0x3E → ⊥) → Keeps (gathered_with g c)
unfolding gathered_with
starts g c z h =
    picked Keeps (ltb g.count 161) _ _
    (λ t. (omega arith, ap (λ (n : ℕ). apart (set g.text n c)) z ∙ apart_first g.text c h))
    (λ t. absurd (clash _ (lt-ltb g.count 161 (omega arith)) t))

not_tag : (l t : List ℕ) → apart l ≡ true → same l (0x3E ∷ t) ≡ false
unfolding same apart
not_tag [] t h = refl
not_tag (x ∷ l) t h = fails_left _ _ (fails-true _ h)

module _ (l : List ℕ) (h : apart l ≡ true) where
  no_var_lem : begins ">>VAR" l ≡ false
  unfolding begins letters
  no_var_lem = not_tag (take 5 l) _ (apart-take 5 l h)

  no_suo : begins ">>SUO" l ≡ false
  unfolding begins letters
  no_suo = not_tag (take 5 l) _ (apart-take 5 l h)

  no_esi : begins ">>ESI" l ≡ false
  unfolding begins letters
  no_esi = not_tag (take 5 l) _ (apart-take 5 l h)

held-apart : (g : Gathered) (c : ℕ) (l : List ℕ) → g.count ≡ 0 → (c ≡ 0x3E → ⊥) → apart (held (gathered_all g (c ∷ l))) ≡ true
unfolding held gathered_all
held-apart g c l z h =
    let k = gathered_all (gathered_with g c) l in apart-take k.count k.text (keeps_all (gathered_with g c) l (starts g c z h)).1

-- ---- its end

-- a session that stands in data
abbrev in_data : Session → Session
in_data s = onward s s.ended s.told s.made s.sender s.line InData s.gathered s.batch

module _ (s : Session) (w : List ℕ) (c : ℕ) (l : List ℕ) where
  -- the digest with the record
  abbrev taken : Running
  taken = ended (method_of s.batch.suo.text) (took_bytes (cipher_of s) s.batch.running (c ∷ l))

  ends_data : (n : ℕ) → s.gathered.count ≡ 0 → (c ≡ 0x3E → ⊥)
      → record_ended (with_line (heard (in_data s) (c ∷ l)) (record { size = n; cr = false })) w ≡ silent (passed_to s taken n) w
  unfolding record_ended ends_in frame_ends with_line heard heard_by cipher_of batch_with is_data pick data_taken with_batch placed
  ends_data n z h =
      let a = held-apart s.gathered c l z h in
      skips {A = Turn} _ _ _ (no_var_lem _ a) ∙ skips {A = Turn} _ _ _ (no_suo _ a) ∙ skips {A = Turn} _ _ _ (no_esi _ a)

  in_data_case : s.place ≡ InData → s ≡ in_data s
  in_data_case e = ap (λ (p : Place). onward s s.ended s.told s.made s.sender s.line p s.gathered s.batch) e

  module _ (n : ℕ) (t : Bool) (h : n < size_limit) where
    event_lf : event_of (record { size = n; cr = t }) lf ≡ record_ends
    unfolding event_of
    event_lf = skips {A = Event} _ _ _ (lt-leb size_limit n h) ∙ picks {A = Event} _ _ _ (eq-eqb lf lf refl)

    line_lf : line_after (record { size = n; cr = t }) lf ≡ record { size = n + 1; cr = false }
    unfolding line_after
    line_lf = skips {A = Line} _ _ _ (lt-leb size_limit n h)

  -- whether a CR waits or not
  step_lf : (n : ℕ) (t : Bool) → n < size_limit → s.place ≡ InData → s.gathered.count ≡ 0 → (c ≡ 0x3E → ⊥)
      → stepped (with_line (heard s (c ∷ l)) (record { size = n; cr = t })) w lf ≡ silent (passed_to s taken (n + 1)) w
  unfolding stepped on_event with_line
  step_lf n t k p z h =
      ap₂ (λ (v : Event) (x : Line). on_event v (with_line (heard s (c ∷ l)) x) w) (event_lf n t k) (line_lf n t k)
      ∙ ap (λ (x : Session). record_ended (with_line (heard x (c ∷ l)) (record { size = n + 1; cr = false })) w) (in_data_case p)
      ∙ ends_data (n + 1) z h

-- a CR waits and says nothing
step_cr : (s : Session) (w : List ℕ) (n : ℕ) → n < size_limit
    → stepped (with_line s (record { size = n; cr = false })) w cr ≡ silent (with_line s (record { size = n + 1; cr = true })) w
unfolding stepped on_event with_line event_of line_after waited
step_cr s w n h =
    ap₂ (λ (v : Event) (x : Line). on_event v (with_line s x) w)
    (skips {A = Event} _ _ _ (lt-leb size_limit n h)
    ∙ skips {A = Event} _ _ _ (ne_eqb cr lf (λ e. omega arith))
    ∙ picks {A = Event} _ _ _ (eq-eqb cr cr refl))
    (skips {A = Line} _ _ _ (lt-leb size_limit n h))
    ∙ ap (λ (u : Session). silent u w) (heard_none (with_line s (record { size = n + 1; cr = true })))

pub is_in_data : (p : Place) → is_data p ≡ true → p ≡ InData
unfolding is_data
is_in_data BeforeEsi h = absurd (false≢true h)
is_in_data Outside h = absurd (false≢true h)
is_in_data (Collecting kind) h = absurd (false≢true h)
is_in_data InData h = refl
is_in_data Closed h = absurd (false≢true h)

-- ---- a record, and many

pub end_le : (input : List ℕ) (end to : ℕ) → LineEnd input end to → end ≤ to
end_le input end to h = ⊎_elim (λ o. omega arith) (λ o. omega (arith, o.0)) h

-- so a whole record's LF stands past its first character
pub whole_on : {input : List ℕ} {at size end to : ℕ} → Whole input at size end to → at < to
whole_on {input} {at} {size} {end} {to} h = omega (arith, h.some, end_le input end to h.line_end)

plus_none : (n : ℕ) → n + 0 ≡ n
plus_none n = omega arith

-- the digest with a record's characters
abbrev taking : Session → Running → List ℕ → Running
taking s r p = ended (method_of s.batch.suo.text) (took_bytes (cipher_of s) r p)

module _ (s : Session) (w : List ℕ) (c : ℕ) (l ys : List ℕ) (h : c ≡ 0x3E → ⊥) (a : all plain (c ∷ l) ≡ true) (d : s.place ≡ InData)
    (z : s.gathered.count ≡ 0) (q : s.line.cr ≡ false) where
  lf_passed : s.line.size + length (c ∷ l) < size_limit
      → scanned s w ((c ∷ l) ++ (lf ∷ ys))
      ≡ further (length (c ∷ l) + 1) (scanned (passed_to s (taking s s.batch.running (c ∷ l)) (s.line.size + length (c ∷ l) + 1)) w ys)
  lf_passed k =
      let n = length (c ∷ l) in
      let m : 1 + n ≡ n + 1 = omega arith in
      let u = passed_to s (taking s s.batch.running (c ∷ l)) (s.line.size + n + 1) in
      plain_run (c ∷ l) (lf ∷ ys) s w a q (omega arith)
      ∙ ap (further n) (scan_silent (after_plain s (c ∷ l)) w lf ys u w (step_lf s w c l (s.line.size + n) false k d z h))
      ∙ further_twice n 1 (scanned u w ys)
      ∙ ap (λ (i : ℕ). further i (scanned u w ys)) m

  crlf_passed : s.line.size + length (c ∷ l) + 1 < size_limit
      → scanned s w ((c ∷ l) ++ (cr ∷ lf ∷ ys))
      ≡ further (length (c ∷ l) + 2) (scanned (passed_to s (taking s s.batch.running (c ∷ l)) (s.line.size + length (c ∷ l) + 1 + 1)) w ys)
  crlf_passed k =
      let n = length (c ∷ l) in
      let m : 1 + 1 + n ≡ n + 2 = omega arith in
      let v = with_line (heard s (c ∷ l)) (record { size = s.line.size + n + 1; cr = true }) in
      let u = passed_to s (taking s s.batch.running (c ∷ l)) (s.line.size + n + 1 + 1) in
      plain_run (c ∷ l) (cr ∷ lf ∷ ys) s w a q (omega arith)
      ∙ ap (further n)
      (scan_silent (after_plain s (c ∷ l)) w cr (lf ∷ ys) v w (step_cr (heard s (c ∷ l)) w (s.line.size + n) (omega arith))
      ∙ ap (further 1) (scan_silent v w lf ys u w (step_lf s w c l (s.line.size + n + 1) true k d z h))
      ∙ further_twice 1 1 (scanned u w ys))
      ∙ further_twice n (1 + 1) (scanned u w ys)
      ∙ ap (λ (i : ℕ). further i (scanned u w ys)) m

module _ (s : Session) (w : List ℕ) (d : s.place ≡ InData) (z : s.gathered.count ≡ 0) (q : s.line.cr ≡ false) where
  with_lf : (p ys : List ℕ) → 0 < length p → (get_or p 0 0 ≡ 0x3E → ⊥) → all plain p ≡ true → s.line.size + length p < size_limit
      → scanned s w (p ++ (lf ∷ ys))
      ≡ further (length p + 1) (scanned (passed_to s (taking s s.batch.running p) (s.line.size + length p + 1)) w ys)
  with_lf [] ys o h a k = absurd (omega arith)
  with_lf (c ∷ l) ys o h a k = lf_passed s w c l ys h a d z q k

  with_crlf : (p ys : List ℕ) → 0 < length p → (get_or p 0 0 ≡ 0x3E → ⊥) → all plain p ≡ true → s.line.size + length p + 1 < size_limit
      → scanned s w (p ++ (cr ∷ lf ∷ ys))
      ≡ further (length p + 2) (scanned (passed_to s (taking s s.batch.running p) (s.line.size + length p + 1 + 1)) w ys)
  with_crlf [] ys o h a k = absurd (omega arith)
  with_crlf (c ∷ l) ys o h a k = crlf_passed s w c l ys h a d z q k

module _ (input : List ℕ) (at : ℕ) (s : Session) (d : s.place ≡ InData) (z : s.gathered.count ≡ 0) (q : s.line.cr ≡ false) (w : List ℕ) where
  passed_by : (to k : ℕ) (l : List ℕ) (u : Session) → drop at input ≡ l → scanned s w l ≡ further k (scanned u w (drop (to + 1) input))
      → k + at ≡ to + 1 → left_at input (to + 1) u w ≡ left_at input at s w
  passed_by to k l u e f g =
      sym
      (ap (λ (l : List ℕ). further at (scanned s w l)) e
      ∙ ap (further at) f
      ∙ further_twice at k (scanned u w (drop (to + 1) input))
      ∙ ap (λ (i : ℕ). further i (scanned u w (drop (to + 1) input))) g)

  one_passed : (end to : ℕ) → Whole input at s.line.size end to
      → left_at input (to + 1) (passed_to s (taking s s.batch.running (between input at end)) (s.line.size + (to - at) + 1)) w
      ≡ left_at input at s w
  one_passed end to h =
      let p = between input at end in
      let r = taking s s.batch.running p in
      let i : end ≤ to = end_le input end to h.line_end in
      let n : length p ≡ end - at = length-take-le (end - at) (drop at input) (omega (arith, length-drop at input, h.within)) in
      let k : at + (end - at) ≡ end = omega (arith, h.some) in
      let f : get_or p 0 0 ≡ get_or input at 0 =
      get_or-take (end - at) (drop at input) 0 0 (omega (arith, h.some)) ∙ get_or-drop at input 0 0 ∙ ap (λ (j : ℕ). get_or input j 0) (plus_none at) in
      let g : (get_or p 0 0 ≡ 0x3E) → ⊥ = λ (x : get_or p 0 0 ≡ 0x3E). h.no_message (sym f ∙ x) in
      let o : 0 < length p = omega (arith, h.some) in
      let e : drop at input ≡ p ++ drop end input =
      sym (take-append-drop (end - at) (drop at input))
      ∙ ap (λ (l : List ℕ). p ++ l) (drop-drop (end - at) at input ∙ ap (λ (j : ℕ). drop j input) k) in
      let b : drop to input ≡ lf ∷ drop (to + 1) input =
      drop-cons input to 0 h.within ∙ ap₂ (λ (x j : ℕ). x ∷ drop j input) h.ends (sym (add-one to)) in
      ⊎_elim
      (λ v. let m : s.line.size + length p + 1 ≡ s.line.size + (to - at) + 1 = omega arith in
      let y : length p + 1 + at ≡ to + 1 = omega (arith, h.some) in
      passed_by to (length p + 1) (p ++ (lf ∷ drop (to + 1) input)) (passed_to s r (s.line.size + (to - at) + 1))
      (e ∙ ap (λ (l : List ℕ). p ++ l) (ap (λ (j : ℕ). drop j input) (sym v) ∙ b))
      (with_lf s w d z q p (drop (to + 1) input) o g h.characters (omega (arith, h.fits))
      ∙ ap (λ (j : ℕ). further (length p + 1) (scanned (passed_to s r j) w (drop (to + 1) input))) m)
      y)
      (λ v. let m : s.line.size + length p + 1 + 1 ≡ s.line.size + (to - at) + 1 = omega (arith, v.0, h.some) in
      let y : length p + 2 + at ≡ to + 1 = omega (arith, v.0, h.some) in
      passed_by to (length p + 2) (p ++ (cr ∷ lf ∷ drop (to + 1) input)) (passed_to s r (s.line.size + (to - at) + 1))
      (e
      ∙ ap (λ (l : List ℕ). p ++ l)
      (drop-cons input end 0 (omega (arith, h.within))
      ∙ ap₂ (λ (x : ℕ) (l : List ℕ). x ∷ l) v.1 (ap (λ (j : ℕ). drop j input) (sym (add-one end) ∙ sym v.0) ∙ b)))
      (with_crlf s w d z q p (drop (to + 1) input) o g h.characters (omega (arith, v.0, h.fits, h.some))
      ∙ ap (λ (j : ℕ). further (length p + 2) (scanned (passed_to s r j) w (drop (to + 1) input))) m)
      y)
      h.line_end

module _ (s : Session) (input : List ℕ) (from : ℕ) (d : s.place ≡ InData) (z : s.gathered.count ≡ 0) (q : s.line.cr ≡ false) where
  -- none was passed, or what is left is the same
  abbrev Passed : ℕ → Running → ℕ → Type 0
  Passed at r size =
      ((at ≡ from) × (r ≡ s.batch.running) × (size ≡ s.line.size))
      ⊎ ((at ≤ length input) × ((w : List ℕ) → left_at input at (passed_to s r size) w ≡ left_at input from s w))

  first_passed : {at size end to : ℕ} {r : Running} → at ≡ from → r ≡ s.batch.running → size ≡ s.line.size → Whole input at size end to
      → (w : List ℕ)
      → left_at input (to + 1) (passed_to s (taking s r (between input at end)) (size + (to - at) + 1)) w ≡ left_at input from s w
  first_passed {at = at} {end = end} {to = to} ea er es h w =
      ap₂ (λ (x : Running) (n : ℕ). left_at input (to + 1) (passed_to s x n) w)
      (ap₂ (λ (x : Running) (i : ℕ). taking s x (between input i end)) er ea)
      (ap₂ (λ (n i : ℕ). n + (to - i) + 1) es ea)
      ∙ one_passed input from s d z q w end to
      (subst (λ (i : ℕ). Whole input i s.line.size end to) ea (subst (λ (n : ℕ). Whole input at n end to) es h))

  next_passed : (at size end to : ℕ) (r : Running) → Whole input at size end to → (w : List ℕ)
      → left_at input (to + 1) (passed_to s (taking s r (between input at end)) (size + (to - at) + 1)) w ≡ left_at input at (passed_to s r size) w
  unfolding nothing cipher_of
  next_passed at size end to r h w = one_passed input at (passed_to s r size) refl refl refl w end to h

  passed_all : {e : ℕ → ℕ} {m : Method} {at size : ℕ} {r : Running} → e ≡ cipher_of s → m ≡ method_of s.batch.suo.text
      → Passes e m input from s.batch.running s.line.size at r size → Passed at r size
  passed_all ee em none = inl (refl, refl, refl)
  passed_all {e} {m} ee em (more {at} {r} {size} p end to h {x} {n} ex en) =
      let b : to + 1 ≤ length input = omega (arith, h.within) in
      let k : (w : List ℕ) → left_at input (to + 1) (passed_to s x n) w
      ≡ left_at input (to + 1) (passed_to s (taking s r (between input at end)) (size + (to - at) + 1)) w =
      λ w. ap₂ (λ (x : Running) (n : ℕ). left_at input (to + 1) (passed_to s x n) w)
      (ex ∙ ap₂ (λ (f : ℕ → ℕ) (m : Method). ended m (took_bytes f r (between input at end))) ee em)
      en in
      ⊎_elim
      (λ o. inr (b, λ w. k w ∙ first_passed o.0 o.1 o.2 h w))
      (λ o. inr (b, λ w. k w ∙ next_passed at size end to r h w ∙ o.1 w))
      (passed_all ee em p)

  -- so a scan may skim over them
  pub skims_records : {e : ℕ → ℕ} {m : Method} {at size : ℕ} {r : Running} {u : Session} → e ≡ cipher_of s
      → m ≡ method_of s.batch.suo.text → Passes e m input from s.batch.running s.line.size at r size → from < at
      → u ≡ passed_to s r size → Skims input from s at u
  skims_records {at = at} ee em p h eu =
      ⊎_elim
      (λ o. absurd (let g : at ≡ from = o.0 in omega arith))
      (λ o. record {
        ahead = h;
        within = o.0;
        same_key = ap (λ (v : Session). key_or0 v.batch.once) (sym eu);
        same = λ w. ap (λ (v : Session). left_at input at v w) eu ∙ o.1 w;
      })
      (passed_all ee em p)

-- and over a run
pub skims_run : (s : Session) (input : List ℕ) (from to : ℕ) {u : Session} → Runs input from s.line to → from < to
    → u ≡ after_plain s (between input from to) → Skims input from s to u
skims_run s input from to {u} r h e =
    record {
      ahead = h;
      within = r.within;
      same_key = run_key s u (between input from to) e;
      same = λ w. runs_through input from s w to r h e;
    }
