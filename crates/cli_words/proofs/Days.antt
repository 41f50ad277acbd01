-- A file of holidays, line by line: the dates kept so far and what the lines to come say make the whole.
-- Assumes nothing.
use Rattle.std.proofs.Common.{◌≡◌, ℕ, suc, ◌+◌, ◌-◌, ◌<◌, ◌≤◌, false, List, [], ◌∷◌, ◌++◌, map, length, take, drop, set, refl, sym, ap, ap₂, subst, ◌∙◌, None, Option, Some, Result, Ok, Err, MatchOption, Bor, arith, eqb, eq-eqb, ne_eqb, add-one, append-nil, length-set, length-take-le, take-append-drop, replicate}
use lib.Seq.{take-nil, take-suc-set, drop-set-lt, drop-drop, append_snoc}
use Rattle.std.specs.Option.{unwrap_or}
use Rattle.ground.proofs.Choices.{picks, skips}
use Rattle.cli_words.specs.declared.BadLine.{BadLine}
use Rattle.cli_words.specs.declared.Dates.{Dates}
use Rattle.cli_words.specs.Parts.{up_to, ended_by}
use Rattle.cli_words.specs.Forms.{date_of, leading, kept, told}
use Rattle.cli_words.proofs.Cuts.{ended_more, ended_last}

-- what the lines that are left say, where so many are kept already
abbrev pub rest : List ℕ → ℕ → List (Option ℕ)
rest left count = map date_of (take (201 - count) (ended_by 0x0A left))

-- so many dates are kept, and zeros fill the places past them
pub record Sofar (ns left : List (Option ℕ)) (dates : List ℕ) (count : ℕ) : Type 0 where
  pub kept : leading ns ≡ take count dates ++ leading left
  pub lines : length ns ≡ count + length left
  pub long : length dates ≡ 201
  pub zeros : drop count dates ≡ replicate (201 - count) 0

pub none_yet : (ns : List (Option ℕ)) → Sofar ns ns (replicate 201 0) 0
none_yet ns = record { kept = refl; lines = omega arith; long = refl; zeros = refl }

pub one_more : (ns left : List (Option ℕ)) (dates : List ℕ) (count n : ℕ) → count < 201 → Sofar ns (Some n ∷ left) dates count
    → Sofar ns left (set dates count n) (count + 1)
unfolding leading
one_more ns left dates count n h s =
    let l : count < length dates = omega (arith, s.long) in
    let e : take (count + 1) (set dates count n) ≡ take count dates ++ (n ∷ []) = rw (add-one count) (take-suc-set dates count n l) in
    let z : 201 - count ≡ suc (201 - (count + 1)) = omega arith in
    let o : drop count dates ≡ 0 ∷ replicate (201 - (count + 1)) 0 = s.zeros ∙ ap (λ (k : ℕ). replicate k 0) z in
    record {
      kept = s.kept ∙ sym (ap (λ (d : List ℕ). d ++ leading left) e ∙ append_snoc (take count dates) n (leading left));
      lines = omega (arith, s.lines);
      long = length-set dates count n ∙ s.long;
      zeros =
          drop-set-lt (count + 1) dates count n (omega arith) ∙ sym (drop-drop 1 count dates) ∙ ap (drop 1) o;
    }

-- ---- the end

abbrev pub dates_of : ℕ → List ℕ → Dates
dates_of count dates = record { count = count; dates = dates }

abbrev pub dated : ℕ → List ℕ → Result Dates BadLine
dated count dates = Ok (dates_of count dates)

abbrev pub no_date : ℕ → Dates → Result Dates BadLine
no_date line before = Err (record { line = line; before = before })

module _
    (ns left : List (Option ℕ)) (dates : List ℕ) (count : ℕ) (h : count ≤ 201) (s : Sofar ns left dates count) (none : leading left ≡ []) where
  all_kept : leading ns ≡ take count dates
  all_kept = s.kept ∙ ap (λ (d : List ℕ). take count dates ++ d) none ∙ append-nil (take count dates)

  so_many : length (leading ns) ≡ count
  so_many = ap length all_kept ∙ length-take-le count dates (omega (arith, s.long))

  filled : leading ns ++ replicate (201 - length (leading ns)) 0 ≡ dates
  filled =
      ap₂ (λ (d : List ℕ) (k : ℕ). d ++ replicate (201 - k) 0) all_kept so_many
      ∙ ap (λ (d : List ℕ). take count dates ++ d) (sym s.zeros)
      ∙ take-append-drop count dates

  as_kept : kept (leading ns) ≡ dates_of count dates
  unfolding kept
  as_kept = ap₂ dates_of so_many filled

all_good : (ns : List (Option ℕ)) (dates : List ℕ) (count : ℕ) → count ≤ 201 → Sofar ns [] dates count → dated count dates ≡ told ns
unfolding leading told
all_good ns dates count h s =
    let m : length (leading ns) ≡ count = so_many ns [] dates count h s refl in
    let n : length ns ≡ count = omega (arith, s.lines) in
    sym (picks _ _ _ (eq-eqb _ _ (m ∙ sym n)) ∙ ap (λ (d : Dates). Ok d) (as_kept ns [] dates count h s refl))

pub one_bad : (ns left : List (Option ℕ)) (dates : List ℕ) (count : ℕ) → count ≤ 201 → Sofar ns (None ∷ left) dates count
    → no_date (count + 1) (dates_of count dates) ≡ told ns
unfolding leading told
one_bad ns left dates count h s =
    let m : length (leading ns) ≡ count = so_many ns (None ∷ left) dates count h s refl in
    let n : length ns ≡ count + (1 + length left) = omega (arith, s.lines) in
    let g : eqb (length (leading ns)) (length ns) ≡ false = ne_eqb _ _ (λ (e : length (leading ns) ≡ length ns). omega arith) in
    sym (skips _ _ _ g ∙ ap₂ no_date (ap (λ (k : ℕ). k + 1) m) (as_kept ns (None ∷ left) dates count h s refl))

-- ---- the lines that are left

abbrev pub Behind : List ℕ → Option (Bor (List ℕ)) → Type 0
Behind l more = MatchOption more (up_to 0x0A l ≡ l) (λ r. l ≡ up_to 0x0A l ++ (0x0A ∷ r.now))

abbrev pub behind : Option (Bor (List ℕ)) → List ℕ
behind None = []
behind (Some r) = r.now

next_line : (l : List ℕ) (more : Option (Bor (List ℕ))) (count : ℕ) → 0 < length l → count < 201 → Behind l more
    → rest l count ≡ date_of (up_to 0x0A l) ∷ rest (behind more) (count + 1)
unfolding ended_by
next_line l more count h k e =
    let z : 201 - count ≡ suc (201 - (count + 1)) = omega arith in
    ap₂ (λ (n : ℕ) (ps : List (List ℕ)). map date_of (take n ps)) z (go more e)
  where
    go : (x : Option (Bor (List ℕ))) → Behind l x → ended_by 0x0A l ≡ up_to 0x0A l ∷ ended_by 0x0A (behind x)
    go None f = ended_last 0x0A l h f
    go (Some r) f = ended_more 0x0A l r.now f

-- the line there says x
pub looked : (ns : List (Option ℕ)) (dates l p : List ℕ) (more : Option (Bor (List ℕ))) (count : ℕ) (x : Option ℕ)
    → 0 < length l → count < 201 → Behind l more → p ≡ up_to 0x0A l → x ≡ date_of p
    → Sofar ns (rest l count) dates count → Sofar ns (x ∷ rest (behind more) (count + 1)) dates count
looked ns dates l p more count x h k e q f y =
    subst (λ (left : List (Option ℕ)). Sofar ns left dates count)
    (next_line l more count h k e ∙ ap (λ (n : Option ℕ). n ∷ rest (behind more) (count + 1)) (ap date_of (sym q) ∙ sym f)) y

-- nothing is left to look at: the file ends, or all places are taken
pub ends : (ns : List (Option ℕ)) (dates l : List ℕ) (count : ℕ) → length l ≡ 0 → count ≤ 201
    → Sofar ns (rest l count) dates count → dated count dates ≡ told ns
unfolding ended_by
ends ns dates [] count h k y =
    all_good ns dates count k (subst (λ (left : List (Option ℕ)). Sofar ns left dates count) (ap (map date_of) (take-nil (201 - count))) y)
ends ns dates (x ∷ l) count h k y = absurd (omega arith)

pub is_full : (ns : List (Option ℕ)) (dates l : List ℕ) (count : ℕ) → count ≤ 201 → 201 ≤ count → Sofar ns (rest l count) dates count
    → dated 201 dates ≡ told ns
is_full ns dates l count h k y =
    let e : 201 ≡ count = omega arith in
    let z : 201 - count ≡ 0 = omega arith in
    let o : rest l count ≡ [] = ap (λ (n : ℕ). map date_of (take n (ended_by 0x0A l))) z in
    ap (λ (n : ℕ). dated n dates) e ∙ all_good ns dates count h (subst (λ (left : List (Option ℕ)). Sofar ns left dates count) o y)

-- what is left behind a line
pub left_is : (more : Option (Bor (List ℕ))) (d r : Bor (List ℕ)) → r ≡ unwrap_or more d → d.now ≡ [] → behind more ≡ r.now
left_is None d r e z = sym (ap (λ (x : Bor (List ℕ)). x.now) e ∙ z)
left_is (Some x) d r e z = sym (ap (λ (x : Bor (List ℕ)). x.now) e)
