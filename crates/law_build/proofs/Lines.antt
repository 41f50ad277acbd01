-- Records as lines are read back as those records, each at its line's end: a record goes on until LF, and one CR before it is taken off.
-- Assumes nothing.
use Prim.Native.Nat.{ℕ, ◌+◌, ◌≤◌, ◌<◌}
use mathlib.Core.Path.{◌≡◌, refl, sym, ap, ap₂, ◌∙◌}
use mathlib.Core.Bool.{false}
use mathlib.Core.List.{List, [], ◌∷◌, ◌++◌, append_assoc, append-nil}
use native.Mathlib.Nat.{add-zero, zero-add}
use native.Mathlib.Omega.{arith}
use borrow.Author.Tests.{lt-leb}
use lib.ListN.{length, length-append}
use Rattle.ground.specs.Lists.{member, Each}
use Rattle.ground.proofs.Choices.{skips}
use Rattle.ground.proofs.Bools.{neither}
use Rattle.ground.proofs.Lists.{member-cons}
use Rattle.whole_file.specs.Records.{lf, cr, size_limit, Item, line, without_cr, last_item, grown, ended_by, items_from, items_of}
use Rattle.law_refinement.proofs.Chars.{without_cr_lem}
use Rattle.law_refinement.proofs.Refines.{items_lf, items_on}
use Rattle.law_build.specs.Accepted.{lines, LineEnd, lf_alone, cr-lf, WholeLines, no_lines, ended}

-- ---- the items of one byte more, within the size limit

items_more : (at : ℕ) (raw : List ℕ) (b : ℕ) (bs : List ℕ) → at < size_limit
    → items_from at raw (b ∷ bs) ≡ ended_by at raw b ++ items_from (at + 1) (grown raw b) bs
unfolding items_from
items_more at raw b bs h = skips _ _ _ (lt-leb size_limit at h)

-- ---- whole lines, and what follows them

lines_end : (at : ℕ) (raw l rest : List ℕ) → at + length l < size_limit
    → items_from at raw ((l ++ (lf ∷ [])) ++ rest)
    ≡ items_from at raw (l ++ (lf ∷ [])) ++ items_from (at + length (l ++ (lf ∷ []))) [] rest
unfolding last_item items_from
lines_end at raw [] rest h =
    items_lf at raw lf rest (lt-leb size_limit at (omega arith)) refl
    ∙ sym (ap (λ (x : List Item). x ++ items_from (at + 1) [] rest) (items_lf at raw lf [] (lt-leb size_limit at (omega arith)) refl))
lines_end at raw (b ∷ l) rest h =
    let n : (at + 1) + length (l ++ (lf ∷ [])) ≡ at + length (b ∷ (l ++ (lf ∷ []))) = omega arith in
    items_more at raw b ((l ++ (lf ∷ [])) ++ rest) (omega arith)
    ∙ ap (λ (x : List Item). ended_by at raw b ++ x) (lines_end (at + 1) (grown raw b) l rest (omega arith))
    ∙ sym (append_assoc (ended_by at raw b) _ _)
    ∙ ap₂ (λ (x : List Item) (k : ℕ). x ++ items_from k [] rest) (sym (items_more at raw b (l ++ (lf ∷ [])) (omega arith))) n

front_items : (front rest : List ℕ) → WholeLines front → length front ≤ size_limit
    → items_of (front ++ rest) ≡ items_of front ++ items_from (length front) [] rest
unfolding last_item items_from
front_items front rest no_lines h = refl
front_items front rest (ended l) h =
    let n : length (l ++ (lf ∷ [])) ≡ length l + 1 = length-append l (lf ∷ []) in
    lines_end 0 [] l rest (omega arith) ∙ ap (λ (k : ℕ). items_of (l ++ (lf ∷ [])) ++ items_from k [] rest) (zero-add _)

-- ---- a record as a line

-- no LF in it, and no CR at its end
pub record Plain (chars : List ℕ) : Type 0 where
  pub no_lf : member lf chars ≡ false
  pub no_closing_cr : without_cr chars ≡ chars

goes_on : (at : ℕ) (raw chars rest : List ℕ) → member lf chars ≡ false → at + length chars ≤ size_limit
    → items_from at raw (chars ++ rest) ≡ items_from (at + length chars) (raw ++ chars) rest
goes_on at raw [] rest m h = ap₂ (λ (k : ℕ) (r : List ℕ). items_from k r rest) (sym (add-zero at)) (sym (append-nil raw))
goes_on at raw (b ∷ chars) rest m h =
    let e = neither _ _ (sym (member-cons lf b chars) ∙ m) in
    let n : (at + 1) + length chars ≡ at + length (b ∷ chars) = omega arith in
    items_on at raw b (chars ++ rest) (lt-leb size_limit at (omega arith)) e.0
    ∙ goes_on (at + 1) (raw ++ (b ∷ [])) chars rest e.1 (omega arith)
    ∙ ap₂ (λ (k : ℕ) (r : List ℕ). items_from k r rest) n (append_assoc raw (b ∷ []) chars)

abbrev line_at : (at : ℕ) (ending chars : List ℕ) → Item
line_at at ending chars = line (record { chars = chars; end = at + length (chars ++ ending) })

line_items : (at : ℕ) (ending chars rest : List ℕ) → LineEnd ending → Plain chars → at + length (chars ++ ending) ≤ size_limit
    → items_from at [] ((chars ++ ending) ++ rest) ≡ line_at at ending chars ∷ items_from (at + length (chars ++ ending)) [] rest
line_items at ending chars rest lf_alone p h =
    let n : length (chars ++ (lf ∷ [])) ≡ length chars + 1 = length-append chars (lf ∷ []) in
    let k : at + length chars + 1 ≡ at + length (chars ++ (lf ∷ [])) = omega arith in
    ap (items_from at []) (append_assoc chars (lf ∷ []) rest)
    ∙ goes_on at [] chars (lf ∷ rest) p.no_lf (omega arith)
    ∙ items_lf (at + length chars) chars lf rest (lt-leb size_limit (at + length chars) (omega arith)) refl
    ∙ ap₂ (λ (c : List ℕ) (i : ℕ). line (record { chars = c; end = i }) ∷ items_from i [] rest) p.no_closing_cr k
line_items at ending chars rest cr-lf p h =
    let n : length (chars ++ (cr ∷ lf ∷ [])) ≡ length chars + 2 = length-append chars (cr ∷ lf ∷ []) in
    let k : at + length chars + 1 + 1 ≡ at + length (chars ++ (cr ∷ lf ∷ [])) = omega arith in
    ap (items_from at []) (append_assoc chars (cr ∷ lf ∷ []) rest)
    ∙ goes_on at [] chars (cr ∷ lf ∷ rest) p.no_lf (omega arith)
    ∙ items_on (at + length chars) chars cr (lf ∷ rest) (lt-leb size_limit (at + length chars) (omega arith)) refl
    ∙ items_lf (at + length chars + 1) (chars ++ (cr ∷ [])) lf rest (lt-leb size_limit (at + length chars + 1) (omega arith)) refl
    ∙ ap₂ (λ (c : List ℕ) (i : ℕ). line (record { chars = c; end = i }) ∷ items_from i [] rest) (without_cr_lem chars) k

-- ---- records as lines

-- the items that they are, from that place on
unfoldable pub items_at : (at : ℕ) (ending : List ℕ) (records : List (List ℕ)) → List Item
items_at at ending [] = []
items_at at ending (r ∷ rs) = line_at at ending r ∷ items_at (at + length (r ++ ending)) ending rs

lines_items : (at : ℕ) (ending : List ℕ) (records : List (List ℕ)) (rest : List ℕ) → LineEnd ending → Each Plain records
    → at + length (lines ending records) ≤ size_limit
    → items_from at [] (lines ending records ++ rest)
    ≡ items_at at ending records ++ items_from (at + length (lines ending records)) [] rest
unfolding lines items_at
lines_items at ending [] rest e p h = ap (λ (i : ℕ). items_from i [] rest) (sym (add-zero at))
lines_items at ending (r ∷ rs) rest e p h =
    let n : length ((r ++ ending) ++ lines ending rs) ≡ length (r ++ ending) + length (lines ending rs) = length-append (r ++ ending) _ in
    let k : at + length (r ++ ending) + length (lines ending rs) ≡ at + length ((r ++ ending) ++ lines ending rs) = omega arith in
    ap (items_from at []) (append_assoc (r ++ ending) (lines ending rs) rest)
    ∙ line_items at ending r (lines ending rs ++ rest) e p.0 (omega arith)
    ∙ ap (λ (x : List Item). line_at at ending r ∷ x)
    (lines_items (at + length (r ++ ending)) ending rs rest e p.1 (omega arith)
    ∙ ap (λ (i : ℕ). items_at (at + length (r ++ ending)) ending rs ++ items_from i [] rest) k)

-- the last of them ends where the lines do
items_last : (at : ℕ) (ending : List ℕ) (records : List (List ℕ)) (last : List ℕ)
    → items_at at ending (records ++ (last ∷ []))
    ≡ items_at at ending records ++ (line (record { chars = last; end = at + length (lines ending (records ++ (last ∷ []))) }) ∷ [])
unfolding lines items_at
items_last at ending [] last =
    ap (λ (x : List ℕ). line (record { chars = last; end = at + length x }) ∷ []) (sym (append-nil (last ++ ending)))
items_last at ending (r ∷ rs) last =
    let here = at + length (r ++ ending) in
    let more = lines ending (rs ++ (last ∷ [])) in
    let n : length ((r ++ ending) ++ more) ≡ length (r ++ ending) + length more = length-append (r ++ ending) more in
    let k : here + length more ≡ at + length ((r ++ ending) ++ more) = omega arith in
    ap (λ (x : List Item). line_at at ending r ∷ x)
    (items_last here ending rs last ∙ ap (λ (i : ℕ). items_at here ending rs ++ (line (record { chars = last; end = i }) ∷ [])) k)

-- records as lines between whole lines and anything else
pub file_items : (front ending rest : List ℕ) (records : List (List ℕ)) (last : List ℕ) (n : ℕ) → WholeLines front → LineEnd ending
    → Each Plain (records ++ (last ∷ [])) → n ≡ length front + length (lines ending (records ++ (last ∷ []))) → n ≤ size_limit
    → items_of ((front ++ lines ending (records ++ (last ∷ []))) ++ rest)
    ≡ (items_of front ++ items_at (length front) ending records) ++ (line (record { chars = last; end = n }) ∷ items_from n [] rest)
file_items front ending rest records last n w e p k h =
    let batch = lines ending (records ++ (last ∷ [])) in
    let read = items_at (length front) ending records in
    let here : ℕ → Item = λ i. line (record { chars = last; end = i }) in
    ap items_of (append_assoc front batch rest)
    ∙ front_items front (batch ++ rest) w (omega arith)
    ∙ ap (λ (l : List Item). items_of front ++ l)
    (lines_items (length front) ending (records ++ (last ∷ [])) rest e p (omega arith)
    ∙ ap (λ (l : List Item). l ++ items_from (length front + length batch) [] rest) (items_last (length front) ending records last)
    ∙ ap (λ (i : ℕ). (read ++ (here i ∷ [])) ++ items_from i [] rest) (sym k)
    ∙ append_assoc read (here n ∷ []) (items_from n [] rest))
    ∙ sym (append_assoc (items_of front) read (here n ∷ items_from n [] rest))
