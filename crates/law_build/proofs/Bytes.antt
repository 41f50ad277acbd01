-- What is built is read back out of a file as it was built, since a message without fault has no line end in it; so what holds of records holds
-- of a file's bytes.
-- Assumes nothing.
use Prim.Native.Nat.{ℕ, ◌+◌, ◌≤◌}
use mathlib.Core.Path.{◌≡◌, refl, sym, ap, ◌∙◌, subst}
use mathlib.Core.Bool.{true}
use mathlib.Core.List.{List, [], ◌∷◌, ◌++◌}
use native.Mathlib.Omega.{arith}
use lib.ListN.{length, length-append}
use Rattle.ground.specs.Lists.{Each}
use Rattle.table.specs.Table.{sound_table}
use Rattle.whole_file.specs.Records.{items_of}
use Rattle.whole_file.specs.WholeFile.{Standing, at_start, whole_file}
use Rattle.law_protocol.proofs.Opened.{day_sound}
use Rattle.law_refinement.specs.Stands.{size_of}
use Rattle.law_desk.specs.Desks.{opens_on}
use Rattle.law_build.specs.Premises.{IsData}
use Rattle.law_build.specs.Accepted.{lines, AcceptedAt}
use Rattle.law_build.proofs.ByValue.{PteFinds, esi_of, suo_of, var_of, stands_after_records, FileAcceptsEsi, FileAcceptsBatch}
use Rattle.law_build.proofs.Lines.{Plain}
use Rattle.law_build.proofs.Clean.{esi_clean, suo_clean, var_clean}
use Rattle.law_build.proofs.Esi.{esi_by_value}
use Rattle.law_build.proofs.Batch.{batch_by_value}
use Rattle.law_build.proofs.Files.{stands_sound, first_line, accepted_line}

-- ---- an ESI in a file

pub file_esi : FileAcceptsEsi
unfolding at_start
file_esi b o h software stamp request ending rest z i j y m e file f l =
    let s = at_start (opens_on b o) in
    let sound = day_sound b o z in
    let a = esi_by_value o s h software stamp request sound i j y m in
    first_line _ o (opens_on b o) ending rest (esi_of h software stamp request) file e
    (esi_clean (opens_on b o) o.today h software stamp request sound m i j y).plain f l a

-- ---- a batch in a file

characters_fit : (ending : List ℕ) (records more : List (List ℕ)) → size_of records ≤ length (lines ending (records ++ more))
unfolding size_of lines
characters_fit ending [] more = omega arith
characters_fit ending (r ∷ rs) more =
    let rest = lines ending (rs ++ more) in
    let n : length ((r ++ ending) ++ rest) ≡ length (r ++ ending) + length rest = length-append (r ++ ending) rest in
    let k : length (r ++ ending) ≡ length r + length ending = length-append r ending in
    omega (arith, characters_fit ending rs more)

all_plain : (records : List (List ℕ)) (last : List ℕ) → Each IsData records → Plain last → Each Plain (records ++ (last ∷ []))
all_plain [] last d p = (p, tt)
all_plain (r ∷ rs) last d p = (record { no_lf = d.0.no_lf; no_closing_cr = d.0.no_closing_cr }, all_plain rs last d.1 p)

pub file_batch : FileAcceptsBatch
unfolding lines
file_batch b o h maker clock g records request ending front rest z w s st may sized built sends d leaves e framed u file f l =
    let suo = suo_of h maker clock g in
    let var = var_of h maker clock g records request in
    let there = stands_after_records o s (suo ∷ records) in
    let sound = subst (λ (x : Standing). sound_table x.table ≡ true) (sym st) (stands_sound b o (items_of front) z) in
    let c : size_of records ≤ length (lines ending (records ++ (var ∷ []))) = characters_fit ending records (var ∷ []) in
    let n : length framed ≡ length (suo ++ ending) + length (lines ending (records ++ (var ∷ [])))
    = ap length u ∙ length-append (suo ++ ending) _ in
    let k : length file ≡ length front + length framed + length rest
    = ap length f ∙ length-append (front ++ framed) rest ∙ ap (λ (i : ℕ). i + length rest) (length-append front framed) in
    let a = batch_by_value o s h maker clock g records request sound may sized built sends d leaves (omega arith) there refl in
    let p = (suo_clean s.table o.today h maker clock g records request sound sends.message sized built).plain in
    let q = (var_clean s.table o.today h maker clock g records request sound sends.message sized built).plain in
    subst (λ (x : List ℕ). AcceptedAt (length front + length x) (whole_file o (opens_on b o) file).given (PteFinds h suo var)) (sym u)
    (accepted_line _ o (opens_on b o) ending front rest (suo ∷ records) var file w e (p, all_plain records var d q)
    (f ∙ ap (λ (x : List ℕ). (front ++ x) ++ rest) u) l there (ap (λ (x : Standing). stands_after_records o x (suo ∷ records)) st) a)
