-- A file is read item by item, so a record that is accepted where the reading stands has its reply with K at the record's end, whatever
-- stands before and behind it.
-- Assumes nothing.
use Prim.Native.Nat.{ℕ, ◌+◌, ◌≤◌}
use mathlib.Core.Path.{◌≡◌, refl, sym, ap, ◌∙◌, subst}
use mathlib.Core.Bool.{true}
use mathlib.Core.List.{List, [], ◌∷◌, ◌++◌, append_assoc}
use native.Mathlib.Nat.{zero-add}
use native.Mathlib.Omega.{arith}
use lib.ListN.{length, length-append}
use Rattle.ground.specs.Lists.{Each}
use Rattle.calendar.specs.Dates.{real_date}
use Rattle.table.specs.Table.{Table, sound_table}
use Rattle.table.specs.Decode.{is_table}
use Rattle.reply.specs.Reply.{reply_of}
use Rattle.reply.specs.declared.Answering.{Answering}
use Rattle.opening.specs.declared.Opening.{Opening}
use Rattle.whole_file.specs.Records.{Item, Record, line, past_size, size_limit, last_item, items_from, items_of}
use Rattle.whole_file.specs.WholeFile.{before_esi, Standing, Step, Given, record_in, past_in, given_at, sooner, told_of, at_start, whole_file}
use Rattle.calls.specs.Reading.{opening_answer}
use Rattle.law_protocol.proofs.Opened.{opening_served}
use Rattle.law_history.proofs.Shown.{says_k}
use Rattle.law_desk.specs.Desks.{item_step, next_step, stands_after, opens_on}
use Rattle.law_desk.proofs.Files.{Good, next_good, start_good}
use Rattle.law_build.specs.Accepted.{lines, LineEnd, WholeLines, no_lines, FirstAccepted, AcceptedAt}
use Rattle.law_build.proofs.ByValue.{Accepts, stands_after_records}
use Rattle.law_build.proofs.Lines.{Plain, items_at, file_items}

-- ---- where the reading stands

stands_join : (o : Opening) (s : Standing) (a b : List Item) → stands_after o s (a ++ b) ≡ stands_after o (stands_after o s a) b
unfolding stands_after
stands_join o s [] b = refl
stands_join o s (i ∷ a) b = stands_join o (item_step o s i).after a b

stands_records : (o : Opening) (s : Standing) (at : ℕ) (ending : List ℕ) (records : List (List ℕ))
    → stands_after o s (items_at at ending records) ≡ stands_after_records o s records
unfolding stands_after stands_after_records items_at item_step
stands_records o s at ending [] = refl
stands_records o s at ending (r ∷ rs) = stands_records o (record_in o s s.situation r).after (at + length (r ++ ending)) ending rs

-- on a sound table
module _ (b : List ℕ) (o : Opening) (is : is_table b ≡ true) (real : real_date o.today.yymmdd ≡ true) where
  stands_good : (s : Standing) (items : List Item) → Good b o is real s → Good b o is real (stands_after o s items)
  unfolding stands_after next_step
  stands_good s [] g = g
  stands_good s (i ∷ items) g = stands_good (item_step o s i).after items (next_good b o is real s g (i ∷ items))

pub stands_sound : (b : List ℕ) (o : Opening) (items : List Item) → opening_answer b o ≡ 0
    → sound_table (stands_after o (at_start (opens_on b o)) items).table ≡ true
stands_sound b o items z =
    let v = opening_served b o z in (stands_good b o v.table v.real _ items (start_good b o z)).sound

-- ---- the replies

-- those to the items so far, and then those to what is left
record Split (o : Opening) (size : ℕ) (s : Standing) (read left : List Item) : Type 0 where
  before : List Given
  all : (told_of o size s (read ++ left)).given ≡ before ++ (told_of o size (stands_after o s read) left).given

split : (o : Opening) (size : ℕ) (s : Standing) (read left : List Item) → Split o size s read left
unfolding told_of sooner stands_after item_step
split o size s [] left = record { before = []; all = refl }
split o size s (line r ∷ read) left =
    let x : Step = record_in o s s.situation r.chars in
    let k = split o size x.after read left in
    let here : List Given = given_at r.end x.says in
    record { before = here ++ k.before; all = ap (λ (l : List Given). here ++ l) k.all ∙ sym (append_assoc here k.before _) }
split o size s (past_size at ∷ read) left =
    let x : Step = past_in o s s.situation in
    let k = split o size x.after read left in
    let here : List Given = given_at at x.says in
    record { before = here ++ k.before; all = ap (λ (l : List Given). here ++ l) k.all ∙ sym (append_assoc here k.before _) }

told_here : (o : Opening) (size : ℕ) (s : Standing) (r : Record) (left : List Item) (a : Answering)
    → (record_in o s s.situation r.chars).says ≡ a ∷ []
    → (told_of o size s (line r ∷ left)).given
    ≡ record { at = r.end; reply = reply_of a } ∷ (told_of o size (record_in o s s.situation r.chars).after left).given
unfolding told_of sooner given_at
told_here o size s r left a e =
    ap (λ (l : List Answering). given_at r.end l ++ (told_of o size (record_in o s s.situation r.chars).after left).given) e

-- of a reply of that step
module _ (P : List ℕ → Type 0) (o : Opening) where
  first_here : (size : ℕ) (there : Standing) (r : Record) (left : List Item) → Accepts P (record_in o there there.situation r.chars)
      → FirstAccepted r.end (told_of o size there (line r ∷ left)).given P
  first_here size there r left k =
      record {
        reply = reply_of k.answer;
        after = (told_of o size (record_in o there there.situation r.chars).after left).given;
        all = told_here o size there r left k.answer k.says;
        accepted = says_k k.answer k.accepts;
        passes = k.passes;
      }

  accepted_at : (size : ℕ) (s : Standing) (read : List Item) (r : Record) (left : List Item) (there : Standing)
      → there ≡ stands_after o s read → Accepts P (record_in o there there.situation r.chars)
      → AcceptedAt r.end (told_of o size s (read ++ (line r ∷ left))).given P
  accepted_at size s read r left there e k =
      let x = split o size s read (line r ∷ left) in
      record {
        before = x.before;
        rest = (told_of o size there (line r ∷ left)).given;
        all = x.all ∙ ap (λ (y : Standing). x.before ++ (told_of o size y (line r ∷ left)).given) (sym e);
        here = first_here size there r left k;
      }

  -- ---- the first record of a file

  pub first_line : (t : Table) (ending rest chars file : List ℕ) → LineEnd ending → Plain chars
      → file ≡ lines ending (chars ∷ []) ++ rest → length file ≤ size_limit → Accepts P (record_in o (at_start t) before_esi chars)
      → FirstAccepted (length (lines ending (chars ∷ []))) (whole_file o t file).given P
  unfolding whole_file at_start items_from last_item items_at
  first_line t ending rest chars file e p f h k =
      let n = length (lines ending (chars ∷ [])) in
      let size : length file ≡ n + length rest = ap length f ∙ length-append (lines ending (chars ∷ [])) rest in
      subst (λ (l : List Item). FirstAccepted n (told_of o (length file) (at_start t) l).given P)
      (sym (ap items_of f ∙ file_items [] ending rest [] chars n no_lines e (p, tt) (sym (zero-add n)) (omega arith)))
      (first_here (length file) (at_start t) (record { chars = chars; end = n }) (items_from n [] rest) k)

  -- ---- a record after some lines and some records

  pub accepted_line : (t : Table) (ending front rest : List ℕ) (records : List (List ℕ)) (last file : List ℕ)
      → WholeLines front → LineEnd ending → Each Plain (records ++ (last ∷ []))
      → file ≡ (front ++ lines ending (records ++ (last ∷ []))) ++ rest → length file ≤ size_limit
      → (there : Standing) → there ≡ stands_after_records o (stands_after o (at_start t) (items_of front)) records
      → Accepts P (record_in o there there.situation last)
      → AcceptedAt (length front + length (lines ending (records ++ (last ∷ [])))) (whole_file o t file).given P
  unfolding whole_file
  accepted_line t ending front rest records last file w e p f h there s k =
      let framed = lines ending (records ++ (last ∷ [])) in
      let n = length front + length framed in
      let size : length file ≡ length front + length framed + length rest
      = ap length f ∙ length-append (front ++ framed) rest ∙ ap (λ (i : ℕ). i + length rest) (length-append front framed) in
      let read = items_at (length front) ending records in
      subst (λ (l : List Item). AcceptedAt n (told_of o (length file) (at_start t) l).given P)
      (sym (ap items_of f ∙ file_items front ending rest records last n w e p refl (omega arith)))
      (accepted_at (length file) (at_start t) (items_of front ++ read) (record { chars = last; end = n }) (items_from n [] rest) there
      (s ∙ sym (stands_records o _ (length front) ending records) ∙ sym (stands_join o (at_start t) (items_of front) read)) k)
