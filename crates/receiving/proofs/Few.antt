-- A file gives few replies: its items are no more than the bytes within the size limit and one past it, and each gives at most one.
-- Assumes nothing.
use Prim.Native.Nat.{ℕ, suc, ◌+◌, ◌-◌, ◌≤◌}
use mathlib.Core.Path.{◌≡◌, refl, ap}
use mathlib.Core.List.{List, [], ◌∷◌}
use mathlib.Core.Bool.{Bool}
use native.Mathlib.Omega.{arith}
use borrow.Author.Tests.{leb-false}
use lib.Dec.{leb}
use lib.ListN.{length, length-append}
use Rattle.ground.specs.Choice.{pick}
use Rattle.ground.proofs.Bools.{picked}
use Rattle.table.specs.Table.{Table}
use Rattle.reply.specs.declared.Answering.{Answering}
use Rattle.opening.specs.declared.Opening.{Opening}
use Rattle.whole_file.specs.Records.{Item, line, past_size, last_item, grown, ended_by, items_from}
use Rattle.whole_file.specs.WholeFile.{Opened, Situation, before_esi, collecting_esi, outside, collecting_suo, in_frame, collecting_var, closed}
use Rattle.whole_file.specs.WholeFile.{Standing, Step, silent, replies, esi_says, pte_says, esi_ends, suo_ends, var_ends, esi_goes_on, suo_goes_on}
use Rattle.whole_file.specs.WholeFile.{var_goes_on, esi_starts, suo_starts, var_starts, first_record, outside_record, frame_record, record_in}
use Rattle.whole_file.specs.WholeFile.{past_in, end_in, given_at, sooner, told_of, at_start, whole_file}

-- ---- items

last_few : (at : ℕ) (raw : List ℕ) → length (last_item at raw) ≤ 1
unfolding last_item
last_few at [] = omega arith
last_few at (x ∷ raw) = omega arith

ended_few : (at : ℕ) (raw : List ℕ) (b : ℕ) → length (ended_by at raw b) ≤ 1
unfolding ended_by
ended_few at raw b = picked (λ (l : List Item). length l ≤ 1) _ _ _ (λ e. omega arith) (λ e. omega arith)

items_few : (at : ℕ) (raw bs : List ℕ) → length (items_from at raw bs) ≤ 4294967295 - at + 1
unfolding items_from
items_few at raw [] = omega (arith, last_few at raw)
items_few at raw (b ∷ bs) =
    let rest = items_from (at + 1) (grown raw b) bs in
    let k = items_few (at + 1) (grown raw b) bs in
    picked (λ (l : List Item). length l ≤ 4294967295 - at + 1) (leb 4294967295 at) _ _ (λ e. omega arith)
    (λ e. omega (arith, k, ended_few at raw b, leb-false 4294967295 at e, length-append (ended_by at raw b) rest))

-- ---- a step says at most one reply

abbrev One : Step → Type 0
One x = length x.says ≤ 1

one_of : (t : Bool) (x y : Step) → One x → One y → One (pick t x y)
one_of t x y p q = picked One t x y (λ e. p) (λ e. q)

one_silent : (s : Standing) → One (silent s)
unfolding silent
one_silent s = omega arith

one_replies : (a : Answering) (s : Standing) → One (replies a s)
unfolding replies
one_replies a s = omega arith

module _ (o : Opening) (s : Standing) where
  one_esi : (code field : ℕ) (chars : List ℕ) (after : Standing) → One (esi_says o s code field chars after)
  unfolding esi_says
  one_esi code field chars after = one_replies _ after

  one_pte : (code : ℕ) (after : Standing) → One (pte_says o s code after)
  unfolding pte_says
  one_pte code after = one_replies _ after

  one_esi_on : (chars : List ℕ) → One (esi_goes_on o s chars)
  unfolding esi_goes_on esi_ends
  one_esi_on chars = one_of _ _ _ (one_silent _) (one_replies _ _)

  one_suo_on : (chars : List ℕ) → One (suo_goes_on s chars)
  unfolding suo_goes_on suo_ends
  one_suo_on chars = one_of _ _ _ (one_silent _) (one_silent _)

  one_var_on : (f : Opened) (chars : List ℕ) → One (var_goes_on o s f chars)
  unfolding var_goes_on var_ends
  one_var_on f chars = one_of _ _ _ (one_silent _) (one_replies _ _)

  one_first : (chars : List ℕ) → One (first_record o s chars)
  unfolding first_record esi_starts esi_ends
  one_first chars = one_of _ _ _ (one_of _ _ _ (one_esi_on chars) (one_replies _ _)) (one_esi 1010 10 _ _)

  one_outside : (told : Bool) (chars : List ℕ) → One (outside_record o s told chars)
  unfolding outside_record suo_starts suo_ends
  one_outside told chars =
      one_of _ _ _ (one_of _ _ _ (one_suo_on chars) (one_silent _))
      (one_of _ _ _ (one_esi 1011 10 _ _) (one_of _ _ _ (one_silent s) (one_pte 1023 _)))

  one_frame : (f : Opened) (chars : List ℕ) → One (frame_record o s f chars)
  unfolding frame_record var_starts var_ends
  one_frame f chars =
      one_of _ _ _ (one_of _ _ _ (one_var_on f chars) (one_replies _ _))
      (one_of _ _ _ (one_pte 1024 _) (one_of _ _ _ (one_pte 1024 _) (one_silent _)))

  one_record : (x : Situation) (chars : List ℕ) → One (record_in o s x chars)
  unfolding record_in
  one_record before_esi chars = one_first chars
  one_record (collecting_esi sofar) chars = one_esi_on _
  one_record (outside told) chars = one_outside told chars
  one_record (collecting_suo sofar) chars = one_suo_on _
  one_record (in_frame f) chars = one_frame f chars
  one_record (collecting_var sofar f) chars = one_var_on f _
  one_record closed chars = one_silent s

  one_past : (x : Situation) → One (past_in o s x)
  unfolding past_in
  one_past before_esi = one_esi 1034 0 _ _
  one_past (collecting_esi sofar) = one_esi 1034 0 _ _
  one_past (outside told) = one_pte 1034 _
  one_past (collecting_suo sofar) = one_pte 1034 _
  one_past (in_frame f) = one_pte 1034 _
  one_past (collecting_var sofar f) = one_pte 1034 _
  one_past closed = one_silent s

  one_end : (x : Situation) → One (end_in o s x)
  unfolding end_in esi_ends var_ends
  one_end before_esi = one_silent s
  one_end (collecting_esi sofar) = one_replies _ _
  one_end (outside told) = one_silent s
  one_end (collecting_suo sofar) = one_pte 1032 _
  one_end (in_frame f) = one_pte 1024 _
  one_end (collecting_var sofar f) = one_replies _ _
  one_end closed = one_silent s

-- ---- the whole file

given_length : (at : ℕ) (l : List Answering) → length (given_at at l) ≡ length l
unfolding given_at
given_length at [] = refl
given_length at (a ∷ l) = ap suc (given_length at l)

told_few : (o : Opening) (size : ℕ) (s : Standing) (items : List Item) → length (told_of o size s items).given ≤ length items + 1
unfolding told_of sooner
told_few o size s [] = omega (arith, given_length size (end_in o s s.situation).says, one_end o s s.situation)
told_few o size s (line r ∷ l) =
    let x = record_in o s s.situation r.chars in
    let k = told_few o size x.after l in
    let m = one_record o s s.situation r.chars in
    omega (arith, k, m, length-append (given_at r.end x.says) (told_of o size x.after l).given, given_length r.end x.says)
told_few o size s (past_size at ∷ l) =
    let x = past_in o s s.situation in
    let k = told_few o size x.after l in
    let m = one_past o s s.situation in
    omega (arith, k, m, length-append (given_at at x.says) (told_of o size x.after l).given, given_length at x.says)

pub few_given : (o : Opening) (t : Table) (file : List ℕ) → length (whole_file o t file).given ≤ 4294967297
unfolding whole_file
few_given o t file = omega (arith, told_few o (length file) (at_start t) (items_from 0 [] file), items_few 0 [] file)
