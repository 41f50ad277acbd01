-- What a box sees is the whole-file answer, of which each reply with K is a step's that accepts.
-- Assumes nothing.
use Prim.Native.Nat.{ℕ, suc, ◌≤◌}
use mathlib.Core.Path.{◌≡◌, refl, sym, ap, ◌∙◌, subst}
use mathlib.Core.Bool.{Bool, true, false, false≢true}
use mathlib.Core.List.{List, [], ◌∷◌, ◌++◌}
use native.Mathlib.Omega.{arith}
use lib.ListN.{length}
use Rattle.ground.specs.Lists.{Each}
use Rattle.calendar.specs.Dates.{real_date}
use Rattle.table.specs.Decode.{is_table}
use Rattle.reply.specs.Reply.{reply_of}
use Rattle.reply.specs.declared.Answering.{Answering}
use Rattle.opening.specs.declared.Opening.{Opening}
use Rattle.whole_file.specs.Records.{Item, line, past_size, items_of}
use Rattle.whole_file.specs.WholeFile.{Standing, Step, Given, replies, esi_ends, var_ends, record_in, past_in, end_in, given_at, sooner, told_of}
use Rattle.whole_file.specs.WholeFile.{at_start, whole_file}
use Rattle.calls.specs.Reading.{opening_answer}
use Rattle.law_history.specs.History.{is_k}
use Rattle.law_history.proofs.Codes.{is_accepted}
use Rattle.law_history.proofs.Shown.{says_e}
use Rattle.law_protocol.specs.Protocol.{Saw}
use Rattle.law_protocol.proofs.Opened.{opening_served}
use Rattle.law_demands.specs.Demands.{brought_by}
use Rattle.law_demands.proofs.Box.{served, is_brought, box_any_cuts}
use Rattle.law_desk.specs.Desks.{item_step, next_step, stands_after, opens_on, PassesThere, FilePasses, BoxPassesDesks}
use Rattle.law_desk.proofs.Files.{Good, Steps, quiet, bare, esi, frame, next_steps, next_good, next_passes, start_good}

-- a reply that says K has a code that accepts
k_accepts : (a : Answering) (t : Bool) → is_accepted a.code ≡ t → is_k (reply_of a) ≡ true → is_accepted a.code ≡ true
k_accepts a true e k = e
k_accepts a false e k = absurd (false≢true (sym (says_e a e) ∙ k))

abbrev Passing : Opening → Standing → List Item → Given → Type 0
Passing o start items g = is_k g.reply ≡ true → PassesThere o start items g.reply

each_join : (P : Given → Type 0) (l m : List Given) → Each P l → Each P m → Each P (l ++ m)
each_join P [] m p q = q
each_join P (g ∷ l) m p q = (p.0, each_join P l m p.1 q)

too_long : (l : List Answering) (n : ℕ) → length l ≡ n → n ≤ 1 → (a c : Answering) (m : List Answering) → l ≡ a ∷ c ∷ m → ⊥
too_long l n h k a c m e = let z : length l ≡ suc (suc (length m)) = ap length e in omega arith

-- a step gives at most one reply
at_most_one : (o : Opening) (s : Standing) (chars : List ℕ) (x : Step) → Steps o s chars x
    → (a c : Answering) (l : List Answering) → x.says ≡ a ∷ c ∷ l → ⊥
unfolding esi_ends var_ends replies
at_most_one o s chars x (quiet q k) a c l e = too_long _ 0 (ap length q) (omega arith) a c l e
at_most_one o s chars x (bare pte code n shown q m k) a c l e = too_long _ 1 (ap length q) (omega arith) a c l e
at_most_one o s chars x (esi m t q) a c l e = too_long _ 1 (ap (λ (y : Step). length y.says) q) (omega arith) a c l e
at_most_one o s chars x (frame f m k at t q) a c l e = too_long _ 1 (ap (λ (y : Step). length y.says) q) (omega arith) a c l e

-- one more item
stands_on : (o : Opening) (s : Standing) (read : List Item) (i : Item)
    → stands_after o s (read ++ (i ∷ [])) ≡ (item_step o (stands_after o s read) i).after
unfolding stands_after
stands_on o s [] i = refl
stands_on o s (j ∷ read) i = stands_on o (item_step o s j).after read i

one_more : (read : List Item) (i : Item) (l : List Item) → read ++ (i ∷ l) ≡ (read ++ (i ∷ [])) ++ l
one_more [] i l = refl
one_more (j ∷ read) i l = ap (λ (x : List Item). j ∷ x) (one_more read i l)

module _ (b : List ℕ) (o : Opening) (is : is_table b ≡ true) (real : real_date o.today.yymmdd ≡ true)
    (start : Standing) (items : List Item) where
  -- the replies of one step
  one_step : (read left : List Item) → items ≡ read ++ left → Good b o is real (stands_after o start read) → (at : ℕ) (l : List Answering)
      → (next_step o (stands_after o start read) left).says ≡ l → Each (Passing o start items) (given_at at l)
  unfolding given_at
  one_step read left all g at [] e = tt
  one_step read left all g at (a ∷ []) e = (
    λ k. record {
      read = read;
      left = left;
      all = all;
      answer = a;
      says = e;
      reply = refl;
      passes = next_passes b o is real (stands_after o start read) g left a (k_accepts a (is_accepted a.code) refl k) e;
    },
    tt,
  )
  one_step read left all g at (a ∷ c ∷ l) e =
      absurd (at_most_one o _ _ _ (next_steps o (stands_after o start read) g.fit left) a c l e)

  told_passes : (size : ℕ) (s : Standing) (read left : List Item) → items ≡ read ++ left → s ≡ stands_after o start read → Good b o is real s
      → Each (Passing o start items) (told_of o size s left).given
  unfolding told_of sooner next_step item_step
  told_passes size s read [] all e g =
      subst (λ (z : Standing). Each (Passing o start items) (given_at size (end_in o z z.situation).says)) (sym e)
      (one_step read [] all (subst (Good b o is real) e g) size _ refl)
  told_passes size s read (line r ∷ l) all e g =
      let x : Step = record_in o s s.situation r.chars in
      each_join (Passing o start items) (given_at r.end x.says) (told_of o size x.after l).given
      (subst (λ (z : Standing). Each (Passing o start items) (given_at r.end (record_in o z z.situation r.chars).says)) (sym e)
      (one_step read (line r ∷ l) all (subst (Good b o is real) e g) r.end _ refl))
      (told_passes size x.after (read ++ (line r ∷ [])) l (all ∙ one_more read (line r) l)
      (ap (λ (z : Standing). (item_step o z (line r)).after) e ∙ sym (stands_on o start read (line r)))
      (next_good b o is real s g (line r ∷ l)))
  told_passes size s read (past_size at ∷ l) all e g =
      let x : Step = past_in o s s.situation in
      each_join (Passing o start items) (given_at at x.says) (told_of o size x.after l).given
      (subst (λ (z : Standing). Each (Passing o start items) (given_at at (past_in o z z.situation).says)) (sym e)
      (one_step read (past_size at ∷ l) all (subst (Good b o is real) e g) at _ refl))
      (told_passes size x.after (read ++ (past_size at ∷ [])) l (all ∙ one_more read (past_size at) l)
      (ap (λ (z : Standing). (item_step o z (past_size at)).after) e ∙ sym (stands_on o start read (past_size at)))
      (next_good b o is real s g (past_size at ∷ l)))

pub file_passes : FilePasses
unfolding whole_file stands_after
file_passes b o file z =
    let v = opening_served b o z in
    told_passes b o v.table v.real (at_start (opens_on b o)) (items_of file) (length file) _ [] (items_of file) refl refl (start_good b o z)

pub box_passes : BoxPassesDesks
box_passes b session today time kind clock file ks rooms l words z r =
    let o = brought_by today time kind clock in
    let q = is_brought b session today time kind clock words z in
    let a : opening_answer b o ≡ 0 = subst (λ (x : Opening). opening_answer b x ≡ 0) q (served b session today time kind clock words z) in
    subst (λ (x : Saw). Each (Passing o (at_start (opens_on b o)) (items_of file)) x.given)
    (sym (box_any_cuts b session today time kind clock file ks rooms l words z r)) (file_passes b o file a)
