-- No stamp is accepted twice: a stamp that was accepted is used ever after,
-- held or too old, and a message whose stamp is used is not accepted.
-- Assumes nothing.
use Prim.Native.Nat.{ℕ}
use mathlib.Core.Path.{◌≡◌, refl, sym, ap, ◌∙◌, subst}
use mathlib.Core.List.{List, [], ◌∷◌, ◌++◌}
use mathlib.Core.Bool.{Bool, true, false, false≢true}
use native.Mathlib.Omega.{arith}
use borrow.Author.Tests.{eq-eqb}
use lib.Dec.{eqb}
use Rattle.ground.specs.Choice.{either, fails}
use Rattle.ground.proofs.Choices.{left, right, join, either_left, either_right, fails_left, fails_right, same-eq}
use Rattle.ground.proofs.Bools.{fails_of, refuted}
use Rattle.text.specs.Numbers.{decimal}
use Rattle.table.specs.Table.{Table, sound_table, with_day}
use Rattle.table.specs.Decode.{table_of, is_table}
use Rattle.table.proofs.Decode.{is_written}
use Rattle.table_calls.specs.Calls.{added_to, entered_in, ordered_in, adding_leaves, entering_leaves, ordering_leaves}
use Rattle.table_calls.specs.declared.Setting.{Setting}
use Rattle.table_calls.proofs.Served.{entering_served, ordering_served}
use Rattle.table_calls.proofs.Laws.{adding_table, entering_table, ordering_table, added_day, entered_day, ordered_day}
use Rattle.message.specs.Fields.{receiver_of, sender_of, stamp_text_of, stamp_of}
use Rattle.calls.specs.Reading.{opening_leaves}
use Rattle.calls.specs.Calls.{Call, setting_up, adding, entering, ordering, opening, reading, ending, Typed, refusal_of, left_by, reply_by}
use Rattle.calls.specs.Calls.{replies_over}
use Rattle.law_history.specs.History.{is_k, agree, none_like, all_different, is_setting_up, is_hearing, no_set_up, AllTyped, more}
use Rattle.law_history.proofs.Hearing.{Heard, nothing, with_e, with_k}
use Rattle.law_history.proofs.Onward.{Onward, Used, used_onward, day_stays, took_onward, took_fresh, took_used, opened_onward}
use Rattle.law_history.proofs.Onward.{added_onward, entered_onward, ordered_onward}
use Rattle.law_history.proofs.Stays.{call_heard, heard_table, opening_served, opening_table, refused_stays, refused_silent}
use Rattle.law_history.proofs.Stays.{by_refusal, call_table}

-- a call from the table t to the table u shows nothing, or no K, or K with a stamp that was not used and then is
data Gives (t u : Table) (rs : List (List ℕ)) : Type 0 where
  gives_none : rs ≡ [] → Gives t u rs
  gives_e : (r : List ℕ) → rs ≡ r ∷ [] → is_k r ≡ false → Gives t u rs
  gives_k : (r : List ℕ) → rs ≡ r ∷ [] → (Used t (receiver_of r) (stamp_of r) → ⊥) → Used u (receiver_of r) (stamp_of r) → Gives t u rs

record Step (b : List ℕ) (c : Call) : Type 0 where
  table : is_table (left_by b c) ≡ true
  onward : Onward (table_of b) (table_of (left_by b c))
  gives : Gives (table_of b) (table_of (left_by b c)) (reply_by b c)

sound_of : (b : List ℕ) → is_table b ≡ true → sound_table (table_of b) ≡ true
sound_of b e = (is_written b e).sound

-- ---- every byte stays

same_onward : (t u : Table) → sound_table t ≡ true → u ≡ t → Onward t u
same_onward t u e q =
    subst (Onward t) (sym q)
    (record {
      sound = e;
      holidays = refl;
      day = day_stays t t refl;
      there = omega arith;
      who = λ i l. refl;
      kept = λ i l s h o. h;
    })

bytes_onward : (b u : List ℕ) → is_table b ≡ true → u ≡ b → Onward (table_of b) (table_of u)
bytes_onward b u e q = same_onward (table_of b) (table_of u) (sound_of b e) (ap table_of q)

refused_step : (b : List ℕ) (c : Call) → is_table b ≡ true → (refusal_of b c ≡ 0 → ⊥) → Step b c
refused_step b c e z =
    let q = refused_stays b c z in
    record { table = ap is_table q ∙ e; onward = bytes_onward b (left_by b c) e q; gives = gives_none (refused_silent b c z) }

-- ---- a read or an end

stamp_by : (r m : List ℕ) → stamp_text_of r ≡ stamp_text_of m → stamp_of m ≡ stamp_of r
unfolding stamp_of
stamp_by r m e = ap decimal (sym e)

-- the reply r repeats sender and stamp of the message m
module _ (r m : List ℕ) (w : receiver_of r ≡ sender_of m) (s : stamp_text_of r ≡ stamp_text_of m) where
  to_reply : (t : Table) → Used t (sender_of m) (stamp_of m) → Used t (receiver_of r) (stamp_of r)
  to_reply t u = subst (Used t (receiver_of r)) (stamp_by r m s) (subst (λ (x : List ℕ). Used t x (stamp_of m)) (sym w) u)

  to_message : (t : Table) → Used t (receiver_of r) (stamp_of r) → Used t (sender_of m) (stamp_of m)
  to_message t u = subst (Used t (sender_of m)) (sym (stamp_by r m s)) (subst (λ (x : List ℕ). Used t x (stamp_of r)) w u)

heard_onward : (b u : List ℕ) (rs : List (List ℕ)) → is_table b ≡ true → Heard b u rs → Onward (table_of b) (table_of u)
heard_onward b u rs e (nothing p q) = bytes_onward b u e q
heard_onward b u rs e (with_e r p n q) = bytes_onward b u e q
heard_onward b u rs e (with_k r m p k w s i o) = took_onward (table_of b) (table_of u) m o (sound_of u i)

heard_gives : (b u : List ℕ) (rs : List (List ℕ)) → Heard b u rs → Gives (table_of b) (table_of u) rs
heard_gives b u rs (nothing p q) = gives_none p
heard_gives b u rs (with_e r p n q) = gives_e r p n
heard_gives b u rs (with_k r m p k w s i o) =
    gives_k r p (λ x. took_fresh (table_of b) (table_of u) m o (to_message r m w s (table_of b) x))
    (to_reply r m w s (table_of u) (took_used (table_of b) (table_of u) m o))

heard_step : (b : List ℕ) (c : Call) → is_hearing c ≡ true → Typed c → refusal_of b c ≡ 0 → Step b c
heard_step b c h t z =
    let k = call_heard b c h t z in
    record {
      table = heard_table b (left_by b c) (reply_by b c) k.0 k.1;
      onward = heard_onward b (left_by b c) (reply_by b c) k.0 k.1;
      gives = heard_gives b (left_by b c) (reply_by b c) k.1;
    }

-- ---- the calls that keep a table

-- the bytes u are a table, and say the table v
says_sound : (u : List ℕ) (v : Table) → (is_table u ≡ true) × (table_of u ≡ v) → sound_table v ≡ true
says_sound u v k = ap sound_table (sym k.1) ∙ sound_of u k.0

says_onward : (t : Table) (u : List ℕ) (v : Table) → (is_table u ≡ true) × (table_of u ≡ v) → (sound_table v ≡ true → Onward t v)
    → Onward t (table_of u)
says_onward t u v k f = subst (Onward t) (sym k.1) (f (says_sound u v k))

served_step : (b : List ℕ) (c : Call) → is_setting_up c ≡ false → Typed c → refusal_of b c ≡ 0 → Step b c
unfolding is_setting_up is_hearing Typed refusal_of left_by reply_by with_day
served_step b (setting_up s holidays) n t z = absurd (false≢true (sym n))
served_step b (adding a) n t z =
    let k = adding_table b a z t in
    record {
      table = k.0;
      onward = says_onward (table_of b) (adding_leaves b a) (added_to (table_of b) a) k (λ s. added_onward (table_of b) a s (added_day b a z));
      gives = gives_none refl;
    }
served_step b (entering e) n t z =
    let k = entering_table b e z in
    let p = (entering_served b e z).place in
    record {
      table = k.0;
      onward = says_onward (table_of b) (entering_leaves b e) (entered_in (table_of b) e) k
          (λ s. entered_onward (table_of b) e p.0 p.1 s (entered_day b e z));
      gives = gives_none refl;
    }
served_step b (ordering o) n t z =
    let k = ordering_table b o z in
    let p = (ordering_served b o z).place in
    record {
      table = k.0;
      onward = says_onward (table_of b) (ordering_leaves b o) (ordered_in (table_of b) o) k
          (λ s. ordered_onward (table_of b) o p.0 p.1 s (ordered_day b o z));
      gives = gives_none refl;
    }
served_step b (opening o) n t z =
    let k = opening_table b o z in
    record {
      table = k.0;
      onward = says_onward (table_of b) (opening_leaves b o) (with_day (table_of b) o.today.yymmdd) k
          (λ s. opened_onward (table_of b) o.today.yymmdd s (opening_served b o z).day);
      gives = gives_none refl;
    }
served_step b (reading s input room) n t z = heard_step b (reading s input room) refl t z
served_step b (ending s room) n t z = heard_step b (ending s room) refl t z

-- ---- any call but a set-up that is served

no_set_up_lem : (x y : Bool) → y ≡ true → either (fails x) (fails y) ≡ true → x ≡ false
unfolding either fails
no_set_up_lem true y p q = absurd (false≢true (ap fails (sym p) ∙ q))
no_set_up_lem false y p q = refl

step : (b : List ℕ) (c : Call) → is_table b ≡ true → Typed c → either (fails (is_setting_up c)) (fails (eqb (refusal_of b c) 0)) ≡ true
    → Step b c
step b c e t n =
    by_refusal b c (λ z. served_step b c (no_set_up_lem (is_setting_up c) (eqb (refusal_of b c) 0) (eq-eqb _ 0 z) n) t z)
    (λ z. refused_step b c e z)

-- ---- a reply with K, and those after it

agree_used : (t : Table) (r q : List ℕ) → agree r q ≡ true → Used t (receiver_of r) (stamp_of r) → Used t (receiver_of q) (stamp_of q)
unfolding agree stamp_of
agree_used t r q e u =
    let w = same-eq (receiver_of r) (receiver_of q) (left _ _ e) in
    let s = same-eq (stamp_text_of r) (stamp_text_of q) (right _ _ e) in
    subst (λ (x : List ℕ). Used t (receiver_of q) (decimal x)) s (subst (λ (x : List ℕ). Used t x (stamp_of r)) w u)

none_more : (r : List ℕ) (t u : Table) (rs rest : List (List ℕ)) → Used t (receiver_of r) (stamp_of r) → Gives t u rs → none_like r rest ≡ true
    → none_like r (rs ++ rest) ≡ true
unfolding none_like
none_more r t u rs rest x (gives_none e) n = subst (λ (l : List (List ℕ)). none_like r (l ++ rest) ≡ true) (sym e) n
none_more r t u rs rest x (gives_e q e k) n =
    subst (λ (l : List (List ℕ)). none_like r (l ++ rest) ≡ true) (sym e) (join _ _ (fails_of _ (fails_left _ _ k)) n)
none_more r t u rs rest x (gives_k q e f g) n =
    subst (λ (l : List (List ℕ)). none_like r (l ++ rest) ≡ true) (sym e)
    (join _ _ (fails_of _ (fails_right _ _ (refuted (agree r q) (λ a. f (agree_used t r q a x))))) n)

-- no later reply with K agrees with a reply whose stamp is used
none_later : (cs : List Call) (b r : List ℕ) → is_table b ≡ true → AllTyped cs → no_set_up b cs ≡ true
    → Used (table_of b) (receiver_of r) (stamp_of r)
    → none_like r (replies_over b cs) ≡ true
unfolding replies_over none_like no_set_up
none_later [] b r e t n x = refl
none_later (c ∷ cs) b r e (more t ts) n x =
    let s = step b c e t (left _ _ n) in
    none_more r (table_of b) (table_of (left_by b c)) (reply_by b c) (replies_over (left_by b c) cs) x s.gives
    (none_later cs (left_by b c) r s.table ts (right _ _ n)
    (used_onward (table_of b) (table_of (left_by b c)) (sound_of b e) s.onward (receiver_of r) (stamp_of r) x))

different_more : (t u : Table) (rs rest : List (List ℕ)) → Gives t u rs
    → ((r : List ℕ) → Used u (receiver_of r) (stamp_of r) → none_like r rest ≡ true) → all_different rest ≡ true → all_different (rs ++ rest)
    ≡ true
unfolding all_different
different_more t u rs rest (gives_none e) f n = subst (λ (l : List (List ℕ)). all_different (l ++ rest) ≡ true) (sym e) n
different_more t u rs rest (gives_e r e k) f n =
    subst (λ (l : List (List ℕ)). all_different (l ++ rest) ≡ true) (sym e) (join _ _ (either_left _ _ (fails_of _ k)) n)
different_more t u rs rest (gives_k r e g x) f n =
    subst (λ (l : List (List ℕ)). all_different (l ++ rest) ≡ true) (sym e) (join _ _ (either_right _ _ (f r x)) n)

all_different_lem : (cs : List Call) (b : List ℕ) → is_table b ≡ true → AllTyped cs → no_set_up b cs ≡ true → all_different (replies_over b cs)
    ≡ true
unfolding replies_over all_different no_set_up
all_different_lem [] b e t n = refl
all_different_lem (c ∷ cs) b e (more t ts) n =
    let s = step b c e t (left _ _ n) in
    different_more (table_of b) (table_of (left_by b c)) (reply_by b c) (replies_over (left_by b c) cs) s.gives
    (λ r x. none_later cs (left_by b c) r s.table ts (right _ _ n) x)
    (all_different_lem cs (left_by b c) s.table ts (right _ _ n))

-- ---- on a table set up once and kept by the calls alone, no two replies with K agree in sender and stamp

first_shows : (b : List ℕ) (s : Setting) (holidays : List ℕ) (cs : List Call)
    → replies_over (left_by b (setting_up s holidays)) cs ≡ replies_over b (setting_up s holidays ∷ cs)
unfolding replies_over reply_by
first_shows b s holidays cs = refl

typed_first : (c : Call) (cs : List Call) → AllTyped (c ∷ cs) → Typed c × AllTyped cs
typed_first c cs (more t ts) = (t, ts)

pub no_stamp_twice : (b : List ℕ) (s : Setting) (holidays : List ℕ) (cs : List Call)
    → refusal_of b (setting_up s holidays) ≡ 0 → AllTyped (setting_up s holidays ∷ cs) → no_set_up (left_by b (setting_up s holidays)) cs ≡ true
    → all_different (replies_over b (setting_up s holidays ∷ cs)) ≡ true
no_stamp_twice b s holidays cs z t n =
    let k = typed_first (setting_up s holidays) cs t in
    ap all_different (sym (first_shows b s holidays cs))
    ∙ all_different_lem cs (left_by b (setting_up s holidays)) (call_table b (setting_up s holidays) k.0 z) k.1 n
