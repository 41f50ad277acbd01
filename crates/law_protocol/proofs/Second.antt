-- After an end that replied and leaves another reply due, the next end gives just that reply:
-- no record is on its way, or a SUO that wants more.
-- Assumes nothing.
use Prim.Native.Nat.{ℕ}
use mathlib.Core.Path.{◌≡◌, refl, sym, ap, ◌∙◌, subst}
use mathlib.Core.List.{List, []}
use mathlib.Core.Bool.{Bool, true, false, false≢true}
use lib.Dec.{ltb}
use Rattle.ground.specs.Choice.{pick}
use Rattle.ground.proofs.Choices.{picks, skips}
use Rattle.ground.proofs.Bools.{either_none, picked}
use Rattle.table.specs.Decode.{table_of}
use Rattle.message.specs.declared.Kind.{Kind}
use Rattle.message.specs.declared.Kind.TheVariants.{Esi, Suo, Var}
use Rattle.message.specs.declared.Collected.{Collected}
use Rattle.reply.specs.declared.Answering.{Answering}
use Rattle.answers.specs.Answers.{bare_answer}
use Rattle.opening.specs.declared.Opening.{Opening}
use Rattle.session.specs.Lines.{waited, line_ended}
use Rattle.session.specs.Events.{Turn, silent, replies, nothing, placed, with_batch, judged, bare_turn, shut, heard_by, heard, gathered_all}
use Rattle.session.specs.Events.{wants, place_after_esi, esi_done, suo_done, var_done, keeps_on, esi_on, suo_on, var_on, esi_start, suo_start, var_start}
use Rattle.session.specs.Events.{first_ends, outside_ends, frame_ends, collecting_ends, ends_in, record_ended, cut_short, finished_in, file_ended}
use Rattle.session.specs.Events.{is_due}
use Rattle.session.specs.Machine.{with_line, is_begun, last_ended}
use Rattle.session.specs.declared.Place.{Place}
use Rattle.session.specs.declared.Place.TheVariants.{BeforeEsi, Outside, Collecting, InData, Closed}
use Rattle.session.specs.declared.Gathered.{Gathered}
use Rattle.session.specs.declared.Session.{Session}
use Rattle.calls.specs.Reading.{awaits}

-- ---- the file's end gives a reply where one is due

short_given : (kind : Kind) (s : Session) (w : List ℕ) → (cut_short kind s w).out.reply.given ≡ true
unfolding cut_short esi_done var_done bare_turn replies
short_given Esi s w = refl
short_given Suo s w = refl
short_given Var s w = refl

given_in : (p : Place) (s : Session) (w : List ℕ) → (finished_in p s w).out.reply.given ≡ is_due p
unfolding finished_in is_due silent bare_turn replies
given_in BeforeEsi s w = refl
given_in Outside s w = refl
given_in (Collecting kind) s w = short_given kind s w
given_in InData s w = refl
given_in Closed s w = refl

pub due_given : (s : Session) (w : List ℕ) → (file_ended s w).out.reply.given ≡ is_due s.place
unfolding file_ended
due_given s w = given_in s.place s w

-- ---- what a last record that replied leaves, where another reply is due

-- no CR waits; data with nothing on its way, or a SUO that wants more
data Left (u : Session) : Type 0 where
  in_data_case : u.line.cr ≡ false → u.place ≡ InData → u.gathered.count ≡ 0 → Left u
  in_suo : u.line.cr ≡ false → u.place ≡ Collecting Suo → wants u.gathered ≡ true → Left u

abbrev Leaves : Turn → Type 0
Leaves x = x.out.reply.given ≡ true → is_due x.out.session.place ≡ true → Left x.out.session

unsaid_leaves : (u : Session) (w : List ℕ) → Leaves (silent u w)
unfolding silent
unsaid_leaves u w e d = absurd (false≢true e)

undue_leaves : (a : Answering) (u : Session) (w : List ℕ) → is_due u.place ≡ false → Leaves (replies a u w)
unfolding replies
undue_leaves a u w h e d = absurd (false≢true (sym h ∙ d))

undue_esi : (t : Bool) → is_due (place_after_esi t) ≡ false
unfolding place_after_esi is_due
undue_esi true = refl
undue_esi false = refl

module _ (s : Session) (w : List ℕ) (c : s.line.cr ≡ false) where
  either_leaves : (t : Bool) (x y : Turn) → Leaves x → Leaves y → Leaves (pick t x y)
  either_leaves t x y a b = picked Leaves t x y (λ e. a) (λ e. b)

  shut_leaves : (pte : Bool) (code field : ℕ) (chars : List ℕ) → Leaves (bare_turn s w pte code field chars (shut s))
  unfolding bare_turn shut placed is_due
  shut_leaves pte code field chars = undue_leaves _ (shut s) w refl

  esi_leaves : (m : Collected) → Leaves (esi_done s w m)
  unfolding esi_done judged
  esi_leaves m = undue_leaves _ _ _ (undue_esi _)

  var_leaves : (m : Collected) → Leaves (var_done s w m)
  unfolding var_done judged is_due
  var_leaves m = undue_leaves _ _ _ refl

  esi_on_leaves : Leaves (esi_on s w)
  unfolding esi_on
  esi_on_leaves = either_leaves _ _ _ (unsaid_leaves _ w) (esi_leaves _)

  var_on_leaves : Leaves (var_on s w)
  unfolding var_on
  var_on_leaves = either_leaves _ _ _ (unsaid_leaves _ w) (var_leaves _)

  suo_left : (m : Collected) → Left (suo_done s w m)
  unfolding suo_done placed with_batch nothing
  suo_left m = in_data_case c refl refl

  on_left : wants s.gathered ≡ true → Left (keeps_on s Suo)
  unfolding keeps_on placed
  on_left e = in_suo c refl e

  suo_on_left : Left (suo_on s w)
  unfolding suo_on
  suo_on_left = picked Left _ _ _ (λ e. on_left e) (λ e. suo_left _)

  suo_start_left : Left (suo_start s w)
  unfolding suo_start
  suo_start_left = picked Left _ _ _ (λ e. suo_on_left) (λ e. suo_left _)

  second_leaves : Leaves (bare_turn s w true 1024 0 [] (suo_start s w))
  unfolding bare_turn replies
  second_leaves e d = suo_start_left

  skipped_leaves : Leaves (bare_turn s w true 1023 0 [] (placed s Outside true nothing))
  unfolding bare_turn placed is_due
  skipped_leaves = undue_leaves _ _ w refl

  first_leaves : Leaves (first_ends s w)
  unfolding first_ends esi_start
  first_leaves = either_leaves _ _ _ (either_leaves _ _ _ esi_on_leaves (esi_leaves _)) (shut_leaves false 1010 10 _)

  outside_leaves : Leaves (outside_ends s w)
  unfolding outside_ends
  outside_leaves =
      either_leaves _ _ _ (unsaid_leaves _ w)
      (either_leaves _ _ _ (shut_leaves false 1011 10 _) (either_leaves _ _ _ (unsaid_leaves _ w) skipped_leaves))

  frame_leaves : Leaves (frame_ends s w)
  unfolding frame_ends var_start
  frame_leaves =
      either_leaves _ _ _ (either_leaves _ _ _ var_on_leaves (var_leaves _))
      (either_leaves _ _ _ second_leaves (either_leaves _ _ _ (shut_leaves true 1024 0 _) (unsaid_leaves _ w)))

  collecting_leaves : (kind : Kind) → Leaves (collecting_ends kind s w)
  unfolding collecting_ends
  collecting_leaves Esi = esi_on_leaves
  collecting_leaves Suo = unsaid_leaves _ w
  collecting_leaves Var = var_on_leaves

  in_leaves : (p : Place) → Leaves (ends_in p s w)
  unfolding ends_in
  in_leaves BeforeEsi = first_leaves
  in_leaves Outside = outside_leaves
  in_leaves (Collecting kind) = collecting_leaves kind
  in_leaves InData = frame_leaves
  in_leaves Closed = unsaid_leaves s w

  record_leaves : Leaves (record_ended s w)
  unfolding record_ended
  record_leaves = in_leaves s.place

last_leaves : (s : Session) (w : List ℕ) → Leaves (last_ended s w)
unfolding last_ended with_line line_ended
last_leaves s w = picked Leaves (is_begun s) _ _ (λ e. record_leaves _ w refl) (λ e. unsaid_leaves s w)

-- ---- the next end

-- the turn x of its last record is silent, and the file's end after it says what it would have said of u, over the table v
pub record Next (u : Session) (v : List ℕ) (x : Turn) : Type 0 where
  pub unsaid : x.out.reply.given ≡ false
  pub same_reply : (file_ended x.out.session x.table).out.reply ≡ (file_ended u v).out.reply
  pub same_table : (file_ended x.out.session x.table).table ≡ (file_ended u v).table

-- both ends give the same bare reply
abbrev EndsBare : ℕ → Session → List ℕ → Type 0
EndsBare n s v = file_ended s v ≡ bare_turn s v true n 0 [] (shut s)

data_bare : (s : Session) (v : List ℕ) → s.place ≡ InData → EndsBare 1024 s v
unfolding file_ended finished_in
data_bare s v p = ap (λ (q : Place). finished_in q s v) p

suo_bare : (s : Session) (v : List ℕ) → s.place ≡ Collecting Suo → EndsBare 1032 s v
unfolding file_ended finished_in cut_short
suo_bare s v p = ap (λ (q : Place). finished_in q s v) p

next_silent : (n : ℕ) (u t : Session) (v : List ℕ) → t.opening ≡ u.opening → EndsBare n t v → EndsBare n u v → Next u v (silent t v)
unfolding silent bare_turn replies
next_silent n u t v e a b =
    record {
      unsaid = refl;
      same_reply =
          ap (λ (x : Turn). x.out.reply) a
          ∙ ap (λ (o : Opening). record { given = true; answer = bare_answer (table_of v) o true n 0 [] }) e
          ∙ sym (ap (λ (x : Turn). x.out.reply) b);
      same_table = ap (λ (x : Turn). x.table) a ∙ sym (ap (λ (x : Turn). x.table) b);
    }

-- the SUO on its way, met with the file's end
suo_again : (s : Session) (v : List ℕ) → s.place ≡ Collecting Suo → wants s.gathered ≡ true
    → record_ended s v ≡ silent (keeps_on s Suo) v
unfolding record_ended ends_in collecting_ends suo_on
suo_again s v p e = ap (λ (q : Place). ends_in q s v) p ∙ ap (λ (t : Session). silent t v) (picks {A = Session} _ _ _ e)

waited_none : (g : Gathered) (t : Bool) → t ≡ false → gathered_all g (waited t) ≡ g
unfolding waited gathered_all
waited_none g t e = ap (λ (b : Bool). gathered_all g (waited b)) e

next_data : (u : Session) (v : List ℕ) → u.line.cr ≡ false → u.place ≡ InData → u.gathered.count ≡ 0
    → Next u v (last_ended (awaits u) v)
unfolding last_ended is_begun awaits
next_data u v c p g =
    subst (Next u v) (sym (skips {A = Turn} _ _ _ (either_none _ _ c (ap (ltb 0) g))))
    (next_silent 1024 u (awaits u) v refl (data_bare (awaits u) v p) (data_bare u v p))

next_suo : (u : Session) (v : List ℕ) → u.line.cr ≡ false → u.place ≡ Collecting Suo → wants u.gathered ≡ true
    → Next u v (last_ended (awaits u) v)
unfolding last_ended awaits with_line heard heard_by keeps_on placed
next_suo u v c p e =
    let m = ap wants (waited_none u.gathered u.line.cr c) ∙ e in
    picked (Next u v) _ _ _
    (λ t. subst (Next u v) (sym (suo_again _ v p m)) (next_silent 1032 u _ v refl (suo_bare _ v refl) (suo_bare u v p)))
    (λ t. next_silent 1032 u (awaits u) v refl (suo_bare (awaits u) v p) (suo_bare u v p))

next_left : (u : Session) (v : List ℕ) → Left u → Next u v (last_ended (awaits u) v)
next_left u v (in_data_case c p g) = next_data u v c p g
next_left u v (in_suo c p e) = next_suo u v c p e

pub next_end : (s : Session) (w : List ℕ) (x : Turn) → x ≡ last_ended s w → x.out.reply.given ≡ true
    → is_due x.out.session.place ≡ true
    → Next x.out.session x.table (last_ended (awaits x.out.session) x.table)
next_end s w x is e d = next_left x.out.session x.table (subst Leaves (sym is) (last_leaves s w) e d)
