-- A call that is served: no refusal holds, so that the table after it is sound, and the parts that it writes make up that table.
-- Assumes nothing.
use Rattle.std.specs.Prelude.{None, Option, Some}
use mathlib.Core.Path.{◌≡◌, refl, sym, ap, ap₂, subst, ◌∙◌}
use mathlib.Core.List.{List}
use mathlib.Core.Bool.{true, false}
use Prim.Native.Nat.{ℕ, ◌^◌, ◌≤◌, ◌<◌}
use native.Mathlib.Omega.{arith}
use borrow.Author.Tests.{eqb-true, eq-eqb, ltb-false, leb-false, lt-ltb}
use lib.Dec.{eqb}
use lib.ListN.{length}
use Rattle.ground.specs.Choice.{both, either, fails, one, between}
use Rattle.ground.specs.Lists.{all}
use Rattle.ground.proofs.Choices.{join, between_in, fails-false}
use Rattle.ground.proofs.Bools.{neither}
use Rattle.calendar.specs.Dates.{leap, days_in, real_date, earlier}
use Rattle.keys.specs.Keys.{combined, next_generation}
use Rattle.keys.specs.Maker.{key_of, next_seed}
use Rattle.keys.proofs.Laws.{combined_odd, combined-lt, made_odd, made_lt, seed_lt}
use Rattle.customer.specs.Settings.{sound_who, sound_name, sound_settings}
use Rattle.customer.specs.declared.Customer.{Customer}
use Rattle.customer.specs.declared.Settings.{Settings}
use Rattle.changeover.specs.Changes.{with_transport, with_working}
use Rattle.changeover.proofs.Laws.{with_transport_sound, with_working_sound}
use Rattle.table.specs.Table.{settings_fit, customer_fits, rising, distinct, each_sound, sound_table, place_of, customer_in, with_added, with_seed}
use Rattle.table.specs.Named.{named, with_named}
use Rattle.table.specs.Written.{table_size, written, WrittenAs}
use Rattle.table.specs.Decode.{table_of, is_table}
use Rattle.table.specs.Stored.{day_stored, seed_stored, customer_stored, customer_added, table_set_up}
use Rattle.table.proofs.Sound
use Rattle.table.proofs.Encode
use Rattle.table.proofs.Decode
use Rattle.table.proofs.Stores
use Rattle.table.proofs.Places.{is_unknown_lem, known_at, named_at}
use Rattle.refusals.specs.Refusals.{table_full, already_there, no_such_customer, not_next, bad_length}
use Rattle.table_calls.specs.Calls.{new_customer, new_table, added_to, entered_in, ordered_in, setting_up_refusals, setting_up_answer}
use Rattle.table_calls.specs.Calls.{setting_up_leaves, adding_refusals, adding_answer, adding_leaves, entering_refusals, entering_answer}
use Rattle.table_calls.specs.Calls.{entering_leaves, ordering_refusals, ordering_answer, ordering_leaves}
use Rattle.refusals.specs.Length.{length_of}
use Rattle.table_calls.specs.declared.Setting.{Setting}
use Rattle.table_calls.specs.declared.Adding.{Adding}
use Rattle.table_calls.specs.declared.Entering.{Entering}
use Rattle.table_calls.specs.declared.Ordering.{Ordering}
use Rattle.refusals.proofs.Refused.{served, opened}
use Rattle.table_calls.proofs.Rewritten
use Rattle.table_calls.proofs.Rewritten.{served_leaves, day_after, seed_after}
use Rattle.table_calls.proofs.Customers
use Rattle.calendar.specs.declared.CalendarDays.{CalendarDays}

-- ---- set up

first_day : real_date 800101 ≡ true
unfolding real_date days_in leap both between either fails one
first_day = refl

pub record SettingUp (b : List ℕ) (s : Setting) (holidays : List ℕ) : Type 0 where
  pub dates : all real_date holidays ≡ true
  pub size : length b ≡ table_size
  pub bank : sound_who s.bank ≡ true
  pub software : sound_name s.software ≡ true
  pub floor : either (eqb s.floor 110) (eqb s.floor 120) ≡ true
  pub count : length holidays ≤ 200
  pub rises : rising holidays ≡ true

pub setting_up : (b : List ℕ) (s : Setting) (holidays : List ℕ) → setting_up_answer b s holidays ≡ 0 → SettingUp b s holidays
unfolding setting_up_answer setting_up_refusals
setting_up b s holidays z =
    let r = served 4 _ _ refl z in
    let q = (served 11 _ _ refl r.1).0 in
    let q₁ = neither _ _ q in
    let q₂ = neither _ _ q₁.1 in
    let q₃ = neither _ _ q₂.1 in
    let q₄ = neither _ _ q₃.1 in
    let q₅ = neither _ _ q₄.1 in
    record {
      dates = fails-false _ r.0;
      size = eqb-true _ _ (fails-false _ q₁.0);
      bank = fails-false _ q₂.0;
      software = fails-false _ q₃.0;
      floor = fails-false _ q₄.0;
      count = ltb-false 200 (length holidays) q₅.0;
      rises = fails-false _ q₅.1;
    }

module _ (b : List ℕ) (s : Setting) (holidays : List ℕ) (z : setting_up_answer b s holidays ≡ 0) (n₁ : length s.bank ≡ 25)
    (n₂ : length s.software ≡ 16) (n₃ : s.key < 2 ^ 64) (n₄ : s.seed < 2 ^ 64) where
  new_table_sound : sound_table (new_table s holidays) ≡ true
  unfolding new_table settings_fit sound_settings each_sound distinct
  new_table_sound =
      let p = setting_up b s holidays z in
      Sound.whole _
      (record {
        day = first_day;
        fit = join _ _ (eq-eqb _ _ n₁) (join _ _ (eq-eqb _ _ n₂) (join _ _ (lt-ltb _ _ n₃) (lt-ltb _ _ n₄)));
        settings = join _ _ p.bank (join _ _ p.software p.floor);
        holidays = p.count;
        dates = p.dates;
        rises = p.rises;
        customers = omega arith;
        each = refl;
        distinct = refl;
      })

  pub set_up_leaves : setting_up_leaves b s holidays ≡ written b (new_table s holidays)
  unfolding setting_up_leaves
  set_up_leaves = served_leaves _ b _ z

  pub set_up_written : WrittenAs (new_table s holidays) (setting_up_leaves b s holidays)
  set_up_written =
      subst (WrittenAs (new_table s holidays)) (sym set_up_leaves)
      (Encode.written_sized b (new_table s holidays) (setting_up b s holidays z).size new_table_sound)

  -- what the one write leaves
  pub set_up_is : (settings : Settings) (x : List ℕ)
      → settings ≡ record { bank = s.bank; software = s.software; floor = s.floor; maker = record { key = s.key; seed = s.seed } }
      → x ≡ table_set_up b 800101 settings holidays → x ≡ setting_up_leaves b s holidays
  unfolding new_table
  set_up_is settings x e is =
      let p = setting_up b s holidays z in
      is
      ∙ ap (λ (v : Settings). table_set_up b 800101 v holidays) e
      ∙ Stores.set_up_is b 800101 _ holidays p.size p.count
      ∙ sym set_up_leaves

-- ---- add a customer

pub record AddingServed (b : List ℕ) (a : Adding) : Type 0 where
  pub table : is_table b ≡ true
  pub real : real_date a.today.yymmdd ≡ true
  pub day : earlier a.today.yymmdd (table_of b).day ≡ false
  pub room : length (table_of b).customers < 32
  pub new : place_of (table_of b) a.who ≡ None
  pub who : sound_who a.who ≡ true
  pub generation : a.generation ≤ 9
  pub types : a.types < 2 ^ 16
  pub days : between 1 60 (length_of a.length).0 ≡ true

good_length : (l : Option CalendarDays) → bad_length l ≡ false → between 1 60 (length_of l).0 ≡ true
unfolding bad_length length_of
good_length (Some n) e = fails-false _ e
good_length None e = thirty
  where
    thirty : between 1 60 30 ≡ true
    thirty = between_in 1 60 30 (omega arith) (omega arith)

pub adding_served : (b : List ℕ) (a : Adding) → adding_answer b a ≡ 0 → AddingServed b a
unfolding adding_answer adding_refusals table_full already_there
adding_served b a z =
    let o = opened b a.today _ z in
    let f = served 5 _ _ refl o.rest in
    let g = served 6 _ _ refl f.1 in
    let h = served 8 _ _ refl g.1 in
    let i = served 9 _ _ refl h.1 in
    let j = neither _ _ (served 11 _ _ refl i.1).0 in
    let k = neither _ _ j.1 in
    let l = neither _ _ k.1 in
    record {
      table = o.table;
      real = o.real;
      day = o.day;
      room = leb-false 32 _ f.0;
      new = is_unknown_lem _ (fails-false _ g.0);
      who = fails-false _ j.0;
      generation = ltb-false 9 _ k.0;
      types = leb-false (2 ^ 16) _ l.0;
      days = good_length a.length l.1;
    }

module _ (b : List ℕ) (a : Adding) (z : adding_answer b a ≡ 0) (n : length a.who ≡ 25) where
  s_add : AddingServed b a
  s_add = adding_served b a z

  with_new : sound_table (with_added (table_of b) (new_customer a)) ≡ true
  unfolding new_customer
  with_new =
      Sound.sound_added (table_of b) (new_customer a) (Decode.is_written b s_add.table).sound (Customers.new_fits a n)
      (Customers.new_sound a s_add.who s_add.generation s_add.types s_add.days) s_add.new s_add.room

  added_sound : sound_table (added_to (table_of b) a) ≡ true
  unfolding added_to
  added_sound = Sound.sound_day _ _ with_new s_add.real

  pub add_leaves : adding_leaves b a ≡ written b (added_to (table_of b) a)
  unfolding adding_leaves
  add_leaves = served_leaves _ b _ z

  pub add_table : (is_table (adding_leaves b a) ≡ true) × (table_of (adding_leaves b a) ≡ added_to (table_of b) a)
  add_table =
      let r = Decode.rewritten_is b (added_to (table_of b) a) s_add.table added_sound in
      (ap is_table add_leaves ∙ r.0, ap table_of add_leaves ∙ r.1)

  -- what the two writes leave
  pub added_is : (c : Customer) (x y : List ℕ) → c ≡ new_customer a → x ≡ customer_added b c → y ≡ day_stored x a.today.yymmdd → y
      ≡ adding_leaves b a
  unfolding added_to
  added_is c x y e p q =
      let is : x ≡ written b (with_added (table_of b) (new_customer a)) =
      p ∙ ap (customer_added b) e ∙ Stores.add_is b s_add.table (new_customer a) s_add.room (Customers.new_fits a n) in
      q ∙ day_after b x _ s_add.table with_new is _ s_add.real ∙ sym add_leaves

-- ---- a customer that is there

apart : (f : Option ℕ) → ((i : ℕ) × (f ≡ Some i)) → f ≡ None → ⊥
apart f p q = let e = p.1 in let z : ◌≡◌ {A = ℕ} 0 1 = cc in omega arith

-- ---- enter a transport key

pub record EnteringServed (b : List ℕ) (e : Entering) : Type 0 where
  pub table : is_table b ≡ true
  pub real : real_date e.today.yymmdd ≡ true
  pub day : earlier e.today.yymmdd (table_of b).day ≡ false
  pub place : (i : ℕ) × (place_of (table_of b) e.who ≡ Some i)
  pub next : e.generation ≡ next_generation (named (table_of b) e.who).transport.generation

pub entering_served : (b : List ℕ) (e : Entering) → entering_answer b e ≡ 0 → EnteringServed b e
unfolding entering_answer entering_refusals no_such_customer not_next
entering_served b e z =
    let o = opened b e.today _ z in
    let f = served 7 _ _ refl o.rest in
    let g = served 8 _ _ refl f.1 in
    let h = served 9 _ _ refl g.1 in
    let i = served 10 _ _ refl h.1 in
    record {
      table = o.table;
      real = o.real;
      day = o.day;
      place = known_at _ f.0;
      next = sym (eqb-true _ _ (fails-false _ i.0));
    }

module _ (b : List ℕ) (e : Entering) (z : entering_answer b e ≡ 0) where
  s_enter : EnteringServed b e
  s_enter = entering_served b e z

  t_enter : sound_table (table_of b) ≡ true
  t_enter = (Decode.is_written b s_enter.table).sound

  abbrev pub entered : Customer
  entered = with_transport (named (table_of b) e.who) e.generation (combined e.part1 e.part2) e.today

  entered_fits : customer_fits entered ≡ true
  entered_fits =
      Customers.with_transport_fits _ (Rewritten.named_fits (table_of b) t_enter e.who s_enter.place.0 s_enter.place.1) _ _ _
      (combined-lt e.part1 e.part2)

  with_entered : sound_table (with_named (table_of b) e.who entered) ≡ true
  with_entered =
      let p = s_enter.place in
      Rewritten.sound_named (table_of b) t_enter e.who p.0 p.1 _ entered_fits
      (with_transport_sound _ (Rewritten.named_sound (table_of b) t_enter e.who p.0 p.1) _ _ _ s_enter.next
      (combined_odd e.part1 e.part2) s_enter.real)
      (Customers.transport_who _ _ _ _)

  entered_sound : sound_table (entered_in (table_of b) e) ≡ true
  unfolding entered_in
  entered_sound = Sound.sound_day _ _ with_entered s_enter.real

  pub enter_leaves : entering_leaves b e ≡ written b (entered_in (table_of b) e)
  unfolding entering_leaves
  enter_leaves = served_leaves _ b _ z

  pub enter_table : (is_table (entering_leaves b e) ≡ true) × (table_of (entering_leaves b e) ≡ entered_in (table_of b) e)
  enter_table =
      let r = Decode.rewritten_is b (entered_in (table_of b) e) s_enter.table entered_sound in
      (ap is_table enter_leaves ∙ r.0, ap table_of enter_leaves ∙ r.1)

  -- what the two writes leave, at the place that is found
  pub entered_is : (i : ℕ) (d : Customer) (k : ℕ) (c : Customer) (x y : List ℕ) → place_of (table_of b) e.who ≡ Some i
      → d ≡ customer_in (table_of b) i → k ≡ combined e.part1 e.part2 → c ≡ with_transport d e.generation k e.today
      → x ≡ customer_stored b i c → y ≡ day_stored x e.today.yymmdd → y ≡ entering_leaves b e
  unfolding entered_in
  entered_is i d k c x y p l m n q r =
      let is : c ≡ entered =
      n ∙ ap₂ (λ (v : Customer) (j : ℕ). with_transport v e.generation j e.today)
      (l ∙ sym (named_at (table_of b) e.who i p)) m in
      let w : x ≡ written b (with_named (table_of b) e.who entered) =
      q ∙ ap (customer_stored b i) is ∙ Rewritten.stored_named b s_enter.table e.who i p entered entered_fits in
      r ∙ day_after b x _ s_enter.table with_entered w _ s_enter.real ∙ sym enter_leaves

pub entering_there : (b : List ℕ) (e : Entering) → entering_answer b e ≡ 0 → place_of (table_of b) e.who ≡ None → ⊥
entering_there b e z = apart _ (entering_served b e z).place

-- ---- order a new working key

pub record OrderingServed (b : List ℕ) (o : Ordering) : Type 0 where
  pub table : is_table b ≡ true
  pub real : real_date o.today.yymmdd ≡ true
  pub day : earlier o.today.yymmdd (table_of b).day ≡ false
  pub place : (i : ℕ) × (place_of (table_of b) o.who ≡ Some i)

pub ordering_served : (b : List ℕ) (o : Ordering) → ordering_answer b o ≡ 0 → OrderingServed b o
unfolding ordering_answer ordering_refusals no_such_customer
ordering_served b o z =
    let p = opened b o.today _ z in
    record {
      table = p.table;
      real = p.real;
      day = p.day;
      place = known_at _ (served 7 _ _ refl p.rest).0;
    }

module _ (b : List ℕ) (o : Ordering) (z : ordering_answer b o ≡ 0) where
  s_order : OrderingServed b o
  s_order = ordering_served b o z

  t_order : sound_table (table_of b) ≡ true
  t_order = (Decode.is_written b s_order.table).sound

  abbrev pub made : ℕ
  made = key_of (table_of b).settings.maker.key (table_of b).settings.maker.seed o.clock

  abbrev pub moved : ℕ
  moved = next_seed (table_of b).settings.maker.key (table_of b).settings.maker.seed o.clock

  abbrev pub ordered : Customer
  ordered = with_working (named (table_of b) o.who) made o.today

  ordered_fits : customer_fits ordered ≡ true
  ordered_fits =
      Customers.with_working_fits _ (Rewritten.named_fits (table_of b) t_order o.who s_order.place.0 s_order.place.1) _ _
      (made_lt _ _)

  with_ordered : sound_table (with_named (table_of b) o.who ordered) ≡ true
  with_ordered =
      let p = s_order.place in
      Rewritten.sound_named (table_of b) t_order o.who p.0 p.1 _ ordered_fits
      (with_working_sound _ (Rewritten.named_sound (table_of b) t_order o.who p.0 p.1) _ _ (made_odd _ _) s_order.real)
      (Customers.working_who _ _ _)

  moved-lt : moved < 2 ^ 64
  moved-lt = seed_lt _ _

  with_moved : sound_table (with_seed (with_named (table_of b) o.who ordered) moved) ≡ true
  with_moved = Sound.sound_seed _ _ with_ordered moved-lt

  ordered_sound : sound_table (ordered_in (table_of b) o) ≡ true
  unfolding ordered_in
  ordered_sound = Sound.sound_day _ _ with_moved s_order.real

  pub order_leaves : ordering_leaves b o ≡ written b (ordered_in (table_of b) o)
  unfolding ordering_leaves
  order_leaves = served_leaves _ b _ z

  pub order_table : (is_table (ordering_leaves b o) ≡ true) × (table_of (ordering_leaves b o) ≡ ordered_in (table_of b) o)
  order_table =
      let r = Decode.rewritten_is b (ordered_in (table_of b) o) s_order.table ordered_sound in
      (ap is_table order_leaves ∙ r.0, ap table_of order_leaves ∙ r.1)

  -- what the three writes leave, at the place that is found
  pub ordered_is : (i : ℕ) (d : Customer) (g : Settings) (k v : ℕ) (c : Customer) (x y w : List ℕ) → place_of (table_of b) o.who ≡ Some i
      → d ≡ customer_in (table_of b) i → g ≡ (table_of b).settings
      → (k ≡ key_of g.maker.key g.maker.seed o.clock) × (v ≡ next_seed g.maker.key g.maker.seed o.clock)
      → c ≡ with_working d k o.today
      → x ≡ customer_stored b i c → y ≡ seed_stored x v → w ≡ day_stored y o.today.yymmdd → w ≡ ordering_leaves b o
  unfolding ordered_in
  ordered_is i d g k v c x y w p l h u n q r s =
      let made_is : k ≡ made = u.0 ∙ ap (λ (j : Settings). key_of j.maker.key j.maker.seed o.clock) h in
      let m : v ≡ moved = u.1 ∙ ap (λ (j : Settings). next_seed j.maker.key j.maker.seed o.clock) h in
      let is : c ≡ ordered =
      n ∙ ap₂ (λ (z : Customer) (j : ℕ). with_working z j o.today) (l ∙ sym (named_at (table_of b) o.who i p)) made_is in
      let x_is : x ≡ written b (with_named (table_of b) o.who ordered) =
      q ∙ ap (customer_stored b i) is ∙ Rewritten.stored_named b s_order.table o.who i p ordered ordered_fits in
      let y_is : y ≡ written b (with_seed (with_named (table_of b) o.who ordered) moved) =
      r ∙ ap (seed_stored x) m ∙ seed_after b x _ s_order.table with_ordered x_is moved moved-lt in
      s ∙ day_after b y _ s_order.table with_moved y_is _ s_order.real ∙ sym order_leaves

pub ordering_there : (b : List ℕ) (o : Ordering) → ordering_answer b o ≡ 0 → place_of (table_of b) o.who ≡ None → ⊥
ordering_there b o z = apart _ (ordering_served b o z).place
