-- An accepted message's reply is full, made with the keys that the message names, and repeats the message: so the desk with the same keys
-- passes it.
-- Assumes nothing.
use Rattle.std.specs.Prelude.{None, Some, Ok}
use Prim.Native.Nat.{ℕ, zero, suc, ◌<◌}
use mathlib.Core.Path.{◌≡◌, refl, sym, ap, ◌∙◌}
use mathlib.Core.Bool.{Bool, true}
use mathlib.Core.List.{List, [], ◌∷◌}
use mathlib.Core.Logic.{◌⊎◌, ⊎_elim}
use native.Mathlib.Nat.{not-suc-le-zero, le_of_suc-le-suc}
use borrow.Author.Tests.{eqb-true}
use lib.ListN.{length, get_or}
use Rattle.ground.specs.Lists.{same}
use Rattle.ground.proofs.Choices.{left, right}
use Rattle.keys.specs.Keys.{next_generation}
use Rattle.customer.specs.Customer.{sound_keys, sound_customer}
use Rattle.customer.specs.Settings.{sound_name, sound_settings}
use Rattle.customer.specs.declared.Customer.{Customer}
use Rattle.customer.specs.declared.Settings.{Settings}
use Rattle.changeover.specs.Held.{held_key}
use Rattle.acceptance.specs.Stamps.{with_stamp}
use Rattle.acceptance.specs.declared.Granted.{Granted}
use Rattle.table.specs.Table.{Table, nobody, customer_in, with_seed, customer_fits, settings_fit, each_sound, sound_table}
use Rattle.table.specs.Named.{named}
use Rattle.table.proofs.Sound.{parts}
use Rattle.table.proofs.Places.{found_is, named_at}
use Rattle.message.specs.Fields.{sender_of, transport_generation_of, working_generation_of}
use Rattle.message.proofs.Order.{accepted}
use Rattle.checks.specs.declared.Occasion.{Occasion}
use Rattle.verdict.specs.Outcomes.{grant_to, record_after, table_after, outcome_of}
use Rattle.verdict.proofs.Laws.{Accepted, after_is, named_stays}
use Rattle.reply.specs.declared.Answering.{Answering}
use Rattle.answers.specs.Answers.{full_answer}
use Rattle.opening.specs.declared.Opening.{Opening}
use Rattle.desk.specs.declared.Held.{Held}
use Rattle.law_desk.specs.Desks.{SameKeys}
use Rattle.law_desk.proofs.Form.{Made}
use Rattle.law_desk.proofs.Passes.{Keyed}
use Rattle.law_desk.proofs.Granted.{used_held, enclosed_lt, enclosed_odd, enclosed_current, none_enclosed, transport_stays}

-- ---- the sender's record in a sound table

pub each_at : (l : List Customer) (i : ℕ) (d : Customer) → each_sound l ≡ true → i < length l
    → (customer_fits (get_or l i d) ≡ true) × (sound_customer (get_or l i d) ≡ true)
unfolding each_sound
each_at [] i d e h = absurd (not-suc-le-zero h)
each_at (c ∷ l) zero d e h = (left _ _ (left _ _ e), right _ _ (left _ _ e))
each_at (c ∷ l) (suc i) d e h = each_at l i d (right _ _ e) (le_of_suc-le-suc h)

working_sound : (c : Customer) → sound_customer c ≡ true → sound_keys c.working ≡ true
unfolding sound_customer
working_sound c s = left _ _ (right _ _ (right _ _ (right _ _ (right _ _ s))))

-- ---- the answer to an accepted message

module _ (t : Table) (sound : sound_table t ≡ true) (o : Opening) (x : Occasion) (pte : Bool) (m closing : List ℕ) (once : ℕ)
    (l : length m ≡ 161) (n : length closing ≡ 161) (a : Accepted t x.today m) where
  abbrev c : Customer
  c = named t (sender_of m)

  abbrev g : Granted
  g = grant_to t x m closing

  abbrev u : Table
  u = table_after t x m closing once

  abbrev answer : Answering
  answer = full_answer u o pte (outcome_of (Ok tt) g x.made) m closing

  sender_sound : (customer_fits c ≡ true) × (sound_customer c ≡ true)
  unfolding customer_in
  sender_sound =
      let p = named_at t (sender_of m) a.place a.known in
      let s = each_at t.customers a.place nobody (parts t sound).each (found_is t (sender_of m) a.place a.known).0 in
      (ap customer_fits p ∙ s.0, ap sound_customer p ∙ s.1)

  -- the record afterwards has the keys that were granted
  record_is : named u (sender_of m) ≡ record_after t x m closing once
  record_is = after_is t x m closing once a

  pub working_after : (named u (sender_of m)).working ≡ g.customer.working
  unfolding record_after with_stamp
  working_after = ap (λ (d : Customer). d.working) record_is

  transport_after : (named u (sender_of m)).transport ≡ c.transport
  unfolding record_after with_stamp grant_to
  transport_after = ap (λ (d : Customer). d.transport) record_is ∙ transport_stays _ _ _ _ _ _

  -- of the generations that the message names it holds what was held before
  pub working_held : held_key (named u (sender_of m)).working (working_generation_of m) ≡ held_key c.working (working_generation_of m)
  unfolding grant_to
  working_held =
      ap (λ (k : _). held_key k (working_generation_of m)) working_after ∙ used_held c t.settings.maker _ x.today (working_generation_of m) _

  pub transport_held_lem : held_key (named u (sender_of m)).transport (transport_generation_of m) ≡ held_key c.transport (transport_generation_of m)
  transport_held_lem = ap (λ (k : _). held_key k (transport_generation_of m)) transport_after

  -- so it is the same which of the two the desk is compared with
  pub keys_before : (h : Held) → SameKeys h c m ⊎ SameKeys h (named u (sender_of m)) m → SameKeys h c m
  keys_before h =
      ⊎_elim (λ k. k)
      (λ k. record { own = k.own; transport = k.transport ∙ transport_held_lem; working = k.working ∙ working_held })

  -- the bank and the software name stay
  bank_stays : u.settings.bank ≡ t.settings.bank
  unfolding table_after with_seed
  bank_stays = ap (λ (s : Settings). s.bank) (named_stays t (sender_of m) (record_after t x m closing once)).1

  software_stays : u.settings.software ≡ t.settings.software
  unfolding table_after with_seed
  software_stays = ap (λ (s : Settings). s.software) (named_stays t (sender_of m) (record_after t x m closing once)).1

  module _ (w : ℕ) (held : held_key c.working (working_generation_of m) ≡ Some w) where
    pub made_so : Made answer pte
    unfolding full_answer settings_fit sound_settings
    made_so =
        let f = (parts t sound).fit in
        let s = (parts t sound).settings in
        record {
          full = refl;
          kind = refl;
          bank = ap length bank_stays ∙ eqb-true _ 25 (left _ _ f);
          software = ap length software_stays ∙ eqb-true _ 16 (left _ _ (right _ _ f));
          message = l;
          closing = n;
          name = ap sound_name software_stays ∙ left _ _ (right _ _ s);
          key = w;
          held = working_held ∙ held;
        }

    pub keyed_so : (h : Held) → SameKeys h c m → Keyed h answer
    unfolding full_answer outcome_of grant_to
    keyed_so h k =
        record {
          own = k.own;
          working = k.working ∙ sym working_held;
          transport = k.transport ∙ sym transport_held_lem;
          enclosed = λ y e. (
            enclosed_odd c t.settings.maker _ x.today (working_generation_of m) _ sender_sound.1 y e,
            enclosed_lt c t.settings.maker _ x.today (working_generation_of m) _ sender_sound.0 y e,
          );
        }

    -- an enclosed key is current afterwards
    pub current_after : (y : ℕ) → g.enclosed ≡ Some y
        → ((named u (sender_of m)).working.generation ≡ next_generation (working_generation_of m))
        × ((named u (sender_of m)).working.key ≡ y)
    unfolding grant_to
    current_after y e =
        let r = enclosed_current c t.settings.maker _ x.today (working_generation_of m) _ (working_sound c sender_sound.1) w held y e in
        (ap (λ (k : _). k.generation) working_after ∙ r.0, ap (λ (k : _). k.key) working_after ∙ r.1)

  pub same_after : g.enclosed ≡ None
      → ((named u (sender_of m)).working.generation ≡ c.working.generation) × ((named u (sender_of m)).working.key ≡ c.working.key)
  unfolding grant_to
  same_after e =
      let r = none_enclosed c t.settings.maker _ x.today (working_generation_of m) _ e in
      (ap (λ (k : _). k.generation) working_after ∙ r.0, ap (λ (k : _). k.key) working_after ∙ r.1)
