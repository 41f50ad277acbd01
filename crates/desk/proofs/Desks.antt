-- A desk after a call or a reply is put together from what the functions computed, field by field.
-- Assumes nothing.
use Rattle.std.specs.Prelude.{None, Option, Result}
use mathlib.Core.Path.{◌≡◌, sym, ap, ap₂, ◌∙◌}
use mathlib.Core.List.{List, ◌++◌, append_assoc}
use Prim.Native.Nat.{ℕ}
use borrow.Author.Tests.{eq-eqb, ne_eqb}
use lib.Dec.{eqb}
use Rattle.ground.proofs.Choices.{picks, skips}
use Rattle.keys.specs.Keys.{combined, working_key0, next_generation}
use Rattle.message.specs.declared.Fault.{Fault}
use Rattle.desk.specs.Held.{replaced, opened_desk, entered_desk, given_by}
use Rattle.message.specs.declared.Check.{Check}
use Rattle.message.specs.Order.{first_failing}
use Rattle.desk_form.specs.Replies.{reply_checks}
use Rattle.desk_form.specs.declared.Reply.TheVariants.{Esi, Pte}
use Rattle.desk.specs.declared.Sent.{Sent}
use Rattle.desk.specs.Desk.{came_checks, receiver_checks, stamp_sent_checks, batch_sent_checks, reply_key_checks}
use Rattle.desk.specs.Desk.{with_enclosed, desk_esi_checks, desk_pte_checks}
use Rattle.desk.specs.declared.Keys.{Keys}
use Rattle.desk.specs.declared.Held.{Held}
use Rattle.desk.specs.declared.Parts.{Parts}
use Rattle.desk.specs.declared.Given.{Given}
use Rattle.desk.specs.declared.Finding.{Finding}
use Rattle.desk.specs.declared.Checked.{Checked}
use Rattle.desk.specs.declared.Numbered.{Numbered}

-- ---- keys

abbrev keys_of : (generation key : ℕ) → Option Numbered → Keys
keys_of g k b = record { generation = g; key = k; before = b }

abbrev pub only_key : (generation key : ℕ) → Keys
only_key g k = keys_of g k None

-- the key that was used is the current one, or the one before it
module _ (w : Keys) (used next key : ℕ) (p : next ≡ next_generation used) where
  pub current_used : (r : Keys) → w.generation ≡ used → r ≡ replaced w next key → r ≡ with_enclosed w used key
  unfolding replaced with_enclosed
  current_used r e q = q ∙ ap₂ (λ (g : ℕ) (b : Option Numbered). keys_of g key b) p (sym (picks _ _ _ (eq-eqb w.generation used e)))

  pub before_used : (w.generation ≡ used → ⊥) → keys_of next key w.before ≡ with_enclosed w used key
  unfolding with_enclosed
  before_used h = ap₂ (λ (g : ℕ) (b : Option Numbered). keys_of g key b) p (sym (skips _ _ _ (ne_eqb w.generation used h)))

-- ---- desks

abbrev desk_of : (own bank : List ℕ) (transport working : Keys) → Held
desk_of own bank t w = record { own = own; bank = bank; transport = t; working = w }

pub opened_by : (own bank : List ℕ) (p : Parts) (key first : ℕ) (t w : Keys) → key ≡ combined p.part1 p.part2
    → first ≡ working_key0 key → t ≡ only_key p.generation key → w ≡ only_key 0 first
    → desk_of own bank t w ≡ opened_desk own bank p
unfolding opened_desk
opened_by own bank p key first t w e f x y =
    ap₂ (λ (a b : Keys). desk_of own bank a b) (x ∙ ap (only_key p.generation) e)
    (y ∙ ap (only_key 0) (f ∙ ap working_key0 e))

pub entered_by : (h : Held) (p : Parts) (key : ℕ) (t : Keys) → key ≡ combined p.part1 p.part2
    → t ≡ replaced h.transport p.generation key
    → desk_of h.own h.bank t h.working ≡ entered_desk h p
unfolding entered_desk
entered_by h p key t e x =
    ap (λ (a : Keys). desk_of h.own h.bank a h.working) (x ∙ ap (replaced h.transport p.generation) e)

-- the desk with other working keys
abbrev pub with_working : Held → Keys → Held
with_working h w = desk_of h.own h.bank h.transport w

-- ---- what a call gives, where n is its refusal

module _ (n m : ℕ) (served refusing d : Held) (p : n ≡ m) where
  abbrev given : ℕ → Held → Given
  given k x = record { refusal = k; held = x }

  pub given_refused : (n ≡ 0 → ⊥) → d ≡ refusing → given n d ≡ given_by m served refusing
  unfolding given_by
  given_refused h q = ap₂ given p (q ∙ sym (skips (eqb m 0) served refusing (ne_eqb m 0 (λ z. h (p ∙ z)))))

  pub given_served : n ≡ 0 → d ≡ served → given n d ≡ given_by m served refusing
  unfolding given_by
  given_served z q = ap₂ given p (q ∙ sym (picks (eqb m 0) served refusing (eq-eqb m 0 (sym p ∙ z))))

-- ---- the two orders, part by part: lists joined from the left are the same lists joined from the right

four : (a b c d : List Check) → ((a ++ b) ++ c) ++ d ≡ a ++ (b ++ (c ++ d))
four a b c d = simp append_assoc

five : (a b c d e : List Check) → (((a ++ b) ++ c) ++ d) ++ e ≡ a ++ (b ++ (c ++ (d ++ e)))
five a b c d e = simp append_assoc

pub esi_is : (h : Held) (s : Sent) (r : List ℕ) {y : Result Unit Fault}
    → y ≡ first_failing (reply_checks Esi r ++ (receiver_checks h r ++ (stamp_sent_checks s r ++ reply_key_checks h s r)))
    → y ≡ first_failing (desk_esi_checks h s r)
unfolding desk_esi_checks
esi_is h s r p =
    p ∙ ap first_failing (sym (four (reply_checks Esi r) (receiver_checks h r) (stamp_sent_checks s r) (reply_key_checks h s r)))

pub pte_is : (h : Held) (s : Sent) (r : List ℕ) {y : Result Unit Fault}
    → y ≡ first_failing (came_checks r ++ (reply_checks Pte r ++ (receiver_checks h r ++ (batch_sent_checks s r ++ reply_key_checks h s r))))
    → y ≡ first_failing (desk_pte_checks h s r)
unfolding desk_pte_checks
pte_is h s r p =
    p ∙ ap first_failing
    (sym (five (came_checks r) (reply_checks Pte r) (receiver_checks h r) (batch_sent_checks s r) (reply_key_checks h s r)))
