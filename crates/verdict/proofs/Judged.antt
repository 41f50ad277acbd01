-- What the functions answer, from what the calls in them say: each is the definition with its parts replaced by their equals.
-- Assumes nothing.
use Rattle.std.specs.Prelude.{None, Option, Err, Ok, Result}
use mathlib.Core.Path.{◌≡◌, refl, ap, ap₂, ◌∙◌}
use mathlib.Core.Bool.{Bool}
use mathlib.Core.List.{List}
use Prim.Native.Nat.{ℕ}
use Rattle.ground.specs.Choice.{pick}
use Rattle.keys.specs.Maker.{clock_value}
use Rattle.customer.specs.declared.Customer.{Customer}
use Rattle.customer.specs.declared.Settings.{Settings}
use Rattle.acceptance.specs.Grants.{granted_by}
use Rattle.acceptance.specs.Stamps.{with_stamp}
use Rattle.acceptance.specs.declared.Granted.{Granted}
use Rattle.table.specs.Table.{Table, place_of}
use Rattle.table.specs.Named.{named}
use Rattle.table.specs.Decode.{table_of}
use Rattle.table.specs.Stored.{seed_stored}
use Rattle.message.specs.Fields.{sender_of, stamp_of, working_generation_of, request_of}
use Rattle.message.specs.declared.About.{About}
use Rattle.message.specs.declared.About.TheVariants.{Answered}
use Rattle.message.specs.declared.Fault.{Fault}
use Rattle.message.specs.Order.{first_failing, fault_at}
use Rattle.checks.specs.Checks.{esi_checks, frame_checks, key_or0}
use Rattle.verdict.specs.Outcomes.{grant_to, record_after, outcome_of, is_sound, stored_at, bytes_after, bytes_by, esi_outcome, esi_leaves}
use Rattle.verdict.specs.Outcomes.{frame_outcome, frame_leaves}
use Rattle.message.specs.declared.Collected.{Collected}
use Rattle.checks.specs.declared.Frame.{Frame}
use Rattle.checks.specs.declared.Occasion.{Occasion}
use Rattle.verdict.specs.declared.Outcome.{Outcome}

-- ---- acceptance

pub granted_as : (t : Table) (o : Occasion) (m closing : List ℕ) (c : Customer) (s : Settings) (clock g q : ℕ) (r : Granted)
    → c ≡ named t (sender_of m) → s ≡ t.settings → clock ≡ clock_value o.clock o.made → g ≡ working_generation_of m → q
    ≡ request_of closing
    → r ≡ granted_by c s.maker clock o.today g q → r ≡ grant_to t o m closing
unfolding grant_to
granted_as t o m closing c s clock g q r a b d e f h = h ∙ rw (a, b, d, e, f)

pub stored_after : (b : List ℕ) (o : Occasion) (m closing : List ℕ) (once : ℕ) (g : Granted) (c : Customer) (f : Option ℕ) (b₁ b₂ : List ℕ)
    → g ≡ grant_to (table_of b) o m closing → c ≡ with_stamp (table_of b).holidays o.today g.customer (stamp_of m) once
    → f ≡ place_of (table_of b) (sender_of m) → b₁ ≡ stored_at b f c → b₂ ≡ seed_stored b₁ g.seed
    → b₂ ≡ bytes_after b o m closing once
unfolding bytes_after record_after
stored_after b o m closing once g c f b₁ b₂ e p q h k = k ∙ rw (h, q, p, e)

-- ---- the answer

pub accepted_outcome : (f : Result Unit Fault) (g : Granted) (made k : ℕ) → f ≡ Ok tt → k ≡ clock_value made g.made
    → ◌≡◌ {A = Outcome} (record { code = g.code; field = 0; about = Answered; enclosed = g.enclosed; made = k }) (outcome_of f g made)
unfolding outcome_of clock_value
accepted_outcome f g made k e q = rw (q, e)

-- the answer, and what is left, by the fault
pub accepted_so : (f : Result Unit Fault) (made : ℕ) (b x y : List ℕ) (g : Granted) (r : Outcome) → f ≡ Ok tt
    → (r ≡ outcome_of (Ok tt) g made) × (x ≡ y) → (r ≡ outcome_of f g made) × (x ≡ bytes_by f b y)
unfolding bytes_by
accepted_so f made b x y g r e p = rw e p

pub refused_so : (f : Result Unit Fault) (code field : ℕ) (about : About) (g : Granted) (made : ℕ) (b y : List ℕ)
    → f ≡ fault_at code field about
    → (◌≡◌ {A = Outcome} (record { code = code; field = field; about = about; enclosed = None; made = made }) (outcome_of f g made))
    × (b ≡ bytes_by f b y)
unfolding outcome_of bytes_by
refused_so f code field about g made b y e = rw e (refl, refl)

pub esi_judged : (b : List ℕ) (o : Occasion) (m : Collected) (f : Result Unit Fault) (r : Outcome) (x : List ℕ)
    → f ≡ first_failing (esi_checks (table_of b) o.today m)
    → (r ≡ outcome_of f (grant_to (table_of b) o m.text m.text) o.made) × (x ≡ bytes_by f b (bytes_after b o m.text m.text 0))
    → (r ≡ esi_outcome (table_of b) o m) × (x ≡ esi_leaves b o m)
unfolding esi_outcome esi_leaves
esi_judged b o m f r x e h = (
  h.0 ∙ ap (λ (v : Result Unit Fault). outcome_of v (grant_to (table_of b) o m.text m.text) o.made) e,
  h.1 ∙ ap (λ (v : Result Unit Fault). bytes_by v b (bytes_after b o m.text m.text 0)) e,
)

pub frame_judged : (b : List ℕ) (o : Occasion) (g : Frame) (k : ℕ) (f : Result Unit Fault) (r : Outcome) (x : List ℕ) → k ≡ key_or0 g.once
    → f ≡ first_failing (frame_checks (table_of b) o.today o.kind g)
    → (r ≡ outcome_of f (grant_to (table_of b) o g.suo.text g.var.text) o.made)
    × (x ≡ bytes_by f b (bytes_after b o g.suo.text g.var.text k))
    → (r ≡ frame_outcome (table_of b) o g) × (x ≡ frame_leaves b o g)
unfolding frame_outcome frame_leaves
frame_judged b o g k f r x q e h = (
  h.0 ∙ ap (λ (v : Result Unit Fault). outcome_of v (grant_to (table_of b) o g.suo.text g.var.text) o.made) e,
  h.1 ∙ ap₂ (λ (v : Result Unit Fault) (n : ℕ). bytes_by v b (bytes_after b o g.suo.text g.var.text n)) e q,
)
