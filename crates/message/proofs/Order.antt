-- The first failing check of a list: of lists one after the other, the first that has one decides.
-- Assumes nothing.
use Rattle.std.specs.Prelude.{Result, Ok, Err, Option, Some, None, find, cond}
use mathlib.Core.Path.{◌≡◌, refl, sym, ap, ap₂, ◌∙◌}
use mathlib.Core.Bool.{Bool, true, false}
use mathlib.Core.List.{List, [], ◌∷◌, ◌++◌}
use Prim.Native.Nat.{ℕ}
use native.Mathlib.Omega.{arith}
use Rattle.ground.specs.Choice.{both, pick}
use Rattle.ground.proofs.Choices.{left, right, picks, skips}
use Rattle.ground.specs.First.{first_that}
use Rattle.message.specs.declared.Check.{Check}
use Rattle.message.specs.Order.{first_failing, fault_at}
use Rattle.message.specs.declared.About.{About}
use Rattle.message.specs.declared.Fault.{Fault}

-- a check's own fault
abbrev pub fault_of : Check → Result Unit Fault
fault_of c = fault_at c.code c.field c.about

-- the first that fails, as a search finds it
abbrev or_this : Check → Option Check → Check
or_this d None = d
or_this d (Some c) = c

some_is : {x y : Check} → Some x ≡ Some y → x ≡ y
some_is {x} e = ap (or_this x) e

pub found_none : (cs : List Check) → find (λ (c : Check). c.failed) cs ≡ None → Ok tt ≡ first_failing cs
unfolding first_failing first_that pick
found_none [] e = refl
found_none (c ∷ cs) e = by c.failed e (found_none cs)
  where
    by : (t : Bool) → cond t (Some c) (find (λ (d : Check). d.failed) cs) ≡ None
        → (find (λ (d : Check). d.failed) cs ≡ None → Ok tt ≡ first_failing cs) → Ok tt ≡ pick t (fault_of c) (first_failing cs)
    by true p r = absurd (let z : ◌≡◌ {A = ℕ} 0 1 = cc in omega arith)
    by false p r = r p

pub found_some : (cs : List Check) (x : Check) → find (λ (c : Check). c.failed) cs ≡ Some x → fault_of x ≡ first_failing cs
unfolding first_failing first_that pick
found_some [] x e = absurd (let z : ◌≡◌ {A = ℕ} 0 1 = cc in omega arith)
found_some (c ∷ cs) x e = by c.failed e (found_some cs x)
  where
    by : (t : Bool) → cond t (Some c) (find (λ (d : Check). d.failed) cs) ≡ Some x
        → (find (λ (d : Check). d.failed) cs ≡ Some x → fault_of x ≡ first_failing cs) → fault_of x ≡ pick t (fault_of c) (first_failing cs)
    by true p r = ap fault_of (sym (some_is p))
    by false p r = r p

-- the parts of a fault
abbrev code_in : Result Unit Fault → ℕ
code_in (Ok _) = 0
code_in (Err fault) = fault.code

abbrev field_in : Result Unit Fault → ℕ
field_in (Ok _) = 0
field_in (Err fault) = fault.field

pub parts : (fault : Fault) (code field : ℕ) → fault.code ≡ code → fault.field ≡ field → Err fault ≡ fault_at code field fault.about
parts fault code field p q = ap₂ (λ (c n : ℕ). fault_at c n fault.about) p q

-- ---- of lists one after the other

pub first_sound : (a b : List Check) → first_failing a ≡ Ok tt → first_failing (a ++ b) ≡ first_failing b
unfolding first_failing first_that pick
first_sound [] b e = refl
first_sound (c ∷ a) b e = by c.failed e (first_sound a b)
  where
    by : (t : Bool) → pick t (fault_of c) (first_failing a) ≡ Ok tt → (first_failing a ≡ Ok tt → first_failing (a ++ b) ≡ first_failing b)
        → pick t (fault_of c) (first_failing (a ++ b)) ≡ first_failing b
    by true p r = absurd (let z : ◌≡◌ {A = ℕ} 0 1 = cc in omega arith)
    by false p r = r p

pub first_found : (a b : List Check) (code field : ℕ) (about : About) → first_failing a ≡ fault_at code field about
    → first_failing (a ++ b) ≡ fault_at code field about
unfolding first_failing first_that pick
first_found [] b code field about e = absurd (let z : ◌≡◌ {A = ℕ} 0 1 = cc in omega arith)
first_found (c ∷ a) b code field about e = by c.failed e (first_found a b code field about)
  where
    by : (t : Bool) → pick t (fault_of c) (first_failing a) ≡ fault_at code field about
        → (first_failing a ≡ fault_at code field about → first_failing (a ++ b) ≡ fault_at code field about)
        → pick t (fault_of c) (first_failing (a ++ b)) ≡ fault_at code field about
    by true p r = p
    by false p r = r p

-- two lists that are looked at one after the other: the first fault of the first list ends the walk, and where it has none the second
-- decides
pub stops : (a b : List Check) {r y : Result Unit Fault} {fault : Fault} → r ≡ first_failing a → r ≡ Err fault → y ≡ r
    → y ≡ first_failing (a ++ b)
stops a b {r} {y} {fault} p e q =
    q ∙ e ∙ sym (first_found a b fault.code fault.field fault.about (sym p ∙ e))

pub goes_on : (a b : List Check) {r y : Result Unit Fault} → r ≡ first_failing a → r ≡ Ok tt → y ≡ first_failing b
    → y ≡ first_failing (a ++ b)
goes_on a b p e q = q ∙ sym (first_sound a b (sym p ∙ e))

-- ---- what holds of code and field of every check

unfoldable pub each_check : (ℕ → ℕ → Bool) → List Check → Bool
each_check f [] = true
each_check f (c ∷ cs) = both (f c.code c.field) (each_check f cs)

pub first_each : (f : ℕ → ℕ → Bool) (cs : List Check) (code field : ℕ) (about : About) → each_check f cs ≡ true
    → first_failing cs ≡ fault_at code field about → f code field ≡ true
unfolding each_check first_failing first_that pick
first_each f [] code field about a e = absurd (let z : ◌≡◌ {A = ℕ} 0 1 = cc in omega arith)
first_each f (c ∷ cs) code field about a e = by c.failed e (first_each f cs code field about (right _ _ a))
  where
    by : (t : Bool) → pick t (fault_of c) (first_failing cs) ≡ fault_at code field about
        → (first_failing cs ≡ fault_at code field about → f code field ≡ true) → f code field ≡ true
    by true p r =
        let q : c.code ≡ code = ap code_in p in
        let s : c.field ≡ field = ap field_in p in
        ap₂ f (sym q) (sym s) ∙ left _ _ a
    by false p r = r p

-- r is the first fault of two lists, one after the other, wherever x and y are those of each
abbrev pub Joins : Result Unit Fault → Result Unit Fault → Result Unit Fault → Type 0
Joins r x y = (a b : List Check) → x ≡ first_failing a → y ≡ first_failing b → r ≡ first_failing (a ++ b)

-- ---- what a verdict says of the checks

-- no check of the list fails
abbrev pub NoneFails : List Check → Type 0
NoneFails [] = Unit
NoneFails (c ∷ cs) = (c.failed ≡ false) × NoneFails cs

-- the first check of the list that fails has that code, and names that field of that message
pub record First (cs : List Check) (code field : ℕ) (about : About) : Type 0 where
  pub before : List Check
  pub here : Check
  pub after : List Check
  pub order : cs ≡ before ++ (here ∷ after)
  pub passed : NoneFails before
  pub failed : here.failed ≡ true
  pub is : fault_of here ≡ fault_at code field about

-- a list is accepted if, and only if, no check of it fails
pub accepted : (cs : List Check) → first_failing cs ≡ Ok tt → NoneFails cs
unfolding first_failing first_that pick
accepted [] e = tt
accepted (c ∷ cs) e = by c.failed refl e (accepted cs)
  where
    by : (t : Bool) → c.failed ≡ t → pick t (fault_of c) (first_failing cs) ≡ Ok tt
        → (first_failing cs ≡ Ok tt → NoneFails cs) → (c.failed ≡ false) × NoneFails cs
    by true p q r = absurd (let z : ◌≡◌ {A = ℕ} 0 1 = cc in omega arith)
    by false p q r = (p, r q)

pub none_fails_lem : (cs : List Check) → NoneFails cs → first_failing cs ≡ Ok tt
unfolding first_failing first_that
none_fails_lem [] n = refl
none_fails_lem (c ∷ cs) n = skips _ _ _ n.0 ∙ none_fails_lem cs n.1

pub accepted_iff : (cs : List Check) → (first_failing cs ≡ Ok tt → NoneFails cs) × (NoneFails cs → first_failing cs ≡ Ok tt)
accepted_iff cs = (accepted cs, none_fails_lem cs)

-- a list is refused with a code and a field if, and only if, they are those of its first check that fails
pub first_failing_lem : (cs : List Check) (code field : ℕ) (about : About) → first_failing cs ≡ fault_at code field about
    → First cs code field about
unfolding first_failing first_that pick
first_failing_lem [] code field about e = absurd (let z : ◌≡◌ {A = ℕ} 0 1 = cc in omega arith)
first_failing_lem (c ∷ cs) code field about e = by c.failed refl e (first_failing_lem cs code field about)
  where
    by : (t : Bool) → c.failed ≡ t → pick t (fault_of c) (first_failing cs) ≡ fault_at code field about
        → (first_failing cs ≡ fault_at code field about → First cs code field about) → First (c ∷ cs) code field about
    by true p q r = record { before = []; here = c; after = cs; order = refl; passed = tt; failed = p; is = q }
    by false p q r =
        let f = r q in
        record {
          before = c ∷ f.before;
          here = f.here;
          after = f.after;
          order = ap (◌∷◌ c) f.order;
          passed = (p, f.passed);
          failed = f.failed;
          is = f.is;
        }

past : (a b : List Check) → NoneFails a → first_failing (a ++ b) ≡ first_failing b
past a b n = first_sound a b (none_fails_lem a n)

at : (c : Check) (cs : List Check) → c.failed ≡ true → first_failing (c ∷ cs) ≡ fault_of c
unfolding first_failing first_that
at c cs e = picks _ _ _ e

pub found_first : (cs : List Check) (code field : ℕ) (about : About) → First cs code field about → first_failing cs ≡ fault_at code field about
found_first cs code field about f =
    ap first_failing f.order ∙ past f.before _ f.passed ∙ at f.here f.after f.failed ∙ f.is

-- of lists one after the other, each passes
pub none_left : (a b : List Check) → NoneFails (a ++ b) → NoneFails a
none_left [] b n = tt
none_left (c ∷ a) b n = (n.0, none_left a b n.1)

pub none_right : (a b : List Check) → NoneFails (a ++ b) → NoneFails b
none_right [] b n = n
none_right (c ∷ a) b n = none_right a b n.1
