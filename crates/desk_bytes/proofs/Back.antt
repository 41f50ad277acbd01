-- A sound desk whose numbers fit is read back from what it is written as, so those bytes are a desk's; and bytes that are a desk's say one
-- whose numbers fit.
-- Assumes nothing.
use Rattle.std.specs.Prelude.{None, Option, Some}
use Prim.Native.Nat.{ℕ, ◌+◌, ◌^◌, ◌<◌, ◌≤◌}
use mathlib.Core.Path.{◌≡◌, ap, ◌∙◌}
use mathlib.Core.Bool.{Bool, true, false}
use mathlib.Core.List.{List}
use native.Mathlib.Omega.{arith}
use borrow.Author.Tests.{eq-eqb, leb-true}
use mathlib.Core.Option.{none, some}
use lib.Dec.{eqb}
use lib.ListN.{length, take, drop}
use Rattle.ground.specs.Choice.{pick}
use Rattle.ground.specs.Lists.{part}
use Rattle.ground.proofs.Choices.{left, right, join, eq-same}
use Rattle.ground.proofs.Parts.{part_all, part_length}
use Rattle.splices.specs.Bytes.{num}
use Rattle.splices.proofs.Splice.{AllBytes, bytes_take, bytes_drop}
use Rattle.splices.proofs.Chunks.{num-lt}
use Rattle.codec.specs.Layout.{width, dec, Fits, perhaps}
use Rattle.codec.proofs.Laws.{wide, fits_sized}
use Rattle.codec.proofs.Laws as codec
use Rattle.desk.specs.declared.Keys.{Keys}
use Rattle.desk.specs.declared.Held.{Held}
use Rattle.desk_bytes.specs.Layout.{held_size, numbered_shape, keys_shape, held_shape, before_from, before_to, keys_to, held_to, held_from}
use Rattle.desk_bytes.specs.Bytes.{sound_before, sound_keys, sound_held, held_bytes, held_of, is_held}
use Rattle.desk_bytes.proofs.Fields.{held_there}
use Rattle.desk.specs.declared.Numbered.{Numbered}

-- ---- keys are eight bytes, names 25 characters

abbrev pub BeforeFits : Option Numbered → Type 0
BeforeFits None = Unit {0}
BeforeFits (Some k) = k.key < 2 ^ 64

pub record KeysFit (k : Keys) : Type 0 where
  pub current : k.key < 2 ^ 64
  pub before : BeforeFits k.before

pub record HeldFits (h : Held) : Type 0 where
  pub own : length h.own ≡ 25
  pub bank : length h.bank ≡ 25
  pub transport : KeysFit h.transport
  pub working : KeysFit h.working

before_fits : (n : ℕ) (b : Option Numbered) → sound_before n b ≡ true → BeforeFits b → Fits (perhaps numbered_shape) (before_to b)
unfolding sound_before
before_fits n None s f = tt
before_fits n (Some k) s f =
    let g : k.generation ≤ 9 = leb-true k.generation 9 (left _ _ s) in
    (omega arith, omega (arith, f))

keys_fit : (k : Keys) → sound_keys k ≡ true → KeysFit k → Fits keys_shape (keys_to k)
unfolding sound_keys
keys_fit k s f =
    let g : k.generation ≤ 9 = leb-true k.generation 9 (left _ _ s) in
    let w = f.current in
    (omega arith, (omega (arith, w), before_fits k.generation k.before (right _ _ (right _ _ s)) f.before))

module _ (h : Held) (s : sound_held h ≡ true) (f : HeldFits h) where
  held_fits : Fits held_shape (held_to h)
  unfolding sound_held
  held_fits =
      let t = right _ _ (right _ _ s) in
      (f.own, (f.bank, (keys_fit h.transport (left _ _ t) f.transport, keys_fit h.working (right _ _ t) f.working)))

  pub held_size_lem : length (held_bytes h) ≡ held_size
  unfolding held_bytes width
  held_size_lem = wide held_shape (held_to h) (fits_sized held_shape (held_to h) held_fits)

  pub held_back : held_of (held_bytes h) ≡ h
  unfolding held_of held_bytes width
  held_back =
      let e = part_all (held_bytes h) 88 (omega (arith, held_size_lem)) in
      ap held_from (codec.back held_shape (held_to h) held_fits 0 (held_bytes h) e) ∙ held_there h

  pub is_held_lem : is_held (held_bytes h) ≡ true
  unfolding is_held
  is_held_lem =
      join _ _ (eq-eqb (length (held_bytes h)) held_size held_size_lem)
      (join _ _ (eq-same (held_bytes (held_of (held_bytes h))) (held_bytes h) (ap held_bytes held_back)) (ap sound_held held_back ∙ s))

-- ---- what bytes say fits

module _ (b : List ℕ) (n : length b ≡ held_size) (a : AllBytes b) where
  word : (at : ℕ) → at + 8 ≤ 88 → num (part at 8 b) < 2 ^ 64
  unfolding part
  word at h =
      let k : at + 8 ≤ length b = omega arith in
      let l : length (take 8 (drop at b)) ≡ 8 = part_length b at 8 k in
      let w = num-lt (take 8 (drop at b)) (bytes_take 8 (drop at b) (bytes_drop at b a)) in
      omega (arith, rw l at w)

  before_in : (at : ℕ) → at + 10 ≤ 88 → BeforeFits (before_from (dec (perhaps numbered_shape) at b))
  unfolding dec width pick
  before_in at h = by (eqb (num (part at 1 b)) 1)
    where
      by : (t : Bool) → BeforeFits (before_from (pick t (some (num (part (at + 1) 1 b), num (part (at + 1 + 1) 8 b))) none))
      by true = word (at + 1 + 1) (omega arith)
      by false = tt

  pub said_fits : HeldFits (held_of b)
  unfolding held_of dec width
  said_fits =
      record {
        own = part_length b 0 25 (omega arith);
        bank = part_length b 25 25 (omega arith);
        transport = record { current = word 51 (omega arith); before = before_in 59 (omega arith) };
        working = record { current = word 70 (omega arith); before = before_in 78 (omega arith) };
      }
