-- Where the fields of a reply stand: each begins where those before it end, which is computed for all 25.
-- Assumes nothing.
use mathlib.Core.Path.{◌≡◌, sym, ap, ◌∙◌}
use mathlib.Core.List.{List, [], ◌∷◌, ◌++◌, map}
use Prim.Native.Nat.{ℕ, suc, ◌+◌, ◌-◌, ◌<◌}
use native.Mathlib.Numerals.{add-one}
use borrow.Author.Tests.{eqb-true}
use lib.Dec.{eqb}
use lib.ListN.{take}
use Rattle.ground.specs.Choice.{both, pick}
use Rattle.ground.specs.Lists.{part}
use Rattle.ground.proofs.Table.{each}
use Rattle.message.specs.Layout.{fields, total, offset_in, width_in, field_text}
use Rattle.message.proofs.Places.{number_at}

-- the tables of the fields' numbers and of their places
abbrev pub numbers : List ℕ
numbers = map (λ f. f.number) fields

abbrev pub starts : List ℕ
starts = map (λ f. offset_in f.number fields) fields ++ (total fields ∷ [])

-- the two rules of a field's place, computed
begins : (i : ℕ) → i < 25 → offset_in (number_at i) fields ≡ total (take i fields)
unfolding both pick offset_in total
begins i h =
    eqb-true _ _ (each (λ k. eqb (offset_in (number_at k) fields) (total (take k fields))) 25 tt i h)

wide : (i : ℕ) → i < 25 → width_in (number_at i) fields ≡ total (take (suc i) fields) - total (take i fields)
unfolding both pick width_in total
wide i h =
    eqb-true _ _ (each (λ k. eqb (width_in (number_at k) fields) (total (take (suc k) fields) - total (take k fields))) 25 tt i h)

pub placed : (i : ℕ) (m : List ℕ) → i < 25
    → part (total (take i fields)) (total (take (i + 1) fields) - total (take i fields)) m ≡ field_text (number_at i) m
unfolding field_text
placed i m h = rw (add-one i, begins i h, wide i h)

-- the characters of the field at a place are those that a span lends
pub lent_field : (i n : ℕ) (s m : List ℕ) → i < 25 → n ≡ number_at i
    → s ≡ part (total (take i fields)) (total (take (i + 1) fields) - total (take i fields)) m → field_text n m ≡ s
lent_field i n s m h p q = ap (λ (x : ℕ). field_text x m) p ∙ sym (q ∙ placed i m h)
