-- What is read from bytes fits its place: a list of its width, and numbers of eight bytes.
-- Assumes nothing.
use mathlib.Core.Path.{◌≡◌, refl}
use mathlib.Core.List.{List, [], ◌∷◌}
use mathlib.Core.Bool.{true}
use mathlib.Core.Option.{none, some}
use Prim.Native.Nat.{ℕ, suc, ◌^◌, ◌<◌}
use native.Mathlib.Omega.{arith}
use borrow.Author.Tests.{eq-eqb, lt-ltb}
use lib.ListN.{get_or}
use Rattle.ground.specs.Lists.{all}
use Rattle.ground.proofs.Choices.{join}
use Rattle.codec.specs.Layout.{perhaps, Value, Fits}
use Rattle.customer_bytes.specs.Layout.{previous_held, pair_shape, customer_shape, settings_shape, previous_from, pair_from, customer_from}
use Rattle.customer_bytes.specs.Layout.{settings_from}
use Rattle.table.specs.Table.{word, previous_fits, pair_fits, customer_fits, settings_fit}

word_of : (x : ℕ) → x < 256 ^ 8 → word x ≡ true
word_of x h = lt-ltb x (2 ^ 64) (omega arith)

words_of : (l : List ℕ) → ((k : ℕ) → get_or l k 0 < 256 ^ 8) → all word l ≡ true
unfolding all
words_of [] h = refl
words_of (x ∷ l) h = join _ _ (word_of x (h 0)) (words_of l (λ k. h (suc k)))

previous_fits_lem : (v : Value (perhaps previous_held)) → Fits (perhaps previous_held) v → previous_fits (previous_from v) ≡ true
unfolding previous_fits
previous_fits_lem none h = refl
previous_fits_lem (some (g, (k, (f, l)))) h = word_of k h.1.0

pair_fits_lem : (v : Value pair_shape) → Fits pair_shape v → pair_fits (pair_from v) ≡ true
pair_fits_lem (g, (k, p)) h = join _ _ (word_of k h.1.0) (previous_fits_lem p h.1.1)

pub customer_fits_lem : (v : Value customer_shape) → Fits customer_shape v → customer_fits (customer_from v) ≡ true
unfolding customer_fits
customer_fits_lem (who, ((types, (agreed, (leave, (days, (transport, (working, count)))))), (stamps, once)))
    (n, ((h₀, (h₁, (h₂, (h₃, (h₄, (h₅, h₆)))))), (ss, ks))) =
    join _ _ (eq-eqb _ _ n)
    (join _ _ (eq-eqb _ _ ss.0)
    (join _ _ (eq-eqb _ _ ks.0) (join _ _ (words_of once ks.1) (join _ _ (pair_fits_lem transport h₄) (pair_fits_lem working h₅)))))

pub settings_fit_lem : (v : Value settings_shape) → Fits settings_shape v → settings_fit (settings_from v) ≡ true
unfolding settings_fit
settings_fit_lem (bank, (software, (floor, (key, seed)))) (n, (m, (h₀, (h₁, h₂)))) =
    join _ _ (eq-eqb _ _ n) (join _ _ (eq-eqb _ _ m) (join _ _ (word_of key h₁) (word_of seed h₂)))
