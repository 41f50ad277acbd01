-- The words of a digest's state stay below 2 ^ 64 whatever runs through it: the block and the count are taken below it, and a cipher's answer
-- is.
-- Assumes nothing.
use Rattle.std.proofs.Common.{ℕ, ◌^◌, ◌<◌, List, [], ◌∷◌, arith}
use Rattle.ground.proofs.Bools.{picked}
use Rattle.text.specs.Characters.{internal}
use Rattle.digest.specs.Running.{begun, alike, fed_byte, took_byte, took_bytes, ended}
use Rattle.digest.specs.Ranges.{StateFits, RunningFits}
use Rattle.digest.specs.declared.Method.{Method}
use Rattle.digest.specs.declared.Method.TheVariants.{Skh, Ske}
use Rattle.digest.specs.declared.State.{State}
use Rattle.digest.specs.declared.Running.{Running}

pub begun_fits : StateFits begun
unfolding begun
begun_fits = record { chain_fits = omega arith; block_fits = omega arith; count_fits = omega arith }

pub alike_fits : {s : State} → StateFits s → RunningFits (alike s)
unfolding alike
alike_fits f = record { start_fits = f; solid_fits = f; last_fits = f }

pub ended_fits : (m : Method) {r : Running} → RunningFits r → RunningFits (ended m r)
unfolding ended
ended_fits Skh f = alike_fits f.solid_fits
ended_fits Ske f = alike_fits f.last_fits

module _ (e : ℕ → ℕ) (lt : (x : ℕ) → e x < 2 ^ 64) where
  fed_fits : (s : State) (b : ℕ) → StateFits s → StateFits (fed_byte e s b)
  unfolding fed_byte
  fed_fits s b f =
      picked StateFits _ _ _ (λ h. record { chain_fits = lt _; block_fits = omega arith; count_fits = omega arith })
      (λ h. record { chain_fits = f.chain_fits; block_fits = omega arith; count_fits = omega arith })

  took_byte_lem : (r : Running) (b : ℕ) → RunningFits r → RunningFits (took_byte e r b)
  unfolding took_byte
  took_byte_lem r b f =
      let n = fed_fits r.last (internal b) f.last_fits in
      record { start_fits = f.start_fits; solid_fits = picked StateFits _ _ _ (λ h. f.solid_fits) (λ h. n); last_fits = n }

  pub took_fits : (l : List ℕ) (r : Running) → RunningFits r → RunningFits (took_bytes e r l)
  unfolding took_bytes
  took_fits [] r f = f
  took_fits (b ∷ l) r f = took_fits l (took_byte e r b) (took_byte_lem r b f)
